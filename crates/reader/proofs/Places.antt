-- Places never fall, and lie within the piece.
use Rattle.std.proofs.Common.{◌≡◌, ℕ, ◌+◌, ◌<◌, ◌≤◌, Bool, true, false, cond, List, [], ◌∷◌, ◌++◌, map, length, arith}
use Rattle.reader.specs.declared.items.Message.{Message}
use Rattle.reader.specs.declared.states.State.{State}
use Rattle.reader.specs.Rules.{Reading, message, part, put, joined, belongs, bytewise, gives, leads}
use Rattle.reader.specs.Laws.{place_of, Rising, PlacesRise}

rising_from : (lo lo' hi : ℕ) (rs : List Reading) → lo' ≤ lo → Rising lo hi rs → Rising lo' hi rs
rising_from lo lo' hi [] le h = tt
rising_from lo lo' hi (r ∷ rs) le h = (omega (arith, h.0), h.1, h.2)

rising_messages : (p hi : ℕ) (xs : List Message) (rs : List Reading) → p < hi → Rising p hi rs → Rising p hi (map (message p) xs ++ rs)
rising_messages p hi [] rs lt h = h
rising_messages p hi (x ∷ xs) rs lt h = (omega arith, lt, rising_messages p hi xs rs lt h)

rising_reading : (v : Bool) (p b hi : ℕ) (xs : List Message) (rs : List Reading) → p < hi → Rising p hi rs → Rising p hi (cond v (part p (b ∷ []) ∷ []) (map (message p) xs) ++ rs)
rising_reading true p b hi xs rs lt h = (omega arith, lt, h)
rising_reading false p b hi xs rs lt h = rising_messages p hi xs rs lt h

rising_bytewise : (st : State) (p : ℕ) (bs : List ℕ) → Rising p (p + length bs) (bytewise st p bs)
rising_bytewise st p [] = tt
rising_bytewise st p (b ∷ bs) =
    let same : (p + 1) + length bs ≡ p + length (b ∷ bs) = omega arith in
    let rest = rw same at (rising_bytewise (leads st b) (p + 1) bs) in
    rising_reading (belongs st b) p b _ (gives st b) _ (omega arith) (rising_from (p + 1) p _ _ (omega arith) rest)

rising_put : (lo hi : ℕ) (r : Reading) (rs : List Reading) → lo ≤ place_of r → place_of r < hi → Rising (place_of r) hi rs → Rising lo hi (put r rs)
rising_put lo hi (message p x) rs low high h = (low, high, h)
rising_put lo hi (part p xs) [] low high h = (low, high, tt)
rising_put lo hi (part p xs) (message q y ∷ rs) low high h = (low, high, h)
rising_put lo hi (part p xs) (part q ys ∷ rs) low high h = (low, high, rising_from q p hi rs h.0 h.2)

rising_joined : (lo hi : ℕ) (rs : List Reading) → Rising lo hi rs → Rising lo hi (joined rs)
rising_joined lo hi [] h = tt
rising_joined lo hi (r ∷ rs) h = rising_put lo hi r (joined rs) h.0 h.1 (rising_joined (place_of r) hi rs h.2)

pub places_rise : PlacesRise
places_rise st p bs = rising_joined p (p + length bs) (bytewise st p bs) (rising_bytewise st p bs)

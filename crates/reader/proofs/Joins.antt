-- Pieces join, and a real-time byte stands apart.
use Rattle.std.proofs.Common.{◌≡◌, ℕ, ◌+◌, ◌<◌, ◌≤◌, Bool, true, false, cond, ◌||◌, eqb, List, [], ◌∷◌, ◌++◌, map, length, sym, refl, ap, ◌∙◌, append_assoc, append-nil, arith}
use Rattle.std.proofs.lemmas.Bool.Decides.{nat_tests}
use Rattle.reader.specs.declared.items.Message.{Message}
use Rattle.reader.specs.declared.items.Message.TheVariants as m
use Rattle.reader.specs.declared.states.State.{State}
use Rattle.reader.specs.Rules.{Reading, message, part, put, joined, belongs, reading, bytewise, gives, leads, reads, reaches}
use Rattle.reader.specs.Laws.{reads_each, concat, if_note_on, note_ons_of, later, TwoPiecesJoin, PiecesJoin, NoteOnsJoin, RealTimeApart}

pub states_join : (st : State) (xs ys : List ℕ) → reaches (reaches st xs) ys ≡ reaches st (xs ++ ys)
states_join st [] ys = refl
states_join st (b ∷ xs) ys = states_join (leads st b) xs ys

bytewise_join : (st : State) (p : ℕ) (xs ys : List ℕ) → bytewise st p (xs ++ ys) ≡ bytewise st p xs ++ bytewise (reaches st xs) (p + length xs) ys
bytewise_join st p [] ys = ap (λ q. bytewise st q ys) (omega arith)
bytewise_join st p (b ∷ xs) ys =
    let place : (p + 1) + length xs ≡ p + length (b ∷ xs) = omega arith in
    rw (bytewise_join (leads st b) (p + 1) xs ys, place) (sym (append_assoc (reading st p b) _ _))

-- ---- joining parts

put_part : (p q : ℕ) (xs ys : List ℕ) (rs : List Reading) → put (part p (xs ++ ys)) rs ≡ put (part p xs) (put (part q ys) rs)
put_part p q xs ys [] = refl
put_part p q xs ys (message r x ∷ rs) = refl
put_part p q xs ys (part r zs ∷ rs) = ap (λ l. part p l ∷ rs) (append_assoc xs ys zs)

joined_put : (r : Reading) (rs ts : List Reading) → joined (put r rs ++ ts) ≡ put r (joined (rs ++ ts))
joined_put (message p x) rs ts = refl
joined_put (part p xs) [] ts = refl
joined_put (part p xs) (message q y ∷ rs) ts = refl
joined_put (part p xs) (part q ys ∷ rs) ts = put_part p q xs ys (joined (rs ++ ts))

joined_front : (rs ts : List Reading) → joined (joined rs ++ ts) ≡ joined (rs ++ ts)
joined_front [] ts = refl
joined_front (r ∷ rs) ts = joined_put r (joined rs) ts ∙ ap (put r) (joined_front rs ts)

joined_twice : (rs : List Reading) → joined (joined rs) ≡ joined rs
joined_twice rs = simp append-nil at (joined_front rs [])

joined_back : (rs ts : List Reading) → joined (rs ++ joined ts) ≡ joined (rs ++ ts)
joined_back [] ts = joined_twice ts
joined_back (r ∷ rs) ts = ap (put r) (joined_back rs ts)

pub reads_join : (st : State) (p : ℕ) (xs ys : List ℕ) → joined (reads st p xs ++ reads (reaches st xs) (p + length xs) ys) ≡ reads st p (xs ++ ys)
reads_join st p xs ys =
    joined_front (bytewise st p xs) (reads (reaches st xs) (p + length xs) ys)
    ∙ joined_back (bytewise st p xs) (bytewise (reaches st xs) (p + length xs) ys)
    ∙ ap joined (sym (bytewise_join st p xs ys))

pub two_pieces_join : TwoPiecesJoin
two_pieces_join st p xs ys = (reads_join st p xs ys, states_join st xs ys)

pub pieces_join : PiecesJoin
pieces_join st p [] = (refl, refl)
pieces_join st p (bs ∷ pieces) =
    let rest = pieces_join (reaches st bs) (p + length bs) pieces in (
      sym (joined_back (reads st p bs) (reads_each (reaches st bs) (p + length bs) pieces))
          ∙ ap (λ rs. joined (reads st p bs ++ rs)) rest.0
          ∙ reads_join st p bs (concat pieces),
      rest.1 ∙ states_join st bs (concat pieces),
    )

-- ---- Note-ons

note_ons_put : (r : Reading) (rs : List Reading) → note_ons_of (put r rs) ≡ note_ons_of (r ∷ rs)
note_ons_put (message p x) rs = refl
note_ons_put (part p xs) [] = refl
note_ons_put (part p xs) (message q y ∷ rs) = refl
note_ons_put (part p xs) (part q ys ∷ rs) = refl

-- the Note-ons of r and then of rs depend on those of rs only
note_ons_cons : (r : Reading) (rs ts : List Reading) → note_ons_of rs ≡ note_ons_of ts → note_ons_of (r ∷ rs) ≡ note_ons_of (r ∷ ts)
note_ons_cons (message p x) rs ts e = ap (if_note_on p x) e
note_ons_cons (part p xs) rs ts e = e

note_ons_joined : (rs : List Reading) → note_ons_of (joined rs) ≡ note_ons_of rs
note_ons_joined [] = refl
note_ons_joined (r ∷ rs) = note_ons_put r (joined rs) ∙ note_ons_cons r (joined rs) rs (note_ons_joined rs)

pub note_ons_join : NoteOnsJoin
note_ons_join st p pieces = sym (note_ons_joined (reads_each st p pieces)) ∙ ap note_ons_of (pieces_join st p pieces).0

-- ---- real-time bytes

real_time : ℕ → Message
real_time b = cond (eqb b 0xF9 || eqb b 0xFD) m.Undefined (m.RealTime b)

shifted : Reading → Reading
shifted (message p x) = message (p + 1) x
shifted (part p xs) = part (p + 1) xs

later_cons : (r : Reading) (rs : List Reading) → later (r ∷ rs) ≡ shifted r ∷ later rs
unfolding shifted
later_cons (message p x) rs = refl
later_cons (part p xs) rs = refl

later_put : (r : Reading) (rs : List Reading) → later (put r rs) ≡ put (shifted r) (later rs)
unfolding shifted
later_put (message p x) rs = refl
later_put (part p xs) [] = refl
later_put (part p xs) (message q y ∷ rs) = refl
later_put (part p xs) (part q ys ∷ rs) = refl

later_joined : (rs : List Reading) → later (joined rs) ≡ joined (later rs)
later_joined [] = refl
later_joined (r ∷ rs) = later_put r (joined rs) ∙ ap (put (shifted r)) (later_joined rs) ∙ ap joined (sym (later_cons r rs))

later_append : (rs ts : List Reading) → later (rs ++ ts) ≡ later rs ++ later ts
later_append [] ts = refl
later_append (message p x ∷ rs) ts = ap (λ l. message (p + 1) x ∷ l) (later_append rs ts)
later_append (part p xs ∷ rs) ts = ap (λ l. part (p + 1) xs ∷ l) (later_append rs ts)

later_messages : (p : ℕ) (xs : List Message) → map (message (p + 1)) xs ≡ later (map (message p) xs)
later_messages p [] = refl
later_messages p (x ∷ xs) = ap (λ l. message (p + 1) x ∷ l) (later_messages p xs)

later_reading : (v : Bool) (p b : ℕ) (xs : List Message) → cond v (part (p + 1) (b ∷ []) ∷ []) (map (message (p + 1)) xs) ≡ later (cond v (part p (b ∷ []) ∷ []) (map (message p) xs))
later_reading true p b xs = refl
later_reading false p b xs = later_messages p xs

later_bytewise : (st : State) (p : ℕ) (bs : List ℕ) → bytewise st (p + 1) bs ≡ later (bytewise st p bs)
later_bytewise st p [] = refl
later_bytewise st p (b ∷ bs) =
    ap (λ rs. reading st (p + 1) b ++ rs) (later_bytewise (leads st b) (p + 1) bs)
    ∙ ap (λ rs. rs ++ later (bytewise (leads st b) (p + 1) bs)) (later_reading (belongs st b) p b (gives st b))
    ∙ sym (later_append (reading st p b) (bytewise (leads st b) (p + 1) bs))

put_front : (r : Reading) (rs : List Reading) (q : ℕ) (y : Message) (ts : List Reading) → put r (rs ++ (message q y ∷ ts)) ≡ put r rs ++ (message q y ∷ ts)
put_front (message p x) rs q y ts = refl
put_front (part p xs) [] q y ts = refl
put_front (part p xs) (message o z ∷ rs) q y ts = refl
put_front (part p xs) (part o zs ∷ rs) q y ts = refl

-- a message parts what stands before it from what stands after it
joined_apart : (rs : List Reading) (q : ℕ) (y : Message) (ts : List Reading) → joined (rs ++ (message q y ∷ ts)) ≡ joined rs ++ (message q y ∷ joined ts)
joined_apart [] q y ts = refl
joined_apart (r ∷ rs) q y ts = ap (put r) (joined_apart rs q y ts) ∙ put_front r (joined rs) q y (joined ts)

-- a byte F8h to FEh gives one message and leaves the state
real_time_stays : (st : State) (b : ℕ) → 0xF8 ≤ b → b < 0xFF → leads st b ≡ st
real_time_stays st b low high = grind (arith, nat_tests)

real_time_alone : (st : State) (b : ℕ) → 0xF8 ≤ b → b < 0xFF → gives st b ≡ real_time b ∷ []
unfolding real_time
real_time_alone st b low high = grind (arith, nat_tests)

not_belongs : (st : State) (b : ℕ) → 0xF8 ≤ b → belongs st b ≡ false
not_belongs st b low = grind (arith, nat_tests)

pub real_time_apart : RealTimeApart
real_time_apart st p xs ys b low high =
    let x = real_time b in
    let q = p + length xs in
    let mid = reaches st xs in
    let here : reading mid q b ≡ message q x ∷ [] =
    ap (λ v. cond v (part q (b ∷ []) ∷ []) (map (message q) (gives mid b))) (not_belongs mid b low) ∙ ap (map (message q)) (real_time_alone mid b low high) in
    let after : bytewise (leads mid b) (q + 1) ys ≡ later (bytewise mid q ys) =
    ap (λ t. bytewise t (q + 1) ys) (real_time_stays mid b low high) ∙ later_bytewise mid q ys in (
      x,
      real_time_alone st b low high,
      ap joined (bytewise_join st p xs (b ∷ ys) ∙ ap (λ rs. bytewise st p xs ++ (rs ++ bytewise (leads mid b) (q + 1) ys)) here ∙ ap (λ rs. bytewise st p xs ++ (message q x ∷ rs)) after)
          ∙ joined_apart (bytewise st p xs) q x (later (bytewise mid q ys))
          ∙ ap (λ rs. reads st p xs ++ (message q x ∷ rs)) (sym (later_joined (bytewise mid q ys))),
      sym (reads_join st p xs ys),
      sym (states_join st xs (b ∷ ys)) ∙ ap (λ t. reaches t ys) (real_time_stays mid b low high) ∙ states_join st xs ys,
    )

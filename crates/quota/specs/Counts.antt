-- How many notes sound: what becomes of the number when notes fall silent, join or leave.
use Rattle.std.specs.Prelude.{◌≡◌, ℕ, ◌+◌, ◌<◌, ◌≤◌, Bool, true, false, cond, not, ◌&&◌, ◌||◌, List, [], ◌∷◌, ◌++◌, length, ◌==◌, refl}
use Rattle.std.proofs.Common.{sym, ap, subst, ◌∙◌, arith, eqb-true}
use Rattle.std.proofs.Math.Bool.{or-true}
use Rattle.sink.proofs.Bools.{clash, self_eq}
use Rattle.roll.specs.declared.note.Note.{Note}
use Rattle.roll.specs.Notes.{lists, left_out, picked}
use Rattle.roll.specs.declared.note.Pick.TheVariants.{Ticket}
use Rattle.roll.proofs.Tickets.{lists_drop, length_drop}
use Rattle.rolled.specs.Chains.{named}
use Rattle.quota.specs.Orders.{sounding_among}
use Rattle.quota.specs.Quota.{EachOnce}

-- fewer notes sound where those that sound did before
fewer_step : (a b : Bool) (n : Note) (xs ys : List Note) → (a ≡ true → b ≡ true) → length xs ≤ length ys → length (cond (not a) xs (n ∷ xs)) ≤ length (cond (not b) ys (n ∷ ys))
fewer_step true true n xs ys f h = omega arith
fewer_step true false n xs ys f h = clash false (f refl) refl
fewer_step false true n xs ys f h = omega arith
fewer_step false false n xs ys f h = h

pub fewer : (f g : ℕ → Bool) (ns : List Note) → ((u : ℕ) → lists ns u ≡ true → f u ≡ true → g u ≡ true) → length (sounding_among f ns) ≤ length (sounding_among g ns)
unfolding lists left_out
fewer f g [] h = omega arith
fewer f g (n ∷ ns) h =
    fewer_step (f n.ticket) (g n.ticket) n (sounding_among f ns) (sounding_among g ns) (h n.ticket (ap (λ b. b || lists ns n.ticket) (self_eq n.ticket)))
    (fewer f g ns (λ u e. h u (ap (λ b. (n.ticket == u) || b) e ∙ or-true (n.ticket == u))))

-- a note that sounded and is silent makes it less
less_step : (a b : Bool) (k : ℕ) (n : Note) (xs ys : List Note) → (a ≡ true → b ≡ true) → (a ≡ true → (n.ticket == k) ≡ false) → length xs ≤ length ys → (lists ys k ≡ true → length xs < length ys) → lists (cond (not b) ys (n ∷ ys)) k ≡ true → length (cond (not a) xs (n ∷ xs)) < length (cond (not b) ys (n ∷ ys))
unfolding lists
less_step true true k n xs ys f g le h e = let lt = h (sym (ap (λ b. b || lists ys k) (g refl)) ∙ e) in omega arith
less_step true false k n xs ys f g le h e = clash false (f refl) refl
less_step false true k n xs ys f g le h e = omega arith
less_step false false k n xs ys f g le h e = h e

pub less : (f g : ℕ → Bool) (k : ℕ) (ns : List Note) → ((u : ℕ) → f u ≡ true → g u ≡ true) → f k ≡ false → lists (sounding_among g ns) k ≡ true → length (sounding_among f ns) < length (sounding_among g ns)
unfolding lists left_out
less f g k [] sub e h = clash false h refl
less f g k (n ∷ ns) sub e h =
    less_step (f n.ticket) (g n.ticket) k n (sounding_among f ns) (sounding_among g ns) (sub n.ticket) (other (n.ticket == k) refl) (fewer f g ns (λ u _. sub u)) (less f g k ns sub e) h
  where
    other : (b : Bool) → (n.ticket == k) ≡ b → f n.ticket ≡ true → b ≡ false
    other true q t = clash (f n.ticket) t (ap f (eqb-true n.ticket k q) ∙ e)
    other false q t = refl

-- notes that leave
leave_step : (p s : Bool) (n : Note) (f : ℕ → Bool) (xs ys : List Note) → f n.ticket ≡ s → length (sounding_among f xs) ≤ length ys → length (sounding_among f (cond p xs (n ∷ xs))) ≤ length (cond (not s) ys (n ∷ ys))
unfolding left_out
leave_step true true n f xs ys e h = omega arith
leave_step true false n f xs ys e h = h
leave_step false s n f xs ys e h = subst (λ b. length (cond (not b) (sounding_among f xs) (n ∷ sounding_among f xs)) ≤ length (cond (not s) ys (n ∷ ys))) (sym e) (fewer_step s s n (sounding_among f xs) ys (λ q. q) h)

pub leave : (f : ℕ → Bool) (p : Note → Bool) (ns : List Note) → length (sounding_among f (left_out p ns)) ≤ length (sounding_among f ns)
unfolding left_out
leave f p [] = omega arith
leave f p (n ∷ ns) = leave_step (p n) (f n.ticket) n f (left_out p ns) (sounding_among f ns) refl (leave f p ns)

-- a note that joins
one_note : (b : Bool) (n : Note) → length (cond (not b) [] (n ∷ [])) ≤ 1
one_note true n = omega arith
one_note false n = omega arith

join_step : (b : Bool) (n : Note) (xs ys : List Note) → length xs ≤ length ys + 1 → length (cond (not b) xs (n ∷ xs)) ≤ length (cond (not b) ys (n ∷ ys)) + 1
join_step true n xs ys h = omega arith
join_step false n xs ys h = h

snoc : (f : ℕ → Bool) (ns : List Note) (n : Note) → length (sounding_among f (ns ++ (n ∷ []))) ≤ length (sounding_among f ns) + 1
unfolding left_out
snoc f [] n = one_note (f n.ticket) n
snoc f (m ∷ ns) n = join_step (f m.ticket) m (sounding_among f (ns ++ (n ∷ []))) (sounding_among f ns) (snoc f ns n)

pub join : (b : Bool) (f : ℕ → Bool) (ns : List Note) (n : Note) → length (sounding_among f (cond b ns (ns ++ (n ∷ [])))) ≤ length (sounding_among f ns) + 1
join true f ns n = omega arith
join false f ns n = snoc f ns n

-- the notes that sound are among the notes
among_step : (b e l : Bool) (n : Note) (xs : List Note) (u : ℕ) → (n.ticket == u) ≡ e → (lists xs u ≡ true → l ≡ true) → lists (cond b xs (n ∷ xs)) u ≡ true → (e || l) ≡ true
unfolding lists
among_step b true l n xs u q f h = refl
among_step true false l n xs u q f h = f h
among_step false false l n xs u q f h = f (sym (ap (λ x. x || lists xs u) q) ∙ h)

pub among : (p : Note → Bool) (ns : List Note) (u : ℕ) → lists (left_out p ns) u ≡ true → lists ns u ≡ true
unfolding lists left_out
among p [] u h = h
among p (n ∷ ns) u h = among_step (p n) (n.ticket == u) (lists ns u) n (left_out p ns) u refl (among p ns u) h

pub lists_mid : (xs ys : List Note) (n : Note) → lists (xs ++ (n ∷ ys)) n.ticket ≡ true
unfolding lists
lists_mid [] ys n = ap (λ b. b || lists ys n.ticket) (self_eq n.ticket)
lists_mid (x ∷ xs) ys n = ap (λ b. (x.ticket == n.ticket) || b) (lists_mid xs ys n) ∙ or-true (x.ticket == n.ticket)

-- a note that sounds is among those that sound
sounds_step : (s e : Bool) (f : ℕ → Bool) (n : Note) (xs : List Note) (u : ℕ) (l : Bool) → f n.ticket ≡ s → (n.ticket == u) ≡ e → f u ≡ true → (l ≡ true → lists xs u ≡ true) → (e || l) ≡ true → lists (cond (not s) xs (n ∷ xs)) u ≡ true
unfolding lists
sounds_step true true f n xs u l p q t h e = ap (λ b. b || lists xs u) q
sounds_step true false f n xs u l p q t h e = ap (λ b. b || lists xs u) q ∙ h e
sounds_step false true f n xs u l p q t h e = clash (f u) t (ap f (sym (eqb-true n.ticket u q)) ∙ p)
sounds_step false false f n xs u l p q t h e = h e

pub sounds_among : (f : ℕ → Bool) (ns : List Note) (u : ℕ) → lists ns u ≡ true → f u ≡ true → lists (sounding_among f ns) u ≡ true
unfolding lists left_out
sounds_among f [] u h t = h
sounds_among f (n ∷ ns) u h t = sounds_step (f n.ticket) (n.ticket == u) f n (sounding_among f ns) u (lists ns u) refl refl t (λ e. sounds_among f ns u e t) h

-- tickets that are all listed, each once, are no more than the notes
pub no_more : (ks : List ℕ) (ns : List Note) → EachOnce ks → ((u : ℕ) → named ks u ≡ true → lists ns u ≡ true) → length ks ≤ length ns
unfolding EachOnce named
no_more [] ns once h = omega arith
no_more (k ∷ ks) ns once h =
    let here = h k (ap (λ b. b || named ks k) (self_eq k)) in
    let lt = length_drop k ns here in
    let rest = no_more ks (left_out (picked (Ticket k)) ns) once.1 (λ u e. lists_drop k ns u ∙ ap (λ b. b && not (k == u)) (h u (ap (λ b. (k == u) || b) e ∙ or-true (k == u))) ∙ ap not (apart u e (k == u) refl)) in
    omega arith
  where
    apart : (u : ℕ) → named ks u ≡ true → (b : Bool) → (k == u) ≡ b → b ≡ false
    apart u e true q = clash (named ks k) (ap (named ks) (eqb-true k u q) ∙ e) once.0
    apart u e false q = refl

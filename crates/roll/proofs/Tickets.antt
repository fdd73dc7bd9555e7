-- What becomes of the tickets of a list of notes when one is added or dropped.
use Rattle.std.proofs.Common.{◌≡◌, ℕ, zero, suc, ◌<◌, ◌≤◌, Bool, true, false, not, ◌&&◌, ◌||◌, eqb, List, [], ◌∷◌, ◌++◌, length, is_some, Some, refl, arith}
use Rattle.std.proofs.lemmas.Bool.{cond_both}
use Rattle.std.proofs.lemmas.Bool.Decides.{nat_tests}
use Rattle.roll.specs.declared.note.Note.{Note}
use Rattle.roll.specs.declared.note.Pick.TheVariants.{Ticket}
use Rattle.roll.specs.Notes.{found, lists, left_out, picked, Distinct, full}

-- found just where listed
pub found_lists : (u : ℕ) (ns : List Note) → is_some (found u ns) ≡ lists ns u
unfolding found lists
found_lists u [] = refl
found_lists u (n ∷ ns) = grind (arith, nat_tests, found_lists u ns)

-- one note more
pub lists_snoc : (ns : List Note) (n : Note) (u : ℕ) → lists (ns ++ (n ∷ [])) u ≡ (eqb n.ticket u || lists ns u)
unfolding lists
lists_snoc [] n u = refl
lists_snoc (m ∷ ns) n u = grind (arith, nat_tests, lists_snoc ns n u)

pub distinct_snoc : (ns : List Note) (n : Note) → Distinct ns → lists ns n.ticket ≡ false → Distinct (ns ++ (n ∷ []))
unfolding Distinct lists
distinct_snoc [] n d h = (refl, tt)
distinct_snoc (m ∷ ns) n d h = (grind (arith, nat_tests, lists_snoc ns n m.ticket), distinct_snoc ns n d.1 (grind (arith, nat_tests)))

-- a ticket's note, among one note more
pub found_old : (ns : List Note) (n : Note) (u : ℕ) → eqb n.ticket u ≡ false → found u (ns ++ (n ∷ [])) ≡ found u ns
unfolding found
found_old [] n u e = grind (arith, nat_tests)
found_old (m ∷ ns) n u e = grind (arith, nat_tests, found_old ns n u e)

pub found_new : (ns : List Note) (n : Note) → lists ns n.ticket ≡ false → found n.ticket (ns ++ (n ∷ [])) ≡ Some n
unfolding found lists
found_new [] n e = grind (arith, nat_tests)
found_new (m ∷ ns) n e = grind (arith, nat_tests, found_new ns n)

-- one ticket dropped
pub lists_drop : (t : ℕ) (ns : List Note) (u : ℕ) → lists (left_out (picked (Ticket t)) ns) u ≡ (lists ns u && not (eqb t u))
unfolding lists left_out
lists_drop t [] u = refl
lists_drop t (n ∷ ns) u = grind (arith, nat_tests, lists_drop t ns u)

pub found_drop : (t u : ℕ) (ns : List Note) → eqb t u ≡ false → found u (left_out (picked (Ticket t)) ns) ≡ found u ns
unfolding found left_out
found_drop t u [] ne = refl
found_drop t u (n ∷ ns) ne = grind (arith, nat_tests, found_drop t u ns ne)

pub distinct_drop : (t : ℕ) (ns : List Note) → Distinct ns → Distinct (left_out (picked (Ticket t)) ns)
unfolding Distinct left_out
distinct_drop t [] d = d
distinct_drop t (n ∷ ns) d =
    let rest = distinct_drop t ns d.1 in
    cond_both (eqb n.ticket t) _ (n ∷ left_out (picked (Ticket t)) ns) Distinct (λ e. rest) (λ e. (grind (arith, nat_tests, lists_drop t ns n.ticket), rest))

-- dropping leaves no more notes than there were, and fewer if one of them was meant
pub length_left : (p : Note → Bool) (ns : List Note) → length (left_out p ns) ≤ length ns
unfolding left_out
length_left p [] = omega arith
length_left p (n ∷ ns) = grind (arith, nat_tests, length_left p ns)

pub full_left : (p : Note → Bool) (ns : List Note) → full ns ≡ false → full (left_out p ns) ≡ false
full_left p ns e = grind (arith, nat_tests, length_left p ns)

pub length_drop : (t : ℕ) (ns : List Note) → lists ns t ≡ true → length (left_out (picked (Ticket t)) ns) < length ns
unfolding lists left_out
length_drop t [] e = grind (arith, nat_tests)
length_drop t (n ∷ ns) e = grind (arith, nat_tests, length_drop t ns, length_left (picked (Ticket t)) ns)

-- a list that has all tickets below k has k notes at least
pub all_listed : (k : ℕ) (ns : List Note) → ((u : ℕ) → u < k → lists ns u ≡ true) → k ≤ length ns
all_listed zero ns h = omega arith
all_listed (suc k) ns h =
    let less = length_drop k ns (h k (omega arith)) in
    let rest = all_listed k (left_out (picked (Ticket k)) ns) (λ u lt. grind (arith, nat_tests, lists_drop k ns u, h u)) in
    omega arith

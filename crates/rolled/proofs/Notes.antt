-- What becomes of the notes of a roll, and of those kept, when one is added, marked or left out.
use Rattle.std.proofs.Common.{◌≡◌, ℕ, ◌+◌, ◌<◌, Bool, true, false, cond, not, ◌&&◌, ◌||◌, eqb, List, [], ◌∷◌, ◌++◌, length, get_or, take, refl, ap, ◌∙◌, arith}
use Rattle.std.proofs.lemmas.Bool.{cond_both}
use Rattle.std.proofs.lemmas.Bool.Decides.{nat_tests}
use Rattle.std.proofs.lemmas.List.{take_more}
use Rattle.roll.specs.declared.note.Note.{Note}
use Rattle.roll.specs.declared.note.Pick.TheVariants.{Ticket, Kept}
use Rattle.roll.specs.Notes.{found, lists, marked, left_out, picked, Distinct}
use Rattle.roll.proofs.Tickets.{lists_drop}
use Rattle.rolled.specs.Rolled.{keeps}
use Rattle.rolled.specs.Chains.{tickets_of, named}

pub without_two : (a b c : Bool) → ((a && not b) && not c) ≡ (a && not (b || c))
without_two a b c = grind (arith, nat_tests)

-- a kept ticket is among the notes
pub keeps_listed : (ns : List Note) (u : ℕ) → keeps ns u ≡ true → lists ns u ≡ true
unfolding found lists
keeps_listed [] u e = e
keeps_listed (n ∷ ns) u e = grind (arith, nat_tests, keeps_listed ns u)

pub unlisted_unkept : (ns : List Note) (u : ℕ) → lists ns u ≡ false → keeps ns u ≡ false
unlisted_unkept ns u e = grind (arith, nat_tests, keeps_listed ns u)

-- what is not among the notes is not picked
pub unlisted_unnamed : (p : Note → Bool) (ns : List Note) (u : ℕ) → lists ns u ≡ false → named (tickets_of p ns) u ≡ false
unfolding lists named tickets_of
unlisted_unnamed p [] u e = refl
unlisted_unnamed p (n ∷ ns) u e = grind (arith, nat_tests, unlisted_unnamed p ns u)

-- what is picked is among the notes
pub named_listed : (p : Note → Bool) (ns : List Note) (u : ℕ) → named (tickets_of p ns) u ≡ true → lists ns u ≡ true
named_listed p ns u e = grind (arith, nat_tests, unlisted_unnamed p ns u)

-- the notes left have just the tickets that were not picked
pub lists_left : (p : Note → Bool) (ns : List Note) (u : ℕ) → Distinct ns → lists (left_out p ns) u ≡ (lists ns u && not (named (tickets_of p ns) u))
unfolding lists named left_out tickets_of Distinct
lists_left p [] u d = refl
lists_left p (n ∷ ns) u d = grind (arith, nat_tests, d.0, lists_left p ns u d.1, unlisted_unnamed p ns u)

pub distinct_left : (p : Note → Bool) (ns : List Note) → Distinct ns → Distinct (left_out p ns)
unfolding Distinct left_out
distinct_left p [] d = d
distinct_left p (n ∷ ns) d =
    let rest = distinct_left p ns d.1 in
    cond_both (p n) (left_out p ns) (n ∷ left_out p ns) Distinct (λ e. rest) (λ e. (grind (arith, nat_tests, d.0, lists_left p ns n.ticket d.1), rest))

-- where only kept notes are picked, a kept ticket is picked or still kept
pub keeps_left : (p : Note → Bool) (ns : List Note) (u : ℕ) → ((n : Note) → p n ≡ true → n.kept ≡ true) → Distinct ns → keeps ns u ≡ (named (tickets_of p ns) u || keeps (left_out p ns) u)
unfolding found named left_out tickets_of Distinct
keeps_left p [] u f d = refl
keeps_left p (n ∷ ns) u f d = grind (arith, nat_tests, f n, d.0, keeps_left p ns u f d.1, unlisted_unnamed p ns u)

pub keeps_drop : (t : ℕ) (ns : List Note) (u : ℕ) → Distinct ns → keeps ns t ≡ false → keeps (left_out (picked (Ticket t)) ns) u ≡ keeps ns u
unfolding found left_out Distinct
keeps_drop t [] u d h = refl
keeps_drop t (n ∷ ns) u d h =
    grind (arith, nat_tests, d.0, keeps_drop t ns u d.1, lists_drop t ns u, unlisted_unkept ns t, unlisted_unkept (left_out (picked (Ticket t)) ns) u)

-- marking
pub lists_marked : (t : ℕ) (ns : List Note) (u : ℕ) → lists (marked t ns) u ≡ lists ns u
unfolding lists marked
lists_marked t [] u = refl
lists_marked t (n ∷ ns) u = grind (arith, nat_tests, lists_marked t ns u)

pub distinct_marked : (t : ℕ) (ns : List Note) → Distinct ns → Distinct (marked t ns)
unfolding Distinct marked
distinct_marked t [] d = d
distinct_marked t (n ∷ ns) d = cond_both (eqb n.ticket t) _ (n ∷ marked t ns) Distinct (λ e. d) (λ e. (lists_marked t ns n.ticket ∙ d.0, distinct_marked t ns d.1))

pub length_marked : (t : ℕ) (ns : List Note) → length (marked t ns) ≡ length ns
unfolding marked
length_marked t [] = refl
length_marked t (n ∷ ns) = grind (arith, nat_tests, length_marked t ns)

pub keeps_marked : (t : ℕ) (ns : List Note) (u : ℕ) → lists ns t ≡ true → keeps (marked t ns) u ≡ (keeps ns u || eqb t u)
unfolding found lists marked
keeps_marked t [] u h = grind (arith, nat_tests)
keeps_marked t (n ∷ ns) u h = grind (arith, nat_tests, keeps_marked t ns u)

pub keeps_snoc : (ns : List Note) (n : Note) (u : ℕ) → n.kept ≡ false → keeps (ns ++ (n ∷ [])) u ≡ keeps ns u
unfolding found
keeps_snoc [] n u h = grind (arith, nat_tests)
keeps_snoc (m ∷ ns) n u h = grind (arith, nat_tests, keeps_snoc ns n u h)

-- nothing kept is left once all kept notes are out
pub keeps_cleared : (ns : List Note) (u : ℕ) → keeps (left_out (picked Kept) ns) u ≡ false
unfolding found left_out
keeps_cleared [] u = refl
keeps_cleared (n ∷ ns) u = grind (arith, nat_tests, keeps_cleared ns u)

-- the tickets picked, one note further
pub tickets_snoc : (p : Note → Bool) (ns : List Note) (n : Note) → tickets_of p (ns ++ (n ∷ [])) ≡ tickets_of p ns ++ cond (p n) (n.ticket ∷ []) []
unfolding tickets_of
tickets_snoc p [] n = refl
tickets_snoc p (m ∷ ns) n = grind (arith, nat_tests, tickets_snoc p ns n)

pub tickets_more : (p : Note → Bool) (ns : List Note) (i : ℕ) (d : Note) → i < length ns → tickets_of p (take (i + 1) ns) ≡ tickets_of p (take i ns) ++ cond (p (get_or ns i d)) ((get_or ns i d).ticket ∷ []) []
tickets_more p ns i d h = ap (tickets_of p) (take_more ns i d h) ∙ tickets_snoc p (take i ns) (get_or ns i d)

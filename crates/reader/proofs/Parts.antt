-- What a run of an exclusive's data bytes gives.
use Rattle.std.proofs.Common.{◌≡◌, ℕ, zero, suc, ◌+◌, ◌<◌, ◌≤◌, true, List, [], ◌∷◌, length, get_or, take, drop, refl, ap, ◌∙◌, arith}
use Rattle.std.proofs.lemmas.Bool.Decides.{nat_tests}
use Rattle.reader.specs.declared.states.State.{State}
use Rattle.reader.specs.declared.states.State.TheVariants as s
use Rattle.reader.specs.Rules.{part, leads, belongs, put, reads, reaches}
use Rattle.reader.specs.Steps.{AllData}

pub in_exclusive : (st : State) (b : ℕ) → belongs st b ≡ true → (st ≡ s.Exclusive) × (b < 0x80)
in_exclusive st b e = grind (arith, nat_tests)

stays : (b : ℕ) → b < 0x80 → leads s.Exclusive b ≡ s.Exclusive
stays b h = grind (arith, nat_tests)

part_first : (p b : ℕ) (bs : List ℕ) → b < 0x80 → reads s.Exclusive p (b ∷ bs) ≡ put (part p (b ∷ [])) (reads s.Exclusive (p + 1) bs)
part_first p b bs h = grind (arith, nat_tests)

-- any other byte gives a message in an exclusive
part_ends : (p q : ℕ) (xs bs : List ℕ) → (0 < length bs → 0x80 ≤ get_or bs 0 0) → put (part p xs) (reads s.Exclusive q bs) ≡ part p xs ∷ reads s.Exclusive q bs
part_ends p q xs [] h = refl
part_ends p q xs (c ∷ cs) h = let high : 0x80 ≤ c = h (omega arith) in grind (arith, nat_tests)

pub part_reads : (n p : ℕ) (bs : List ℕ) → 0 < n → n ≤ length bs → AllData bs n → (n < length bs → 0x80 ≤ get_or bs n 0) → reads s.Exclusive p bs ≡ part p (take n bs) ∷ reads s.Exclusive (p + n) (drop n bs)
part_reads zero p bs some within all stops = absurd (omega arith)
part_reads (suc n) p [] some within all stops = absurd (omega arith)
part_reads (suc zero) p (b ∷ bs) some within all stops =
    part_first p b bs (all 0 (omega arith)) ∙ part_ends p (p + 1) (b ∷ []) bs (λ h. stops (omega arith))
part_reads (suc (suc n)) p (b ∷ bs) some within all stops =
    part_first p b bs (all 0 (omega arith)) ∙ ap (put (part p (b ∷ []))) (part_reads (suc n) (p + 1) bs (omega arith) (omega arith) (λ j h. all (suc j) (omega arith)) (λ h. stops (omega arith)))
    ∙ ap (λ q. part p (b ∷ take (suc n) bs) ∷ reads s.Exclusive q (drop (suc n) bs)) (omega arith)

pub part_reaches : (n : ℕ) (bs : List ℕ) → n ≤ length bs → AllData bs n → reaches s.Exclusive bs ≡ reaches s.Exclusive (drop n bs)
part_reaches zero bs within all = refl
part_reaches (suc n) [] within all = absurd (omega arith)
part_reaches (suc n) (b ∷ bs) within all =
    ap (λ st. reaches st bs) (stays b (all 0 (omega arith))) ∙ part_reaches n bs (omega arith) (λ j h. all (suc j) (omega arith))

-- the run in front is taken whole
pub ruleset parts = (in_exclusive, part_reaches, part_reads)

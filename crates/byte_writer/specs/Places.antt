-- Bytes written at the next places.
use Rattle.std.specs.Prelude.{◌≡◌, ℕ, zero, suc, ◌+◌, ◌≤◌, List, [], ◌∷◌, ◌++◌, length, take, drop, slice_set, refl}
use Rattle.std.proofs.Common.{ap, ◌∙◌, arith}
use Rattle.std.proofs.lemmas.List.{take-append-drop}
use Rattle.ends.specs.Buffers.{written_at}

-- three bytes in turn are three bytes at once
pub three_bytes : (xs : List ℕ) (i a b c : ℕ) → i + 3 ≤ length xs → slice_set (slice_set (slice_set xs i a) (i + 1) b) (i + 2) c ≡ written_at i (a ∷ b ∷ c ∷ []) xs
three_bytes [] i a b c h = absurd (omega arith)
three_bytes (x ∷ []) zero a b c h = absurd (omega arith)
three_bytes (x ∷ y ∷ []) zero a b c h = absurd (omega arith)
three_bytes (x ∷ y ∷ z ∷ xs) zero a b c h = refl
three_bytes (x ∷ xs) (suc i) a b c h =
    let e1 : suc i + 1 ≡ suc (i + 1) = omega arith in
    let e2 : suc i + 2 ≡ suc (i + 2) = omega arith in
    let e3 : suc i + 3 ≡ suc (i + 3) = omega arith in
    rw (e1, e2, e3) (ap (λ r. x ∷ r) (three_bytes xs i a b c (omega arith)))

pub nothing_written : (i : ℕ) (xs : List ℕ) → written_at i [] xs ≡ xs
nothing_written i xs = ap (λ n. take i xs ++ drop n xs) (omega arith) ∙ take-append-drop i xs

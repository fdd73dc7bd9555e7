-- Refusals as numbers.
use Rattle.std.specs.Prelude.{ℕ, Some, None, Ok, Err, Option, Result}
use Rattle.sink.specs.Faults.{Denial}

-- the number and the depth of a refusal
abbrev pub refusal : {T F : Type 0} → (F → Denial) → Result T F → Option (ℕ × ℕ)
refusal sees (Ok x) = None
refusal sees (Err f) = Some ((sees f).number, (sees f).depth)

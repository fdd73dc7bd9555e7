use Rattle.std.proofs.Common.{ℕ, pos, ◌+ℤ◌, ◌-ℤ◌, nat_abs}
use Rattle.transposer.specs.Shift.{Folds}
use Rattle.transposer.proofs.shift.Shift.moved.Given as goal

abbrev pub invariant-loop-moved : goal.invariant-loop-moved
invariant-loop-moved l = (k : ℕ) → Folds l.moved k → Folds (pos l.key +ℤ l.self.semitones) k

-- twice how far the number is from the middle of the keys
abbrev pub decreases-loop-moved : goal.decreases-loop-moved
decreases-loop-moved l = nat_abs (l.moved +ℤ l.moved -ℤ pos 127)

-- Worked examples of folding.
use Rattle.std.specs.Prelude.{pos, negsuc, ◌+ℤ◌}
use Rattle.transposer.specs.Shift.{Folds}

abbrev pub Folding : Type 0
Folding = Folds (pos 120 +ℤ pos 12) 120 × Folds (pos 5 +ℤ negsuc 11) 5 × Folds (pos 100 +ℤ pos 40) 116

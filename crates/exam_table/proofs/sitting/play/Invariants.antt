use Rattle.std.proofs.Common.{take}
use Rattle.std.specs.List.{FoldsTo}
use Rattle.exam_table.specs.Rows.{Acts}
use Rattle.exam_table.specs.declared.row.TheConstants.Row.{ALL}
use Rattle.exam_table.proofs.sitting.play.Given as goal

-- the rows so far have been played
abbrev pub invariant-loop-row : goal.invariant-loop-row
invariant-loop-row g l =
    FoldsTo (λ r row r'. Acts row r r') l.initial.run (take l.row-index ALL) l.run

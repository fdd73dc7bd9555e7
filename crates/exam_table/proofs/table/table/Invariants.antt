use Rattle.std.proofs.Common.{◌≡◌, take, string_bytes}
use Rattle.std.specs.List.{flat_map}
use Rattle.exam_table.specs.Table.{row_text}
use Rattle.exam_table.specs.declared.row.TheConstants.Row.{ALL}
use Rattle.exam_table.proofs.table.table.Given as goal

-- the rows so far are written
abbrev pub invariant-loop-row : goal.invariant-loop-row
invariant-loop-row l = string_bytes l.text ≡ flat_map (row_text l.lines) (take l.row-index ALL)

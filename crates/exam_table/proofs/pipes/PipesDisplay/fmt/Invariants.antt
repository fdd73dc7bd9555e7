use Rattle.std.proofs.Common.{take}
use Rattle.std.specs.Fmt.{IsPlainFormatter, HasWritten}
use Rattle.exam_table.specs.Table.{keys_text}
use Rattle.exam_table.proofs.pipes.PipesDisplay.fmt.Given as goal

-- the keys so far are written
abbrev pub invariant-loop-key : goal.invariant-loop-key
invariant-loop-key g l = IsPlainFormatter l.initial.f → HasWritten g.W.Write.write_str_gives l.initial.f (keys_text (take l.key-index l.self.0.now)) l.f

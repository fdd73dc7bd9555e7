use Rattle.std.proofs.Common.{take}
use Rattle.roll.specs.Notes.{picked}
use Rattle.rolled.specs.Chains.{tickets_of, Releases}
use Rattle.rolled.proofs.rolled.Rolled.let_go.Given as goal

abbrev pub invariant-loop-note : goal.invariant-loop-note
invariant-loop-note g l = Releases g.S.Sink.does l.place (tickets_of (picked l.pick) (take l.note-index l.note-items)) l.fn.self.below l.below

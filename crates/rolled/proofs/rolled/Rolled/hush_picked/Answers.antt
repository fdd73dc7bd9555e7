use Rattle.std.proofs.Common.{rules}
use Rattle.rolled.specs.Chains.{tickets_of, no_hush}
use Rattle.rolled.proofs.Loops.{hushes_next}
use Rattle.rolled.proofs.rolled.Rolled.hush_picked.Goals as goal

pub loop-note-init : goal.loop-note-init
unfolding tickets_of
loop-note-init g c = no_hush

pub loop-note-preserved : goal.loop-note-preserved
loop-note-preserved g c =
    hushes_next c.args.pick c.notes-note-items.result.now c.loop-note.note-index c.loop-note-test.true g.S.Sink.meaning g.S.Sink.does c.args.place _ _ c.loop-note.invariant _
    (search rules)

use Rattle.std.proofs.Common.{rules}
use Rattle.rolled.specs.Chains.{tickets_of, no_release}
use Rattle.rolled.proofs.Loops.{releases_next}
use Rattle.rolled.proofs.rolled.Rolled.let_go.Goals as goal

pub loop-note-init : goal.loop-note-init
unfolding tickets_of
loop-note-init g c = no_release

pub loop-note-preserved : goal.loop-note-preserved
loop-note-preserved g c =
    releases_next c.args.pick c.notes-note-items.result.now c.loop-note.note-index c.loop-note-test.true g.S.Sink.does c.args.place _ _ c.loop-note.invariant _
    (search rules)

use Rattle.std.proofs.Common.{◌+◌, ◌*◌, ◌≤◌, List}
use Rattle.run.specs.Counting.{total}
use Rattle.run.specs.Steps.{Event, Swept}
use Rattle.run.proofs.player.Player.empty_all.Given as goal

abbrev pub invariant-loop-channel : goal.invariant-loop-channel
invariant-loop-channel g l = record {
  swept : (es : List (Event _)) × Swept l.place 0 (128 * l.channel) l.initial.self es l.self;
  total : total l.self.counts ≤ total l.initial.self.counts + 128 * l.channel;
}

use Rattle.std.proofs.Common.{◌+◌, ◌*◌, ◌≤◌, List}
use Rattle.run.specs.Counting.{total}
use Rattle.run.specs.Steps.{Event, Swept}
use Rattle.run.proofs.player.Player.empty_channel.Given as goal

abbrev pub invariant-loop-number : goal.invariant-loop-number
invariant-loop-number g l = record {
  swept : (es : List (Event _)) × Swept l.place (128 * l.channel) (128 * l.channel + l.number) l.initial.self es l.self;
  total : total l.self.counts ≤ total l.initial.self.counts + l.number;
}

use Rattle.std.proofs.Common.{◌≡◌, ◌+◌, ◌*◌, ◌≤◌, List, ◌++◌}
use Rattle.reader.specs.Ahead.{ahead, ending, at_most}
use Rattle.reader.specs.Rules.{Reading}
use Rattle.run.specs.Counting.{total}
use Rattle.run.specs.Steps.{Event, Played}
use Rattle.run.proofs.runs.Run.feed.Given as goal

-- some readings are played, and they and what is ahead are all of the piece
abbrev pub invariant-loop-item : goal.invariant-loop-item
invariant-loop-item g l = record {
  ending : ending l.self.reader.state l.piece ≡ ending l.initial.self.reader.state l.initial.piece;
  total : total l.self.player.counts + 2048 * at_most l.piece ≤ 4096 * l.self.count;
  count : l.self.count ≡ l.initial.self.count;
  played : (rs : List Reading) × (es : List (Event _)) × Played rs l.initial.self.player es l.self.player × (rs ++ ahead l.self.reader.state l.piece ≡ ahead l.initial.self.reader.state l.initial.piece);
}

abbrev pub decreases-loop-item : goal.decreases-loop-item
decreases-loop-item g l = at_most l.piece

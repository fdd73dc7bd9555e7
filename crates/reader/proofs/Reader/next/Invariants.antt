use Rattle.std.proofs.Common.{◌≡◌, ◌≤◌, length, None}
use Rattle.reader.specs.Ahead.{ahead, ending}
use Rattle.reader.proofs.Reader.next.Given as goal

abbrev pub invariant-loop-self : goal.invariant-loop-self
invariant-loop-self l = (l.piece.pending ≡ None) × (ahead l.self.state l.piece ≡ ahead l.fn.self.state l.fn.piece) × (ending l.self.state l.piece ≡ ending l.fn.self.state l.fn.piece) × (length l.piece.rest.now ≤ length l.fn.piece.rest.now)

abbrev pub decreases-loop-self : goal.decreases-loop-self
decreases-loop-self l = length l.piece.rest.now

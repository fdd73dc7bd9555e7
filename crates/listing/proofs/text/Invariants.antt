use Rattle.std.proofs.Common.{◌≡◌, ◌++◌, string_bytes}
use Rattle.reader.specs.Ahead.{ahead, ending, at_most}
use Rattle.listing.specs.Lines.{text_of}
use Rattle.listing.proofs.text.Given as goal

-- the text so far and that of what is ahead are the text of all
abbrev pub invariant-loop-item : goal.invariant-loop-item
invariant-loop-item l =
    (string_bytes l.text ++ text_of (ahead l.reader.state l.piece) ≡ text_of (ahead l.initial.reader.state l.initial.piece))
    × (ending l.reader.state l.piece ≡ ending l.initial.reader.state l.initial.piece)

abbrev pub decreases-loop-item : goal.decreases-loop-item
decreases-loop-item l = at_most l.piece

use Rattle.std.proofs.Common.{◌≡◌, take, string_bytes}
use Rattle.playing.specs.Texts.{lines_text}
use Rattle.playing.proofs.text.text.Given as goal

abbrev pub invariant-loop-line : goal.invariant-loop-line
invariant-loop-line l = string_bytes l.text ≡ lines_text (take l.line-index l.lines)

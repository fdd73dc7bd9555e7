use Rattle.std.proofs.Common.{string_bytes, ap, ◌∙◌}
use Rattle.std.proofs.lemmas.List.{take_all}
use Rattle.playing.specs.Texts.{lines_text}
use Rattle.playing.proofs.Pushes.{lines_more}
use Rattle.playing.proofs.text.text.Goals as goal

pub loop-line-preserved : goal.loop-line-preserved
loop-line-preserved c =
    lines_more c.args.lines.now c.loop-line.line-index _ (string_bytes c.loop-line.text) (string_bytes c.writeln.new.self) c.loop-line-test.true c.loop-line.invariant c.in_ok-writeln.ensures.bytes

pub returns : goal.returns
returns c = c.loop-line.invariant ∙ ap lines_text (take_all _ _ c.loop-line-test.false)

use Rattle.std.proofs.Common.{◌++◌, codes, sym, refl, ap, ◌∙◌, rules}
use Rattle.std.proofs.Output.{has_written_of_eq, has_written_append}
use Rattle.std.proofs.lemmas.List.{take_all}
use Rattle.exam_table.specs.Table.{keys_text}
use Rattle.exam_table.proofs.More.{text_more, pipes_some}
use Rattle.exam_table.proofs.pipes.PipesDisplay.fmt.Goals as goal

pub loop-key-preserved : goal.loop-key-preserved
loop-key-preserved g c plain =
    let before = c.loop-key.invariant plain in
    has_written_of_eq _ _ _ _ _ (text_more c.args.self.now.0.now c.loop-key.key-index c.loop-key-test.true) (has_written_append _ _ _ _ _ _ before (search rules))

pub returns-clause-writes : goal.returns-clause-writes
returns-clause-writes g c plain ok =
    let word = c.in_ok-write_str.ensures.writes plain refl in
    let all = ap (λ ks. codes "pipe" ++ keys_text ks) (take_all _ _ c.loop-key-test.false) ∙ pipes_some c.args.self.now.0.now (sym c.if-is_empty.ensures) in
    has_written_of_eq _ _ _ _ _ all (has_written_append _ _ _ _ _ _ word (c.loop-key.invariant word.plain))

use Rattle.std.proofs.Common.{◌++◌, ap, ◌∙◌, append-nil}
use Rattle.std.specs.List.{flat_map}
use Rattle.std.proofs.lemmas.List.{take_all}
use Rattle.exam_table.specs.Table.{row_text}
use Rattle.exam_table.specs.declared.row.TheConstants.Row.{ALL}
use Rattle.exam_table.specs.declared.row.Row.TheVariants.{KeyDown, Transpose, PedalDown, KeyUp, PedalUp}
use Rattle.exam_table.proofs.table.table.Goals as goal

pub returns : goal.returns
returns c =
    let row = row_text c.args.lines.now in
    c.loop-row.invariant
    ∙ ap (flat_map row) (take_all _ ALL c.loop-row-test.false)
    ∙ ap (λ last. row KeyDown ++ (row Transpose ++ (row PedalDown ++ (row KeyUp ++ last)))) (append-nil (row PedalUp))

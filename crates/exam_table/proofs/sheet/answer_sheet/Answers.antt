use Rattle.std.proofs.Common.{◌≡◌, IfOk, string_bytes, ap, ◌∙◌, subst, arith}
use Rattle.exam_table.specs.Table.{table_text}
use Rattle.exam_table.proofs.More.{right}
use Rattle.exam_table.proofs.sheet.answer_sheet.Goals as goal

pub returns : goal.returns
returns c =
    let lines = c.written_lines.ensures ∙ c.log-logged.ensures.exact (omega (arith, c.in_ok-vec.ensures.len)) in
    subst (λ x. IfOk c.table.result (λ t. string_bytes t ≡ x)) (ap table_text lines ∙ right) c.table.ensures

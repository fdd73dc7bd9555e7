use Rattle.std.proofs.Common.{refl, ◌∙◌}
use Rattle.script.proofs.Sums.{digit_too_many}
use Rattle.script.proofs.numbers.number.Goals as goal

pub returns-in_err-n : goal.returns-in_err-n
returns-in_err-n c =
    c.from_residual-in_err-n.ensures
    ∙ digit_too_many c.args.word.now c.loop-byte.byte-index c.loop-byte.n c.in_ok-digit.field-0 _ c.loop-byte-test.true (c.in_ok-digit.ensures.decimal refl) c.in_err-n.ensures c.loop-byte.invariant.0

use Rattle.std.proofs.Common.{take, vec_items, ap, ◌∙◌, ap₂, arith}
use Rattle.exam_table.proofs.Written.{logged}
use Rattle.exam_table.proofs.sitting.log.Goals as goal

pub returns : goal.returns
returns c =
    let new = c.exam_stack.ensures in
    let out = c.unstack.ensures in
    record {
      logs = record {
        stack = c.exam_stack.result;
        left = c.play.result;
        new = new.new;
        plays = c.play.ensures;
        written_is = out.written;
        lines_are = ap vec_items out.lines;
      };
      within = out.within;
      exact = λ room. ap₂ take out.written (ap vec_items out.lines) ∙ logged _ _ (λ _ _ _ _ d. d) (vec_items c.args.lines) c.exam_stack.result c.play.result new.new new.rests (omega (arith, c.args.lines.ok.0)) c.play.ensures;
    }

use Rattle.std.proofs.Common.{ℕ, ◌+◌, ◌<◌, List, length, get_or, take, sym, subst}
use Rattle.std.specs.List.{FoldsTo}
use Rattle.std.proofs.lemmas.Fn.{FoldsTo-push}
use Rattle.std.proofs.lemmas.List.{take_all, take_more}
use Rattle.exam_table.specs.Rows.{Acts}
use Rattle.exam_table.specs.declared.row.TheConstants.Row.{ALL}
use Rattle.exam_table.proofs.sitting.play.Goals as goal

one_more : {P A : Type 0} (R : P → A → P → Type 0) (p : P) (xs : List A) (i : ℕ) (d : A) (q u : P) → i < length xs → FoldsTo R p (take i xs) q → R q (get_or xs i d) u → FoldsTo R p (take (i + 1) xs) u
one_more R p xs i d q u h before last = subst (λ ys. FoldsTo R p ys u) (sym (take_more xs i d h)) (FoldsTo-push R p (take i xs) q (get_or xs i d) u before last)

pub loop-row-preserved : goal.loop-row-preserved
loop-row-preserved g c =
    one_more (λ r row r'. Acts row r r') c.open-run.result.0 ALL c.loop-row.row-index _ c.loop-row.run c.act.new.run c.loop-row-test.true c.loop-row.invariant c.act.ensures

pub returns : goal.returns
returns g c =
    let played = rw (take_all _ ALL c.loop-row-test.false) at c.loop-row.invariant in
    let from₁ = played.2 in
    let from₂ = from₁.2 in
    let from₃ = from₂.2 in
    let from₄ = from₃.2 in
    record {
      r₀ = c.open-run.result.0;
      r₁ = played.0;
      r₂ = from₁.0;
      r₃ = from₂.0;
      r₄ = from₃.0;
      r₅ = c.loop-row.run;
      tally = c.close-stack.result.0;
      opens = c.open-run.ensures;
      key_down = played.1;
      transpose = from₁.1;
      pedal_down = from₂.1;
      key_up = from₃.1;
      pedal_up = rw from₄.2 at from₄.1;
      closes = c.close-stack.ensures.closed;
    }

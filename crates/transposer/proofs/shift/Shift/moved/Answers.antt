use Rattle.std.proofs.Common.{subst, arith}
use Rattle.std.proofs.lemmas.Int.{ints}
use Rattle.transposer.specs.Shift.{Folds, an_octave_off, an_octave_on}
use Rattle.transposer.specs.Folded.{one_key, itself}
use Rattle.transposer.proofs.shift.Shift.moved.Goals as goal
use Rattle.transposer.proofs.shift.Shift.moved.Goals.{then-moved-lt0, else-moved-lt0+then-moved-gt127}

pub loop-moved-preserved : goal.loop-moved-preserved
loop-moved-preserved c = λ k f. c.loop-moved.invariant k (elim c.if-moved-lt0.branch [
  | then-moved-lt0 w ↦ an_octave_on (omega (arith, ints)) (subst (λ x. Folds x k) (omega (arith, ints, c.octave_nearer-moved.ensures.on (omega (arith, ints)))) f)
  | else-moved-lt0+then-moved-gt127 w ↦ an_octave_off (omega (arith, ints)) (subst (λ x. Folds x k) (omega (arith, ints, c.octave_nearer-moved.ensures.off (omega (arith, ints)))) f)
])

pub returns : goal.returns
returns c =
    let f = c.loop-moved.invariant _ (itself _ (omega (arith, ints)) (omega (arith, ints))) in
    record { folds = f; only = λ k g. one_key f g }

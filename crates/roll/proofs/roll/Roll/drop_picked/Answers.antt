use Rattle.std.proofs.Common.{◌≡◌, ◌+◌, ◌∷◌, [], ◌++◌, get_or, take, drop, true, false, sym, refl, ap, ◌∙◌, append-nil, drop-set-lt, arith}
use Rattle.roll.specs.declared.roll.Roll.{Roll}
use Rattle.roll.specs.Notes.{blank, picked, left_out}
use Rattle.roll.specs.Rolls.{listed}
use Rattle.roll.proofs.Table.{rest_next, left_next}
use Rattle.roll.proofs.roll.Roll.drop_picked.Goals as goal
use Rattle.roll.proofs.roll.Roll.drop_picked.Goals.{then-not-takes, else-not-takes}

pub loop-i-init : goal.loop-i-init
unfolding left_out
loop-i-init c = record { few = omega arith; left = refl; rest = refl }

pub loop-i-preserved : goal.loop-i-preserved
loop-i-preserved c =
    let p = picked c.args.pick in
    let ns = c.args.self.now.notes in
    let xs = c.loop-i.self.notes in
    let i = c.loop-i.i in
    let before = c.loop-i.invariant in
    let long = c.loop-i.self.long in
    let old = c.args.self.now.long in
    let fits = c.args.self.now.fits in
    let test = c.loop-i-test.true in
    let few = before.few in
    let next = rest_next p ns xs i (omega arith) (omega arith) before.rest in
    let left = left_next p ns xs i (omega arith) (omega arith) before.rest in
    elim c.if-not-takes.branch [
      | then-not-takes w ↦
          let count = ap (λ (r : Roll). r.count) w.self-is ∙ w.push.ensures.count in
          record {
            few = omega arith;
            left = ap listed w.self-is ∙ w.push.ensures.listed ∙ ap (λ l. l ++ (get_or xs i blank ∷ [])) before.left ∙ sym (left false (sym w.if-not-takes.true ∙ c.takes.ensures));
            rest = ap (λ (r : Roll). drop (i + 1) r.notes) w.self-is ∙ ap (drop (i + 1)) w.push.ensures.notes ∙ drop-set-lt (i + 1) xs c.loop-i.self.count _ (omega arith) ∙ next;
          }
      | else-not-takes w ↦
          let count = ap (λ (r : Roll). r.count) w.self-is in
          record {
            few = omega arith;
            left = ap listed w.self-is ∙ before.left ∙ sym (left true (sym w.if-not-takes.false ∙ c.takes.ensures) ∙ append-nil (left_out p (take i ns)));
            rest = ap (λ (r : Roll). drop (i + 1) r.notes) w.self-is ∙ next;
          }
    ]

pub returns : goal.returns
returns c =
    let end = c.loop-i-test in
    let same : c.loop-i.i ≡ c.args.self.now.count = omega arith in
    c.loop-i.invariant.left ∙ ap (λ n. left_out (picked c.args.pick) (take n c.args.self.now.notes)) same

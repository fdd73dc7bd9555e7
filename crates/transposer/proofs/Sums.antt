-- Transposers one over the other add their shifts.
use Rattle.std.proofs.Common.{◌≡◌, ℕ, true, cond, ℤ, pos, ◌+ℤ◌, ap, ◌∙◌, subst, arith}
use Rattle.std.proofs.lemmas.Int.{ints}
use Rattle.sink.specs.Calls.{Call, Start, Answer, startable}
use Rattle.sink.specs.Layered.{passed, Refused}
use Rattle.sink.specs.declared.fault.Cause.TheVariants.{OutOfRange}
use Rattle.sink.specs.declared.fault.LayerFault.{LayerFault}
use Rattle.sink.specs.declared.fault.LayerFault.TheVariants.{Own}
use Rattle.transposer.specs.Adding.{ShiftsAdd}
use Rattle.transposer.specs.Transposer.{Moved, TransposerDoes}
use Rattle.transposer.specs.declared.transposer.Transposer.{Transposer}
use Rattle.transposer.specs.Folded.{is_key, from_key}
use Rattle.transposer.specs.Law.{another_key}

module _ {S F : Type 0} (does : S → Call → Answer F → S → Type 0) where
  -- a start in range is moved and made below
  moves : (s : Transposer S) (p c k v : ℕ) (a : Answer (LayerFault F)) (t : Transposer S) → startable c k v ≡ true → TransposerDoes does s (Start p c k v) a t → Moved does p c k v s a t
  moves s p c k v a t e d = subst (λ b. cond b (Moved does p c k v s a t) (Refused (Own OutOfRange) s a t)) e d

pub shifts_add : {S F : Type 0} (does : S → Call → Answer F → S → Type 0) (s : Transposer (Transposer S)) (sum : ℤ) → sum ≡ s.shift.semitones +ℤ s.below.shift.semitones → ShiftsAdd does sum s
shifts_add does s sum is p c k v between to a t ok first inner whole last d =
    let upper = moves (TransposerDoes does) s p c k v a t ok d in
    let lower = moves does s.below p c upper.to v upper.on.handed.below t.below (another_key c k upper.to v ok (is_key upper.folds)) upper.on.handed.call in
    let there : upper.to ≡ between = from_key between first inner upper.folds in
    let added : pos upper.to +ℤ s.below.shift.semitones ≡ pos to = omega (arith, ints) in
    record {
      below = lower.on.handed.below;
      call = subst (λ j. does s.below.below (Start p c j v) lower.on.handed.below t.below.below) (from_key to added last lower.folds) lower.on.handed.call;
      up = upper.on.handed.up ∙ ap passed lower.on.handed.up;
    }

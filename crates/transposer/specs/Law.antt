-- A transposer has the meaning of a sink, if the sink below has it.
use Rattle.std.specs.Prelude.{◌≡◌, ℕ, ◌-◌, ◌≤◌, Bool, true, false, cond, ◌&&◌, ℤ, ◌==◌, nat_le, refl}
use Rattle.std.proofs.Common.{sym, ap, ap₂, subst, arith, le-leb}
use Rattle.std.proofs.lemmas.Bool.{and_parts}
use Rattle.sink.specs.Faults.{Denial, layer_denial}
use Rattle.sink.specs.Calls.{Call, Start, Release, Hush, Tell, Set, Clear, Answer, denied, startable, tellable}
use Rattle.sink.specs.Meaning.{Meaning, Means, Orderly}
use Rattle.sink.specs.Layered.{Refused}
use Rattle.sink.specs.declared.fault.Cause.TheVariants.{OutOfRange, TellOutOfRange, NoSuchItem, ValueOutOfRange}
use Rattle.sink.specs.declared.fault.LayerFault.{LayerFault}
use Rattle.sink.specs.declared.fault.LayerFault.TheVariants.{Own}
use Rattle.sink.proofs.Bools.{clash}
use Rattle.sink.proofs.Handed.{Checked, handed, refused, rekeyed, redepthed, layer_orderly, quieter_same}
use Rattle.transposer.specs.Shift.{in_range}
use Rattle.transposer.specs.Transposer.{never_full, keeps_none, transposer_meaning, On, Moved, Shifted, TransposerDoes}
use Rattle.transposer.specs.declared.transposer.Transposer.{Transposer}
use Rattle.transposer.specs.Folded.{is_key}

same_state : {S : Type 0} (s t : Transposer S) → t.shift ≡ s.shift → t.below ≡ s.below → t ≡ s
same_state s t q p = λ i. record { below = p i; shift = q i }

pub another_key : (c k j v : ℕ) → startable c k v ≡ true → j ≤ 127 → startable c j v ≡ true
another_key c k j v e h =
    let rest = (and_parts (nat_le c 15) (nat_le k 127 && (nat_le 1 v && nat_le v 127)) e).1 in
    ap₂ ◌&&◌ (and_parts (nat_le c 15) (nat_le k 127 && (nat_le 1 v && nat_le v 127)) e).0 (ap₂ ◌&&◌ (le-leb j 127 h) (and_parts (nat_le k 127) (nat_le 1 v && nat_le v 127) rest).1)

module _ {S F : Type 0} (sees : F → Denial) (meaning : S → Meaning) (sound : S → Type 0) (does : S → Call → Answer F → S → Type 0)
    (below_stays : (s : S) (c : Call) (a : Answer F) (t : S) → sound s → does s c a t → sound t)
    (below-means : (s : S) (c : Call) (a : Answer F) (t : S) → sound s → does s c a t → Means sees meaning s c a t)
    (s : Transposer S) (a : Answer (LayerFault F)) (t : Transposer S) (h : sound s.below) where
  abbrev Holds : Call → Answer (LayerFault F) → Type 0
  Holds c x = Means (layer_denial sees) (transposer_meaning meaning) s c x t

  on : (c c' : Call) → Checked false false (keeps_none s) c → ((b : Answer F) → Means sees meaning s.below c' b t.below → Means sees meaning s.below c b t.below) → On does c' s a t → Holds c a
  on c c' checked shape o =
      let b = o.handed.below in
      subst (Holds c) (sym o.handed.up)
      (handed sees meaning (λ (x : Transposer S). x.below) never_full keeps_none s t (λ u. refl) (λ u e. clash false e refl) (same_state s t o.shift) c b checked
      (shape b (below-means s.below c' b t.below h o.handed.call)))

  no_call : (c : Call) (f : LayerFault F) → Refused f s a t → Means (layer_denial sees) (transposer_meaning meaning) s c (denied f) s → Holds c a
  no_call c f = refused (layer_denial sees) (transposer_meaning meaning) c f s a t

  start_means : (p c k v : ℕ) (x : Bool) → startable c k v ≡ x → cond x (Moved does p c k v s a t) (Refused (Own OutOfRange) s a t) → Holds (Start p c k v) a
  start_means p c k v true e d = on (Start p c k v) (Start p c d.to v) (e, refl) (λ b. rekeyed sees meaning s.below t.below p c k c d.to v b e (another_key c k d.to v e (is_key d.folds))) d.on
  start_means p c k v false e d = no_call (Start p c k v) (Own OutOfRange) d record { same = refl; because = (λ _. refl, λ z. clash (startable c k v) z e) }

  release_means : (p u v : ℕ) (x : Bool) → nat_le v 127 ≡ x → cond x (On does (Release p u v) s a t) (Refused (Own OutOfRange) s a t) → Holds (Release p u v) a
  release_means p u v true e d = on (Release p u v) (Release p u v) (e, refl, λ f. f) (λ b m. m) d
  release_means p u v false e d = no_call (Release p u v) (Own OutOfRange) d record { same = refl; because = (λ _. refl, λ z. clash (nat_le v 127) z e) }

  tell_means : (p c n v : ℕ) (x : Bool) → tellable c n v ≡ x → cond x (On does (Tell p c n v) s a t) (Refused (Own TellOutOfRange) s a t) → Holds (Tell p c n v) a
  tell_means p c n v true e d = on (Tell p c n v) (Tell p c n v) (e, λ f. f) (λ b m. m) d
  tell_means p c n v false e d = no_call (Tell p c n v) (Own TellOutOfRange) d record { same = refl; because = (e, refl) }

  set_means : (p e i : ℕ) (v : ℤ) (x y z : Bool) → cond x (cond y (cond z (Shifted v s a t) (Refused (Own ValueOutOfRange) s a t)) (Refused (Own NoSuchItem) s a t)) (On does (Set p (e - 1) i v) s a t) → Holds (Set p e i v) a
  set_means p e i v true true true d =
      subst (Holds (Set p e i v)) (sym d.answer) (quieter_same (transposer_meaning meaning s) (transposer_meaning meaning t) (ap (λ x. transposer_meaning (λ _. meaning x) s) d.below))
  set_means p e i v true true false d = no_call (Set p e i v) (Own ValueOutOfRange) d record { same = refl; because = (omega arith, omega arith) }
  set_means p e i v true false z d = no_call (Set p e i v) (Own NoSuchItem) d record { same = refl; because = (omega arith, omega arith) }
  set_means p e i v false y z d = on (Set p e i v) (Set p (e - 1) i v) (λ f. f) (λ b. redepthed sees meaning s.below t.below p e (e - 1) i v b) d

  pub transposer_means : (c : Call) → TransposerDoes does s c a t → Means (layer_denial sees) (transposer_meaning meaning) s c a t
  transposer_means (Start p c k v) d = start_means p c k v (startable c k v) refl d
  transposer_means (Release p u v) d = release_means p u v (nat_le v 127) refl d
  transposer_means (Hush p u) d = on (Hush p u) (Hush p u) (refl, refl) (λ b m. m) d
  transposer_means (Tell p c n v) d = tell_means p c n v (tellable c n v) refl d
  transposer_means (Set p e i v) d = set_means p e i v (e == 0) (i == 0) (in_range v) d
  transposer_means (Clear p) d = on (Clear p) (Clear p) (λ u. refl, λ f. f) (λ b m. m) d

  stays_on : (c : Call) → On does c s a t → sound t.below
  stays_on c o = below_stays s.below c o.handed.below t.below h o.handed.call

  stays_same : {f : LayerFault F} → Refused f s a t → sound t.below
  stays_same r = subst (λ (x : Transposer S). sound x.below) (sym r.same) h

  checked_stays : (x : Bool) (c : Call) (f : LayerFault F) → cond x (On does c s a t) (Refused f s a t) → sound t.below
  checked_stays true c f d = stays_on c d
  checked_stays false c f d = stays_same d

  start_stays : (x : Bool) (p c k v : ℕ) → cond x (Moved does p c k v s a t) (Refused (Own OutOfRange) s a t) → sound t.below
  start_stays true p c k v d = stays_on (Start p c d.to v) d.on
  start_stays false p c k v d = stays_same d

  set_stays : (x y z : Bool) (v : ℤ) (c : Call) → cond x (cond y (cond z (Shifted v s a t) (Refused (Own ValueOutOfRange) s a t)) (Refused (Own NoSuchItem) s a t)) (On does c s a t) → sound t.below
  set_stays true true true v c d = subst sound (sym d.below) h
  set_stays true true false v c d = stays_same d
  set_stays true false z v c d = stays_same d
  set_stays false y z v c d = stays_on c d

  pub transposer_stays : (c : Call) → TransposerDoes does s c a t → sound t.below
  transposer_stays (Start p c k v) d = start_stays (startable c k v) p c k v d
  transposer_stays (Release p u v) d = checked_stays (nat_le v 127) (Release p u v) (Own OutOfRange) d
  transposer_stays (Hush p u) d = stays_on (Hush p u) d
  transposer_stays (Tell p c n v) d = checked_stays (tellable c n v) (Tell p c n v) (Own TellOutOfRange) d
  transposer_stays (Set p e i v) d = set_stays (e == 0) (i == 0) (in_range v) v (Set p (e - 1) i v) d
  transposer_stays (Clear p) d = stays_on (Clear p) d

pub transposer_orderly : {S : Type 0} (m : Meaning) (s : Transposer S) → Orderly m → Orderly (transposer_meaning (λ _. m) s)
transposer_orderly m s o = layer_orderly false (keeps_none s) m (λ u e. clash false e refl) o

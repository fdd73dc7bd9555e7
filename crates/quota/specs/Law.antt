-- A quota has the meaning of a sink, if the sink below has it.
use Rattle.std.specs.Prelude.{◌≡◌, ℕ, ◌+◌, ◌-◌, ◌≤◌, Bool, true, false, cond, List, [], ℤ, ◌==◌, nat_le, refl}
use Rattle.std.proofs.Common.{sym, ap, subst, arith}
use Rattle.sink.specs.Faults.{Denial, layer_denial}
use Rattle.sink.specs.Calls.{Call, Start, Release, Hush, Tell, Set, Clear, Answer, startable, tellable, within}
use Rattle.sink.specs.Meaning.{Meaning, Means, Idle}
use Rattle.sink.specs.Layered.{Refused}
use Rattle.sink.specs.declared.fault.Cause.TheVariants.{OutOfRange, TellOutOfRange, NoSuchItem, ValueOutOfRange}
use Rattle.sink.specs.declared.fault.LayerFault.{LayerFault}
use Rattle.sink.specs.declared.fault.LayerFault.TheVariants.{Own}
use Rattle.sink.proofs.Handed.{redepthed}
use Rattle.sink.proofs.Refusals.{start_refused, release_refused, tell_refused, item_refused, value_refused}
use Rattle.roll.specs.declared.note.Note.{Note}
use Rattle.roll.specs.declared.roll.Roll.{Roll}
use Rattle.roll.specs.Notes.{left_out, full}
use Rattle.roll.specs.Rolls.{listed}
use Rattle.rolled.specs.declared.rolled.Rolled.{Rolled}
use Rattle.rolled.specs.Rolled.{notes_of, keeps_none, rolled_meaning, RollSound, RollAfter, Onward, NotReady, says_yes}
use Rattle.rolled.proofs.Below.{Lawful}
use Rattle.rolled.proofs.Silent.{silenced_quieter}
use Rattle.rolled.proofs.Onward.{Allowed, none_owns, onward, new_sound}
use Rattle.rolled.proofs.Work.{yes_ready, has_room, unready, as_before, lifted, start_after}
use Rattle.quota.specs.declared.limit.Limit.{Limit}
use Rattle.quota.specs.declared.quota.Quota.{Quota}
use Rattle.quota.specs.Hushing.{sounding_count}
use Rattle.quota.specs.Quota.{quota_meaning, QuotaSound, On, Started, Limited, QuotaDoes}
use Rattle.quota.specs.Few.{few_left, starts, count_after}

same_state : {S O : Type 0} (s t : Quota S O) → t.limit ≡ s.limit → t.order ≡ s.order → t.rolled ≡ s.rolled → t ≡ s
same_state s t q o p = λ i. record { rolled = p i; limit = q i; order = o i }

module _ {S O F : Type 0} {sees : F → Denial} {meaning : S → Meaning} {sound : S → Type 0} {does : S → Call → Answer F → S → Type 0} (before : O → Note → Note → Bool) (law : Lawful sees meaning sound does) (s : Quota S O) (a : Answer (LayerFault F)) (t : Quota S O) (h : QuotaSound meaning sound s) where
  abbrev D : LayerFault F → Denial
  D = layer_denial sees

  abbrev M : Rolled S → Meaning
  M = rolled_meaning keeps_none meaning

  abbrev ns : List Note
  ns = notes_of s.rolled

  abbrev count : Rolled S → ℕ
  count r = sounding_count meaning (notes_of r) r.below

  -- what is to show of a call: the state after is sound, and the call has its meaning
  abbrev Stands : Call → Type 0
  Stands c = QuotaSound meaning sound t × Means D (quota_meaning meaning) s c a t

  unchanged : {f : LayerFault F} → Refused f s a t → QuotaSound meaning sound t
  unchanged r = subst (QuotaSound meaning sound) (sym r.same) h

  -- how many sound after a call handed on
  counted : (c : Call) (r r' : Rolled S) → RollSound meaning sound r → Onward does c r a r' → count r' ≤ count r + starts law c
  counted c r r' k d =
      let b = d.handed.below in
      count_after law r r' k c b (law.means r.below c b r'.below k.below d.handed.call) (subst (λ x. RollAfter c x r.roll r'.roll) d.handed.up d.roll)

  on : (c c' : Call) → starts law c' ≡ 0 → Allowed (full ns) (keeps_none ns) c' → (Means D M s.rolled c' a t.rolled → Means D M s.rolled c a t.rolled) → On sees meaning does before c' s a t → Stands c
  on c c' none ok shape d =
      let w = onward law none_owns s.rolled t.rolled h.rolled c' a ok d.rolled in
      let le = counted c' s.rolled t.rolled h.rolled d.rolled in
      let few = h.few in
      let same = ap (λ (x : Limit). x.notes) d.limit in (
        record { rolled = w.0; few = omega arith },
        lifted D M (λ (x : Quota S O). x.rolled) s t c a (as_before D M (λ (x : Quota S O). x.rolled) s t a (same_state s t d.limit d.order)) (shape w.1),
      )

  started : (p c k v : ℕ) → startable c k v ≡ true → says_yes (quota_meaning meaning s).ready ≡ true → Started sees meaning does before p c k v s a t → Stands (Start p c k v)
  started p c k v ok free d =
      let w = few_left law (before s.order) p (s.limit.notes - 1) s.rolled d.between h.rolled d.hushed in
      let room = subst (λ (x : Roll). full (listed x) ≡ false) (sym d.hushed.roll) (has_room (full ns) (meaning s.rolled.below).ready free) in
      let o = onward law none_owns d.between t.rolled w.0 (Start p c k v) a (ok, room) d.started in
      let le = counted (Start p c k v) d.between t.rolled w.0 d.started in
      let few = w.2 in
      let least = s.limit.least in
      let same = ap (λ (x : Limit). x.notes) d.limit in (
        record { rolled = o.0; few = omega arith },
        start_after D M (λ (x : Quota S O). x.rolled) s t d.between p c k v a ok (yes_ready (quota_meaning meaning s).ready free) w.1 o.1,
      )

  limited : (p e i : ℕ) (v : ℤ) → Limited sees meaning does before p v s a t → Stands (Set p e i v)
  limited p e i v d =
      let w = few_left law (before s.order) p t.limit.notes s.rolled t.rolled h.rolled d.hushed in (
        record { rolled = w.0; few = w.2 },
        subst (λ x. Means D (quota_meaning meaning) s (Set p e i v) x t) (sym d.answer) (silenced_quieter (quota_meaning meaning s) (quota_meaning meaning t) w.1),
      )

  -- each call, by what the layer looks at first
  start_stands : (p c k v : ℕ) (x y : Bool) → startable c k v ≡ x → says_yes (quota_meaning meaning s).ready ≡ y → cond x (cond y (Started sees meaning does before p c k v s a t) (NotReady D (quota_meaning meaning s) s a t)) (Refused (Own OutOfRange) s a t) → Stands (Start p c k v)
  start_stands p c k v true true e f d = started p c k v e f d
  start_stands p c k v true false e f d = (unchanged d.refused, unready D (quota_meaning meaning) p c k v s a t e d)
  start_stands p c k v false y e f d = (unchanged d, start_refused sees (quota_meaning meaning) s a t p c k v e d)

  release_stands : (p u v : ℕ) (x : Bool) → nat_le v 127 ≡ x → cond x (On sees meaning does before (Release p u v) s a t) (Refused (Own OutOfRange) s a t) → Stands (Release p u v)
  release_stands p u v true e d = on (Release p u v) (Release p u v) refl (e, refl) (λ m. m) d
  release_stands p u v false e d = (unchanged d, release_refused sees (quota_meaning meaning) s a t p u v e d)

  tell_stands : (p c n v : ℕ) (x : Bool) → tellable c n v ≡ x → cond x (On sees meaning does before (Tell p c n v) s a t) (Refused (Own TellOutOfRange) s a t) → Stands (Tell p c n v)
  tell_stands p c n v true e d = on (Tell p c n v) (Tell p c n v) refl e (λ m. m) d
  tell_stands p c n v false e d = (unchanged d, tell_refused sees (quota_meaning meaning) s a t p c n v e d)

  set_stands : (p e i : ℕ) (v : ℤ) (x y z : Bool) → cond x (cond y (cond z (Limited sees meaning does before p v s a t) (Refused (Own ValueOutOfRange) s a t)) (Refused (Own NoSuchItem) s a t)) (On sees meaning does before (Set p (e - 1) i v) s a t) → Stands (Set p e i v)
  set_stands p e i v true true true d = limited p e i v d
  set_stands p e i v true true false d = (unchanged d, value_refused sees (quota_meaning meaning) s a t p e i v d)
  set_stands p e i v true false z d = (unchanged d, item_refused sees (quota_meaning meaning) s a t p e i v d)
  set_stands p e i v false y z d = on (Set p e i v) (Set p (e - 1) i v) refl tt (redepthed D M s.rolled t.rolled p e (e - 1) i v a) d

  pub quota_stands : (c : Call) → QuotaDoes sees meaning does before s c a t → Stands c
  quota_stands (Start p c k v) d = start_stands p c k v (startable c k v) (says_yes (quota_meaning meaning s).ready) refl refl d
  quota_stands (Release p u v) d = release_stands p u v (nat_le v 127) refl d
  quota_stands (Hush p u) d = on (Hush p u) (Hush p u) refl refl (λ m. m) d
  quota_stands (Tell p c n v) d = tell_stands p c n v (tellable c n v) refl d
  quota_stands (Set p e i v) d = set_stands p e i v (e == 0) (i == 0) (within 1 64 v) d
  quota_stands (Clear p) d = on (Clear p) (Clear p) refl (λ u. refl) (λ m. m) d

pub quota_new : {S O : Type 0} (meaning : S → Meaning) (sound : S → Type 0) (s : Quota S O) → notes_of s.rolled ≡ [] → Idle (meaning s.rolled.below) → sound s.rolled.below → QuotaSound meaning sound s
unfolding left_out
quota_new meaning sound s none idle h =
    let e : sounding_count meaning (notes_of s.rolled) s.rolled.below ≡ 0 = ap (λ l. sounding_count meaning l s.rolled.below) none in
    record { rolled = new_sound meaning sound s.rolled none idle h; few = omega arith }

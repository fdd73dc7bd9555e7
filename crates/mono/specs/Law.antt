-- A mono has the meaning of a sink, if the sink below has it.
use Rattle.std.specs.Prelude.{◌≡◌, refl, Bool, true, false, cond, List, ℕ, ◌-◌, ◌==◌, nat_le, ℤ, slice_index_or}
use Rattle.std.proofs.Common.{sym, subst}
use Rattle.sink.specs.Faults.{Denial, layer_denial}
use Rattle.sink.specs.Calls.{Call, Start, Release, Hush, Tell, Set, Clear, Answer, startable, tellable}
use Rattle.sink.specs.Meaning.{Meaning, Means}
use Rattle.sink.specs.Layered.{Refused}
use Rattle.sink.specs.declared.fault.Cause.TheVariants.{OutOfRange, TellOutOfRange, NoSuchItem}
use Rattle.sink.specs.declared.fault.LayerFault.{LayerFault}
use Rattle.sink.specs.declared.fault.LayerFault.TheVariants.{Own}
use Rattle.sink.proofs.Handed.{redepthed, quieter_same}
use Rattle.sink.proofs.Refusals.{start_refused, release_refused, tell_refused, item_refused}
use Rattle.roll.specs.declared.note.Note.{Note}
use Rattle.roll.specs.declared.note.Pick.TheVariants.{On}
use Rattle.roll.specs.declared.roll.Roll.{Roll}
use Rattle.roll.specs.Notes.{full}
use Rattle.roll.specs.Rolls.{listed}
use Rattle.rolled.specs.declared.rolled.Rolled.{Rolled}
use Rattle.rolled.specs.Rolled.{notes_of, keeps_none, rolled_meaning, RollSound, NotReady, says_yes}
use Rattle.rolled.specs.Chains.{Hushed}
use Rattle.rolled.proofs.Below.{Lawful}
use Rattle.rolled.proofs.Silent.{Silenced, silenced_none}
use Rattle.rolled.proofs.Onward.{Allowed, none_owns, onward}
use Rattle.rolled.proofs.Work.{yes_ready, has_room, unready, as_before, lifted, tell_after, start_after, hushed}
use Rattle.mono.specs.declared.mono.Mono.{Mono}
use Rattle.mono.specs.Mono.{mono_meaning, MonoSound, Passed, Started, Told, MonoDoes}

same_state : {S : Type 0} (s t : Mono S) → t.modes ≡ s.modes → t.rolled ≡ s.rolled → t ≡ s
same_state s t q p = λ i. record { rolled = p i; modes = q i }

module _ {S F : Type 0} {sees : F → Denial} {meaning : S → Meaning} {sound : S → Type 0} {does : S → Call → Answer F → S → Type 0} (law : Lawful sees meaning sound does) (s : Mono S) (h : MonoSound meaning sound s) where
  abbrev D : LayerFault F → Denial
  D = layer_denial sees

  abbrev ns : List Note
  ns = notes_of s.rolled

  -- making way leaves the roll, and only silences
  pub way_made : (b : Bool) (p c : ℕ) (mid : Rolled S) → cond b (Hushed meaning does p (On c) s.rolled mid) (mid ≡ s.rolled) → RollSound meaning sound mid × Silenced (mono_meaning meaning s) (rolled_meaning keeps_none meaning mid) × (mid.roll ≡ s.rolled.roll)
  way_made true p c mid d = let w = hushed law s.rolled mid h p (On c) keeps_none d in (w.0, w.1, d.roll)
  way_made false p c mid d = (subst (RollSound meaning sound) (sym d) h, subst (λ z. Silenced (mono_meaning meaning s) (rolled_meaning keeps_none meaning z)) (sym d) (silenced_none (mono_meaning meaning s)), λ i. (d i).roll)

  module _ (a : Answer (LayerFault F)) (t : Mono S) where
    -- what is to show of a call: the state after is sound, and the call has its meaning
    abbrev Stands : Call → Type 0
    Stands c = MonoSound meaning sound t × Means D (mono_meaning meaning) s c a t

    unchanged : {f : LayerFault F} → Refused f s a t → MonoSound meaning sound t
    unchanged r = subst (MonoSound meaning sound) (sym r.same) h

    on : (c c' : Call) → Allowed (full ns) (keeps_none ns) c' → (Means D (rolled_meaning keeps_none meaning) s.rolled c' a t.rolled → Means D (rolled_meaning keeps_none meaning) s.rolled c a t.rolled) → Passed does c' s a t → Stands c
    on c c' ok shape d =
        let w = onward law none_owns s.rolled t.rolled h c' a ok d.rolled in
        (w.0, lifted D (rolled_meaning keeps_none meaning) (λ (x : Mono S). x.rolled) s t c a (as_before D (rolled_meaning keeps_none meaning) (λ (x : Mono S). x.rolled) s t a (same_state s t d.modes)) (shape w.1))

    started : (p c k v : ℕ) → startable c k v ≡ true → says_yes (mono_meaning meaning s).ready ≡ true → Started meaning does p c k v s a t → Stands (Start p c k v)
    started p c k v ok free d =
        let w = way_made (slice_index_or s.modes.on c false) p c d.between d.made_way in
        let room = subst (λ (x : Roll). full (listed x) ≡ false) (sym w.2) (has_room (full ns) (meaning s.rolled.below).ready free) in
        let o = onward law none_owns d.between t.rolled w.0 (Start p c k v) a (ok, room) d.started in
        (o.0, start_after D (rolled_meaning keeps_none meaning) (λ (x : Mono S). x.rolled) s t d.between p c k v a ok (yes_ready (mono_meaning meaning s).ready free) w.1 o.1)

    told : (p c n v : ℕ) → tellable c n v ≡ true → Told does p c n v s a t → Stands (Tell p c n v)
    told p c n v ok d =
        let o = onward law none_owns s.rolled t.rolled h (Tell p c n v) a ok d.rolled in
        (o.0, tell_after D (rolled_meaning keeps_none meaning) (λ (x : Mono S). x.rolled) s t s.rolled p c n v a ok (quieter_same (mono_meaning meaning s) (mono_meaning meaning s) refl) o.1)

    -- each call, by what the layer looks at first
    start_stands : (p c k v : ℕ) (x y : Bool) → startable c k v ≡ x → says_yes (mono_meaning meaning s).ready ≡ y → cond x (cond y (Started meaning does p c k v s a t) (NotReady D (mono_meaning meaning s) s a t)) (Refused (Own OutOfRange) s a t) → Stands (Start p c k v)
    start_stands p c k v true true e f d = started p c k v e f d
    start_stands p c k v true false e f d = (unchanged d.refused, unready D (mono_meaning meaning) p c k v s a t e d)
    start_stands p c k v false y e f d = (unchanged d, start_refused sees (mono_meaning meaning) s a t p c k v e d)

    release_stands : (p u v : ℕ) (x : Bool) → nat_le v 127 ≡ x → cond x (Passed does (Release p u v) s a t) (Refused (Own OutOfRange) s a t) → Stands (Release p u v)
    release_stands p u v true e d = on (Release p u v) (Release p u v) (e, refl) (λ m. m) d
    release_stands p u v false e d = (unchanged d, release_refused sees (mono_meaning meaning) s a t p u v e d)

    tell_stands : (p c n v : ℕ) (x : Bool) → tellable c n v ≡ x → cond x (Told does p c n v s a t) (Refused (Own TellOutOfRange) s a t) → Stands (Tell p c n v)
    tell_stands p c n v true e d = told p c n v e d
    tell_stands p c n v false e d = (unchanged d, tell_refused sees (mono_meaning meaning) s a t p c n v e d)

    set_stands : (p e i : ℕ) (v : ℤ) (x : Bool) → cond x (Refused (Own NoSuchItem) s a t) (Passed does (Set p (e - 1) i v) s a t) → Stands (Set p e i v)
    set_stands p e i v true d = (unchanged d, item_refused sees (mono_meaning meaning) s a t p e i v d)
    set_stands p e i v false d = on (Set p e i v) (Set p (e - 1) i v) tt (redepthed D (rolled_meaning keeps_none meaning) s.rolled t.rolled p e (e - 1) i v a) d

    stands : (c : Call) → MonoDoes sees meaning does s c a t → Stands c
    stands (Start p c k v) d = start_stands p c k v (startable c k v) (says_yes (mono_meaning meaning s).ready) refl refl d
    stands (Release p u v) d = release_stands p u v (nat_le v 127) refl d
    stands (Hush p u) d = on (Hush p u) (Hush p u) refl (λ m. m) d
    stands (Tell p c n v) d = tell_stands p c n v (tellable c n v) refl d
    stands (Set p e i v) d = set_stands p e i v (e == 0) d
    stands (Clear p) d = on (Clear p) (Clear p) (λ u. refl) (λ m. m) d

pub mono_stands : {S F : Type 0} {sees : F → Denial} {meaning : S → Meaning} {sound : S → Type 0} {does : S → Call → Answer F → S → Type 0} → Lawful sees meaning sound does → (s : Mono S) (a : Answer (LayerFault F)) (t : Mono S) → MonoSound meaning sound s → (c : Call) → MonoDoes sees meaning does s c a t → MonoSound meaning sound t × Means (layer_denial sees) (mono_meaning meaning) s c a t
mono_stands law s a t h = stands law s h a t

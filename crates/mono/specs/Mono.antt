-- What a mono means, what its states have, and what each call does.
use Rattle.std.specs.Prelude.{◌≡◌, Bool, true, false, cond, List, ℕ, ◌-◌, ◌==◌, nat_le, slice_index_or, slice_set}
use Rattle.sink.specs.Faults.{Denial, layer_denial}
use Rattle.sink.specs.Calls.{Call, Start, Release, Hush, Tell, Set, Clear, Answer, ticket, startable, tellable}
use Rattle.sink.specs.Meaning.{Meaning}
use Rattle.sink.specs.Layered.{Refused}
use Rattle.sink.specs.declared.fault.Cause.TheVariants.{OutOfRange, TellOutOfRange, NoSuchItem}
use Rattle.sink.specs.declared.fault.LayerFault.{LayerFault}
use Rattle.sink.specs.declared.fault.LayerFault.TheVariants.{Own}
use Rattle.roll.specs.declared.note.Pick.TheVariants.{On}
use Rattle.roll.specs.Notes.{picked}
use Rattle.rolled.specs.declared.rolled.Rolled.{Rolled}
use Rattle.rolled.specs.Rolled.{notes_of, keeps_none, rolled_meaning, RollSound, Onward, NotReady, says_yes}
use Rattle.rolled.specs.Chains.{Hushed, tickets_of, named}
use Rattle.mono.specs.declared.mono.Mono.{Mono}

-- it keeps no ticket itself
abbrev pub mono_meaning : {S : Type 0} → (S → Meaning) → Mono S → Meaning
mono_meaning meaning s = rolled_meaning keeps_none meaning s.rolled

abbrev pub MonoSound : {S : Type 0} → (S → Meaning) → (S → Type 0) → Mono S → Type 0
MonoSound meaning sound s = RollSound meaning sound s.rolled

-- the modes after a tell
abbrev pub moded : (channel controller : ℕ) → List Bool → List Bool
moded c n modes = cond (n == 126) (slice_set modes c true) (cond (n == 127) (slice_set modes c false) modes)

-- on a mono channel each of its notes that sounds is hushed, the oldest first
abbrev pub MadeWay : {S F : Type 0} → (S → Meaning) → (S → Call → Answer F → S → Type 0) → (place channel : ℕ) → List Bool → Rolled S → Rolled S → Type 0
MadeWay meaning does p c modes r r' = cond (slice_index_or modes c false) (Hushed meaning does p (On c) r r') (r' ≡ r)

-- a call handed on, the modes as they were
pub record Passed {S F : Type 0} (does : S → Call → Answer F → S → Type 0) (c : Call) (s : Mono S) (a : Answer (LayerFault F)) (t : Mono S) : Type 0 where
  pub rolled : Onward does c s.rolled a t.rolled
  pub modes : t.modes ≡ s.modes

-- a start makes way, and is handed on
pub record Started {S F : Type 0} (meaning : S → Meaning) (does : S → Call → Answer F → S → Type 0) (p c k v : ℕ) (s : Mono S) (a : Answer (LayerFault F)) (t : Mono S) : Type 0 where
  pub between : Rolled S
  pub made_way : MadeWay meaning does p c s.modes.on s.rolled between
  pub started : Onward does (Start p c k v) between a t.rolled
  pub modes : t.modes ≡ s.modes

-- a tell moves the channel's mode, and is handed on
pub record Told {S F : Type 0} (does : S → Call → Answer F → S → Type 0) (p c n v : ℕ) (s : Mono S) (a : Answer (LayerFault F)) (t : Mono S) : Type 0 where
  pub rolled : Onward does (Tell p c n v) s.rolled a t.rolled
  pub modes : t.modes.on ≡ moded c n s.modes.on

module _ {S F : Type 0} (sees : F → Denial) (meaning : S → Meaning) (does : S → Call → Answer F → S → Type 0) where
  abbrev pub MonoDoes : Mono S → Call → Answer (LayerFault F) → Mono S → Type 0
  MonoDoes s (Start p c k v) a t =
      cond (startable c k v)
      (cond (says_yes (mono_meaning meaning s).ready) (Started meaning does p c k v s a t) (NotReady (layer_denial sees) (mono_meaning meaning s) s a t))
      (Refused (Own OutOfRange) s a t)
  MonoDoes s (Release p u v) a t = cond (nat_le v 127) (Passed does (Release p u v) s a t) (Refused (Own OutOfRange) s a t)
  MonoDoes s (Hush p u) a t = Passed does (Hush p u) s a t
  MonoDoes s (Tell p c n v) a t = cond (tellable c n v) (Told does p c n v s a t) (Refused (Own TellOutOfRange) s a t)
  MonoDoes s (Set p d i v) a t = cond (d == 0) (Refused (Own NoSuchItem) s a t) (Passed does (Set p (d - 1) i v) s a t)
  MonoDoes s (Clear p) a t = Passed does (Clear p) s a t

  -- after an accepted start on a mono channel, no other owed ticket of the channel sounds
  abbrev pub OneSounds : (channel : ℕ) (mono : Bool) → Mono S → Type 0
  OneSounds c mono s =
      mono ≡ true → (p k v x : ℕ) (t : Mono S) → MonoDoes s (Start p c k v) (ticket x) t →
      (u : ℕ) → named (tickets_of (picked (On c)) (notes_of t.rolled)) u ≡ true → (x == u) ≡ false → (mono_meaning meaning t).sounding u ≡ false

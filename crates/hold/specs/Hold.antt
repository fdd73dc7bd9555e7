-- What a hold means, what its states have, and what each call does.
use Rattle.std.specs.Prelude.{◌≡◌, ℕ, ◌-◌, Bool, true, false, cond, ◌&&◌, ◌||◌, List, [], ◌∷◌, replicate, Some, None, Option, ◌==◌, nat_le, slice_index_or, slice_set}
use Rattle.sink.specs.Faults.{Denial, layer_denial}
use Rattle.sink.specs.Calls.{Call, Start, Release, Hush, Tell, Set, Clear, Answer, done, startable, tellable}
use Rattle.sink.specs.Meaning.{Meaning}
use Rattle.sink.specs.Layered.{Refused}
use Rattle.sink.specs.declared.fault.Cause.TheVariants.{OutOfRange, NotOwed, TellOutOfRange, NoSuchItem}
use Rattle.sink.specs.declared.fault.LayerFault.{LayerFault}
use Rattle.sink.specs.declared.fault.LayerFault.TheVariants.{Own}
use Rattle.roll.specs.declared.note.Note.{Note}
use Rattle.roll.specs.declared.note.Pick.TheVariants.{Kept, KeptOn}
use Rattle.roll.specs.Notes.{found, marked}
use Rattle.rolled.specs.declared.rolled.Rolled.{Rolled}
use Rattle.rolled.specs.Rolled.{notes_of, keeps, rolled_meaning, RollSound, Onward, NotReady, says_yes}
use Rattle.rolled.specs.Chains.{LetGo}
use Rattle.hold.specs.declared.hold.Hold.{Hold}

-- its own kept tickets are those that its roll marks
abbrev pub hold_meaning : {S : Type 0} → (S → Meaning) → Hold S → Meaning
hold_meaning meaning s = rolled_meaning keeps meaning s.rolled

-- each kept note is on a channel whose pedal is down
unfoldable pub Under : List Bool → List Note → Type 0
Under down [] = Unit {0}
Under down (n ∷ ns) = (n.kept ≡ true → slice_index_or down n.channel false ≡ true) × Under down ns

pub record HoldSound {S : Type 0} (meaning : S → Meaning) (sound : S → Type 0) (s : Hold S) : Type 0 where
  pub rolled : RollSound meaning sound s.rolled
  pub under : Under s.pedals.on (notes_of s.rolled)

abbrev pub note_under : List Bool → Option Note → Bool
note_under down None = false
note_under down (Some n) = slice_index_or down n.channel false

-- whether a ticket's note is on a channel whose pedal is down
abbrev pub is_under_pedal : List Bool → List Note → ℕ → Bool
is_under_pedal down ns u = note_under down (found u ns)

-- what lets go of the channel's kept notes: the sustain pedal up, all sound off, and reset all controllers
abbrev pub lifts : (controller value : ℕ) → Bool
lifts n v = (n == 64 && nat_le v 63) || (n == 120 || n == 121)

-- the pedals after a tell: all sound off leaves them
abbrev pub moved : (channel controller value : ℕ) → List Bool → List Bool
moved c n v down = cond (n == 64) (slice_set down c (nat_le 64 v)) (cond (n == 121) (slice_set down c false) down)

-- what a tell releases
abbrev pub Lifted : {S F : Type 0} → (S → Call → Answer F → S → Type 0) → (place channel controller value : ℕ) → Rolled S → Rolled S → Type 0
Lifted does p c n v r r' = cond (lifts n v) (LetGo does p (KeptOn c) r r') (r' ≡ r)

-- a call handed on, the pedals as they were
pub record On {S F : Type 0} (does : S → Call → Answer F → S → Type 0) (c : Call) (s : Hold S) (a : Answer (LayerFault F)) (t : Hold S) : Type 0 where
  pub rolled : Onward does c s.rolled a t.rolled
  pub pedals : t.pedals ≡ s.pedals

-- a release kept here: nothing is called below
pub record KeptHere {S F : Type 0} (u : ℕ) (s : Hold S) (a : Answer (LayerFault F)) (t : Hold S) : Type 0 where
  pub answer : a ≡ done
  pub below : t.rolled.below ≡ s.rolled.below
  pub roll : notes_of t.rolled ≡ marked u (notes_of s.rolled)
  pub pedals : t.pedals ≡ s.pedals

-- first its own work, then the tell is handed on
pub record Told {S F : Type 0} (does : S → Call → Answer F → S → Type 0) (p c n v : ℕ) (s : Hold S) (a : Answer (LayerFault F)) (t : Hold S) : Type 0 where
  pub between : Rolled S
  pub lifted : Lifted does p c n v s.rolled between
  pub told : Onward does (Tell p c n v) between a t.rolled
  pub pedals : t.pedals.on ≡ moved c n v s.pedals.on

-- all that is kept is released, every pedal is lifted, and the clear is handed on
pub record ClearedAll {S F : Type 0} (does : S → Call → Answer F → S → Type 0) (p : ℕ) (s : Hold S) (a : Answer (LayerFault F)) (t : Hold S) : Type 0 where
  pub between : Rolled S
  pub lifted : LetGo does p Kept s.rolled between
  pub cleared : Onward does (Clear p) between a t.rolled
  pub pedals : t.pedals.on ≡ replicate 16 false

module _ {S F : Type 0} (sees : F → Denial) (meaning : S → Meaning) (does : S → Call → Answer F → S → Type 0) (s : Hold S) where
  abbrev pub releases : (p u v : ℕ) → Answer (LayerFault F) → Hold S → Type 0
  releases p u v a t =
      cond (keeps (notes_of s.rolled) u) (Refused (Own NotOwed) s a t)
      (cond (is_under_pedal s.pedals.on (notes_of s.rolled) u) (KeptHere u s a t) (On does (Release p u v) s a t))

  abbrev pub HoldDoes : Call → Answer (LayerFault F) → Hold S → Type 0
  HoldDoes (Start p c k v) a t =
      cond (startable c k v)
      (cond (says_yes (hold_meaning meaning s).ready) (On does (Start p c k v) s a t) (NotReady (layer_denial sees) (hold_meaning meaning s) s a t))
      (Refused (Own OutOfRange) s a t)
  HoldDoes (Release p u v) a t = cond (nat_le v 127) (releases p u v a t) (Refused (Own OutOfRange) s a t)
  HoldDoes (Hush p u) a t = cond (keeps (notes_of s.rolled) u) (Refused (Own NotOwed) s a t) (On does (Hush p u) s a t)
  HoldDoes (Tell p c n v) a t = cond (tellable c n v) (Told does p c n v s a t) (Refused (Own TellOutOfRange) s a t)
  HoldDoes (Set p d i v) a t = cond (d == 0) (Refused (Own NoSuchItem) s a t) (On does (Set p (d - 1) i v) s a t)
  HoldDoes (Clear p) a t = ClearedAll does p s a t

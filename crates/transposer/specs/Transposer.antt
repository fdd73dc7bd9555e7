-- What a transposer means, and what each call does to it and asks of the sink below.
use Rattle.std.specs.Prelude.{◌≡◌, ℕ, ◌-◌, Bool, false, cond, ℤ, pos, ◌+ℤ◌, ◌==◌, nat_le}
use Rattle.sink.specs.Calls.{Call, Start, Release, Hush, Tell, Set, Clear, Answer, done, startable, tellable}
use Rattle.sink.specs.Meaning.{Meaning}
use Rattle.sink.specs.Layered.{layered, Refused, Handed}
use Rattle.sink.specs.declared.fault.Cause.TheVariants.{OutOfRange, TellOutOfRange, NoSuchItem, ValueOutOfRange}
use Rattle.sink.specs.declared.fault.LayerFault.{LayerFault}
use Rattle.sink.specs.declared.fault.LayerFault.TheVariants.{Own}
use Rattle.transposer.specs.Shift.{in_range, Folds}
use Rattle.transposer.specs.declared.transposer.Transposer.{Transposer}

-- it has no roll to fill
abbrev pub never_full : {S : Type 0} → Transposer S → Bool
never_full s = false

-- it keeps no ticket itself
abbrev pub keeps_none : {S : Type 0} → Transposer S → ℕ → Bool
keeps_none s u = false

abbrev pub transposer_meaning : {S : Type 0} → (S → Meaning) → Transposer S → Meaning
transposer_meaning meaning s = layered (never_full s) (keeps_none s) (meaning s.below)

abbrev pub TransposerSound : {S : Type 0} → (S → Type 0) → Transposer S → Type 0
TransposerSound sound s = sound s.below

-- the call below, and the shift as it was
pub record On {S F : Type 0} (does : S → Call → Answer F → S → Type 0) (c : Call) (s : Transposer S) (a : Answer (LayerFault F)) (t : Transposer S) : Type 0 where
  pub handed : Handed does c s.below a t.below
  pub shift : t.shift ≡ s.shift

-- a start below, with the key moved and folded
pub record Moved {S F : Type 0} (does : S → Call → Answer F → S → Type 0) (place channel key velocity : ℕ) (s : Transposer S) (a : Answer (LayerFault F)) (t : Transposer S) : Type 0 where
  pub to : ℕ
  pub folds : Folds (pos key +ℤ s.shift.semitones) to
  pub on : On does (Start place channel to velocity) s a t

-- a new shift, and nothing called below
pub record Shifted {S F : Type 0} (value : ℤ) (s : Transposer S) (a : Answer (LayerFault F)) (t : Transposer S) : Type 0 where
  pub answer : a ≡ done
  pub below : t.below ≡ s.below
  pub shift : t.shift.semitones ≡ value

abbrev pub sets : {S F : Type 0} → (item : ℕ) (value : ℤ) → Transposer S → Answer (LayerFault F) → Transposer S → Type 0
sets item value s a t =
    cond (item == 0) (cond (in_range value) (Shifted value s a t) (Refused (Own ValueOutOfRange) s a t)) (Refused (Own NoSuchItem) s a t)

abbrev pub TransposerDoes : {S F : Type 0} → (S → Call → Answer F → S → Type 0) → Transposer S → Call → Answer (LayerFault F) → Transposer S → Type 0
TransposerDoes does s (Start place channel key velocity) a t =
    cond (startable channel key velocity) (Moved does place channel key velocity s a t) (Refused (Own OutOfRange) s a t)
TransposerDoes does s (Release place ticket velocity) a t =
    cond (nat_le velocity 127) (On does (Release place ticket velocity) s a t) (Refused (Own OutOfRange) s a t)
TransposerDoes does s (Hush place ticket) a t = On does (Hush place ticket) s a t
TransposerDoes does s (Tell place channel controller value) a t =
    cond (tellable channel controller value) (On does (Tell place channel controller value) s a t) (Refused (Own TellOutOfRange) s a t)
TransposerDoes does s (Set place depth item value) a t =
    cond (depth == 0) (sets item value s a t) (On does (Set place (depth - 1) item value) s a t)
TransposerDoes does s (Clear place) a t = On does (Clear place) s a t

-- An end: a roll of the notes whose tickets are owed, and the voices of the tickets that sound.
use Rattle.std.specs.Prelude.{◌≡◌, ℕ, ◌<◌, Bool, true, false, cond, List, is_some, Some, None, Ok, Err, Option, Result, nat_le}
use Rattle.sink.specs.Faults.{here}
use Rattle.sink.specs.Calls.{Call, Start, Release, Hush, Tell, Set, Clear, Answer, done, startable, tellable}
use Rattle.sink.specs.Meaning.{Meaning, whether}
use Rattle.sink.specs.Layered.{Refused}
use Rattle.sink.specs.declared.fault.Cause.{Cause}
use Rattle.sink.specs.declared.fault.Cause.TheVariants.{OutOfRange, AllOut, NoSpace, NotOwed, TellOutOfRange, NoLayer}
use Rattle.roll.specs.Notes.{found, lists, full, Distinct}
use Rattle.roll.specs.Voices.{voice}
use Rattle.roll.specs.declared.note.Note.{Note}

-- a ticket must be free, and there must be space for one note more
abbrev pub check_of : (full no-space : Bool) → Result (Unit {0}) Cause
check_of full no-space = cond full (Err AllOut) (cond no-space (Err NoSpace) (Ok tt))

-- what an end means: nothing is ever kept
abbrev pub end_meaning : {V : Type 0} → Result (Unit {0}) Cause → List Note → List (Option V) → Meaning
end_meaning check ns xs = record { ready = whether here check; owed = lists ns; kept = λ u. false; sounding = λ u. is_some (voice xs u) }

abbrev pub new_note : (u channel key velocity : ℕ) → Note
new_note u channel key velocity = record { ticket = u; channel = channel; key = key; velocity = velocity; kept = false }

-- the roll has each ticket once, all below 128, and what sounds is in the roll
pub record InOrder {V : Type 0} (ns : List Note) (xs : List (Option V)) : Type 0 where
  pub once : Distinct ns
  pub small : (u : ℕ) → lists ns u ≡ true → u < 128
  pub within : (u : ℕ) → is_some (voice xs u) ≡ true → lists ns u ≡ true

-- What an end does with a start, a release and a hush that it takes.
pub record Deeds (S : Type 0) : Type 1 where
  pub check : S → Result (Unit {0}) Cause
  pub notes : S → List Note
  pub begins : (place channel key velocity : ℕ) → S → Answer Cause → S → Type 0
  pub ends : (place u velocity : ℕ) → Note → S → Answer Cause → S → Type 0
  pub hushes : (place u : ℕ) → Note → S → Answer Cause → S → Type 0

pub record Same {S : Type 0} (s : S) (a : Answer Cause) (t : S) : Type 0 where
  pub answer : a ≡ done
  pub same : t ≡ s

abbrev pub IfReady : {S : Type 0} → Result (Unit {0}) Cause → (S → Answer Cause → S → Type 0) → S → Answer Cause → S → Type 0
IfReady (Ok _) begins s a t = begins s a t
IfReady (Err f) begins s a t = Refused f s a t

abbrev pub IfOwed : {S : Type 0} → Option Note → (Note → S → Answer Cause → S → Type 0) → S → Answer Cause → S → Type 0
IfOwed None does s a t = Refused NotOwed s a t
IfOwed (Some n) does s a t = does n s a t

-- A call out of range is refused first, then a start that the end is not ready for, and a ticket that is not owed. Tells and clears change nothing.
abbrev pub EndDoes : {S : Type 0} → Deeds S → S → Call → Answer Cause → S → Type 0
EndDoes d s (Start place channel key velocity) a t = cond (startable channel key velocity) (IfReady (d.check s) (d.begins place channel key velocity) s a t) (Refused OutOfRange s a t)
EndDoes d s (Release place u velocity) a t = cond (nat_le velocity 127) (IfOwed (found u (d.notes s)) (d.ends place u velocity) s a t) (Refused OutOfRange s a t)
EndDoes d s (Hush place u) a t = IfOwed (found u (d.notes s)) (d.hushes place u) s a t
EndDoes d s (Tell place channel controller value) a t = cond (tellable channel controller value) (Same s a t) (Refused TellOutOfRange s a t)
EndDoes d s (Set place depth item value) a t = Refused NoLayer s a t
EndDoes d s (Clear place) a t = Same s a t

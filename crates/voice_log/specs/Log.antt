-- What a voice log means, and what each call writes.
use Rattle.std.specs.Prelude.{◌≡◌, ℕ, ◌-◌, ◌<◌, ◌≤◌, true, false, List, [], ◌∷◌, ◌++◌, Some, None, Option, Result, ◌≢◌, nat_lt, slice_set}
use Rattle.sink.specs.Calls.{Call, Answer, ticket, done}
use Rattle.sink.specs.Meaning.{Meaning}
use Rattle.sink.specs.Ends.{End}
use Rattle.sink.specs.declared.fault.Cause.{Cause}
use Rattle.roll.specs.Notes.{lists, full, picked, left_out}
use Rattle.roll.specs.Rolls.{listed}
use Rattle.roll.specs.Voices.{voice}
use Rattle.roll.specs.declared.note.Note.{Note}
use Rattle.roll.specs.declared.note.Pick.TheVariants.{Ticket}
use Rattle.ends.specs.Buffers.{front, Pushed}
use Rattle.ends.specs.Ending.{check_of, end_meaning, new_note, InOrder, Deeds, EndDoes}
use Rattle.voice_log.specs.Lines.{begun_count, begins, stops, Clean, Complete}
use Rattle.voice_log.specs.Serials.{Told}
use Rattle.voice_log.specs.declared.line.Kind.{Kind}
use Rattle.voice_log.specs.declared.line.Kind.TheVariants.{Begun, Ended, Hushed}
use Rattle.voice_log.specs.declared.line.Line.{Line}
use Rattle.voice_log.specs.declared.log.VoiceLog.{VoiceLog}

-- the lines written so far
abbrev pub written_lines : VoiceLog → List Line
written_lines s = front s.lines

-- the notes whose tickets are owed, the oldest first
abbrev pub notes : VoiceLog → List Note
notes s = listed s.roll

-- for each ticket the serial that it sounds with
abbrev pub serials : VoiceLog → List (Option ℕ)
serials s = s.sounding.voices

-- the serial of a ticket that sounds
abbrev pub serial_of : VoiceLog → ℕ → Option ℕ
serial_of s u = voice (serials s) u

-- the lines that are free, less one for the stop of each ticket that sounds
abbrev pub spare : VoiceLog → ℕ
spare s = s.lines.room - s.lines.written - s.sounding.count

-- a ticket must be free, and two lines to spare: one for the begun line, and one for its stop
abbrev pub log_check : VoiceLog → Result (Unit {0}) Cause
log_check s = check_of (full (notes s)) (nat_lt (spare s) 2)

abbrev pub log_meaning : VoiceLog → Meaning
log_meaning s = end_meaning (log_check s) (notes s) (serials s)

-- one line more; every other place of the lines stays
abbrev pub Writes : Line → VoiceLog → VoiceLog → Type 0
Writes l s t = Pushed l s.lines t.lines

-- no line more
abbrev pub Silent : VoiceLog → VoiceLog → Type 0
Silent s t = t.lines ≡ s.lines

abbrev pub stop_line : (serial place : ℕ) (kind : Kind) (note : Note) (velocity : ℕ) → Line
stop_line n place kind note velocity = record { place = place; kind = kind; serial = n; channel = note.channel; key = note.key; velocity = velocity }

-- the stop line of a ticket that sounds; none of a silent one
abbrev pub StopLine : Option ℕ → (place : ℕ) (kind : Kind) (note : Note) (velocity : ℕ) → VoiceLog → VoiceLog → Type 0
StopLine None place kind note velocity s t = Silent s t
StopLine (Some n) place kind note velocity s t = Writes (stop_line n place kind note velocity) s t

pub record Stops (u place : ℕ) (kind : Kind) (note : Note) (velocity : ℕ) (s t : VoiceLog) : Type 0 where
  pub line : StopLine (serial_of s u) place kind note velocity s t
  pub serials : serials t ≡ slice_set (serials s) u None
  pub roll : t.roll ≡ s.roll

-- notes are numbered as they begin
abbrev pub begun_line : (place channel key velocity : ℕ) → VoiceLog → Line
begun_line place channel key velocity s = record { place = place; kind = Begun; serial = begun_count (written_lines s); channel = channel; key = key; velocity = velocity }

-- A start is taken: the least ticket that is not out, and a begun line.
pub record Begins (place channel key velocity : ℕ) (s : VoiceLog) (a : Answer Cause) (t : VoiceLog) : Type 0 where
  pub number : ℕ
  pub small : number < 128
  pub fresh : lists (notes s) number ≡ false
  pub least : (u : ℕ) → u < number → lists (notes s) u ≡ true
  pub answer : a ≡ ticket number
  pub line : Writes (begun_line place channel key velocity s) s t
  pub roll : notes t ≡ notes s ++ (new_note number channel key velocity ∷ [])
  pub serials : serials t ≡ slice_set (serials s) number (Some (begun_count (written_lines s)))

-- A ticket is released: its stop line, and it is out of the roll.
pub record Ends (place u velocity : ℕ) (note : Note) (s : VoiceLog) (a : Answer Cause) (t : VoiceLog) : Type 0 where
  pub answer : a ≡ done
  pub line : StopLine (serial_of s u) place Ended note velocity s t
  pub serials : serials t ≡ slice_set (serials s) u None
  pub roll : notes t ≡ left_out (picked (Ticket u)) (notes s)

-- A ticket is hushed: its stop line, with velocity 0.
pub record Hushes (place u : ℕ) (note : Note) (s : VoiceLog) (a : Answer Cause) (t : VoiceLog) : Type 0 where
  pub answer : a ≡ done
  pub stops : Stops u place Hushed note 0 s t

abbrev pub log_deeds : Deeds VoiceLog
log_deeds = record { check = log_check; notes = notes; begins = Begins; ends = Ends; hushes = Hushes }

abbrev pub LogDoes : VoiceLog → Call → Answer Cause → VoiceLog → Type 0
LogDoes = EndDoes log_deeds

-- In every state that calls lead to: the tickets are in order, and the lines tell of what sounds.
pub record LogSound (s : VoiceLog) : Type 0 where
  pub order : InOrder (notes s) (serials s)
  pub told : Told (written_lines s) (serials s)

-- Every begun line whose ticket sounds no more has exactly one stop.
abbrev pub Stopped : VoiceLog → Type 0
Stopped s = (n : ℕ) → 1 ≤ begins n (written_lines s) → ((u : ℕ) → serial_of s u ≢ Some n) → stops n (written_lines s) ≡ 1

abbrev pub log_end : List Line → End
log_end ls = record { clean = Clean ls; complete = Complete ls }

abbrev pub log_ends : VoiceLog → List End
log_ends s = log_end (written_lines s) ∷ []

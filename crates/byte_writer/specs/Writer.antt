-- What a byte writer means, and what each call writes.
use Rattle.std.specs.Prelude.{◌≡◌, ℕ, ◌-◌, ◌*◌, ◌<◌, true, false, List, [], ◌∷◌, ◌++◌, Some, None, Option, Result, nat_lt, slice_set}
use Rattle.sink.specs.Calls.{Call, Answer, ticket, done}
use Rattle.sink.specs.Meaning.{Meaning}
use Rattle.sink.specs.Ends.{End}
use Rattle.sink.specs.declared.fault.Cause.{Cause}
use Rattle.roll.specs.Notes.{found, lists, full, picked, left_out}
use Rattle.roll.specs.Rolls.{listed}
use Rattle.roll.specs.Voices.{one, voice, sounding_with}
use Rattle.roll.specs.declared.note.Note.{Note}
use Rattle.roll.specs.declared.note.Pick.TheVariants.{Ticket}
use Rattle.ends.specs.Buffers.{front, Appended}
use Rattle.ends.specs.Ending.{check_of, end_meaning, new_note, InOrder, Deeds, EndDoes}
use Rattle.byte_writer.specs.Keys.{is_key, ticket_with, silenced}
use Rattle.byte_writer.specs.Messages.{bytes_of, readings, AllRanged}
use Rattle.byte_writer.specs.Receiver.{none, keys_on, Orderly, Clean, Complete}
use Rattle.byte_writer.specs.declared.key.Key.{Key}
use Rattle.byte_writer.specs.declared.message.NoteMessage.{NoteMessage}
use Rattle.byte_writer.specs.declared.message.NoteMessage.TheVariants.{On, Off}
use Rattle.byte_writer.specs.declared.writer.ByteWriter.{ByteWriter}

-- the bytes written so far
abbrev pub written_bytes : ByteWriter → List ℕ
written_bytes s = front s.bytes

-- the notes whose tickets are owed, the oldest first
abbrev pub notes : ByteWriter → List Note
notes s = listed s.roll

-- for each ticket the key that it sounds with
abbrev pub voices : ByteWriter → List (Option Key)
voices s = s.sounding.voices

-- the bytes that are free, less three for the Note-off of each ticket that sounds
abbrev pub spare : ByteWriter → ℕ
spare s = s.bytes.room - s.bytes.written - 3 * s.sounding.count

-- a ticket must be free, and six bytes to spare: three for the Note-on, and three for its Note-off or for that of the note struck again
abbrev pub writer_check : ByteWriter → Result (Unit {0}) Cause
writer_check s = check_of (full (notes s)) (nat_lt (spare s) 6)

abbrev pub writer_meaning : ByteWriter → Meaning
writer_meaning s = end_meaning (writer_check s) (notes s) (voices s)

-- these messages are written at the next places, and nothing else
abbrev pub Wrote : List NoteMessage → ByteWriter → ByteWriter → Type 0
Wrote ms s t = Appended (bytes_of ms) s.bytes t.bytes

-- the Note-off of a ticket that sounds; none of a silent one
abbrev pub stop_messages : Option Key → (velocity : ℕ) → List NoteMessage
stop_messages None velocity = []
stop_messages (Some k) velocity = Off k.channel k.number velocity ∷ []

pub record Stops (u velocity : ℕ) (s t : ByteWriter) : Type 0 where
  pub wrote : Wrote (stop_messages (voice (voices s) u) velocity) s t
  pub voices : voices t ≡ slice_set (voices s) u None
  pub roll : t.roll ≡ s.roll

-- a ticket that sounds with the key to be struck stops first, with velocity 64
abbrev pub HushedFirst : Option ℕ → ByteWriter → ByteWriter → Type 0
HushedFirst None s t = t ≡ s
HushedFirst (Some u) s t = Stops u 64 s t

-- the ticket that sounds with a key
abbrev pub holder : (channel key : ℕ) → ByteWriter → Option ℕ
holder channel key s = ticket_with (is_key channel key) (voices s)

-- a key that sounds already is stopped before it is struck again
abbrev pub strike_messages : Option ℕ → (channel key velocity : ℕ) → List NoteMessage
strike_messages None channel key velocity = On channel key velocity ∷ []
strike_messages (Some u) channel key velocity = Off channel key 64 ∷ On channel key velocity ∷ []

-- A start is taken: the least ticket that is not out, and the key is struck.
pub record Begins (place channel key velocity : ℕ) (s : ByteWriter) (a : Answer Cause) (t : ByteWriter) : Type 0 where
  pub number : ℕ
  pub small : number < 128
  pub fresh : lists (notes s) number ≡ false
  pub least : (u : ℕ) → u < number → lists (notes s) u ≡ true
  pub answer : a ≡ ticket number
  pub wrote : Wrote (strike_messages (holder channel key s) channel key velocity) s t
  pub struck : Key
  pub on_channel : struck.channel ≡ channel
  pub on_key : struck.number ≡ key
  pub voices : voices t ≡ slice_set (silenced (holder channel key s) (voices s)) number (Some struck)
  pub roll : notes t ≡ notes s ++ (new_note number channel key velocity ∷ [])

-- A ticket is released: its Note-off, and it is out of the roll.
pub record Releases (place u velocity : ℕ) (note : Note) (s : ByteWriter) (a : Answer Cause) (t : ByteWriter) : Type 0 where
  pub answer : a ≡ done
  pub wrote : Wrote (stop_messages (voice (voices s) u) velocity) s t
  pub voices : voices t ≡ slice_set (voices s) u None
  pub roll : notes t ≡ left_out (picked (Ticket u)) (notes s)

-- A ticket is hushed: its Note-off, with velocity 64.
pub record Hushes (place u : ℕ) (note : Note) (s : ByteWriter) (a : Answer Cause) (t : ByteWriter) : Type 0 where
  pub answer : a ≡ done
  pub stops : Stops u 64 s t

abbrev pub writer_deeds : Deeds ByteWriter
writer_deeds = record { check = writer_check; notes = notes; begins = Begins; ends = Releases; hushes = Hushes }

abbrev pub WriterDoes : ByteWriter → Call → Answer Cause → ByteWriter → Type 0
WriterDoes = EndDoes writer_deeds

-- The bytes are those of some messages, and the receiver's keys on are those of the tickets that sound, each sounding once.
pub record Told (bs : List ℕ) (xs : List (Option Key)) : Type 0 where
  pub messages : List NoteMessage
  pub ranged : AllRanged messages
  pub bytes : bs ≡ bytes_of messages
  pub orderly : Orderly none (readings 0 messages)
  pub keys : (c k : ℕ) → one (keys_on none (readings 0 messages) c k) ≡ sounding_with (is_key c k) xs

-- the key that a ticket sounds with is that of its note
abbrev pub Agree : List Note → List (Option Key) → Type 0
Agree ns xs = (u : ℕ) (x : Key) → voice xs u ≡ Some x → (n : Note) × (found u ns ≡ Some n) × (n.channel ≡ x.channel) × (n.key ≡ x.number)

-- In every state that calls lead to: the tickets are in order, they sound with the keys of their notes, and the bytes tell of what sounds.
pub record WriterSound (s : ByteWriter) : Type 0 where
  pub order : InOrder (notes s) (voices s)
  pub agree : Agree (notes s) (voices s)
  pub told : Told (written_bytes s) (voices s)

abbrev pub writer_end : List ℕ → End
writer_end bs = record { clean = Clean bs; complete = Complete bs }

abbrev pub writer_ends : ByteWriter → List End
writer_ends s = writer_end (written_bytes s) ∷ []

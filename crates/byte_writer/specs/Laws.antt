-- What holds of every byte writer.
use Rattle.std.specs.Prelude.{◌≡◌, ℕ, zero, suc, ◌+◌, ◌*◌, ◌<◌, ◌≤◌, true, List, [], ◌++◌, replicate, is_some, Some, None, Ok, Err}
use Rattle.sink.specs.Calls.{Call, Start, Release, Hush, Tell, Set, Clear, Answer, ticket, done, denied, startable}
use Rattle.sink.specs.declared.fault.Cause.{Cause}
use Rattle.sink.specs.declared.fault.Cause.TheVariants.{NoSpace}
use Rattle.roll.specs.Notes.{found}
use Rattle.roll.specs.Voices.{voice}
use Rattle.roll.specs.declared.note.Note.{Note}
use Rattle.byte_writer.specs.Messages.{bytes_of, readings, AllRanged}
use Rattle.byte_writer.specs.Receiver.{none, keys_on, received}
use Rattle.byte_writer.specs.Writer.{written_bytes, notes, voices, writer_check, stop_messages, holder, strike_messages, WriterDoes, WriterSound}
use Rattle.byte_writer.specs.declared.message.NoteMessage.{NoteMessage}
use Rattle.byte_writer.specs.declared.writer.ByteWriter.{ByteWriter}

-- ---- the receiver

-- a ticket sounds, and this is its note
abbrev pub Sounds : ByteWriter → ℕ → Note → Type 0
Sounds s u n = (found u (notes s) ≡ Some n) × (is_some (voice (voices s) u) ≡ true)

-- Its keys on are just those of the notes that sound, of which no two have the same key.
pub record Heard (s : ByteWriter) : Type 0 where
  pub sounding : (u : ℕ) (n : Note) → Sounds s u n → keys_on none (received (written_bytes s)) n.channel n.key ≡ true
  pub on : (c k : ℕ) → keys_on none (received (written_bytes s)) c k ≡ true → (u : ℕ) × (n : Note) × Sounds s u n × (n.channel ≡ c) × (n.key ≡ k)
  pub once : (u w : ℕ) (n m : Note) → Sounds s u n → Sounds s w m → n.channel ≡ m.channel → n.key ≡ m.key → u ≡ w

-- ---- reading back

-- messages in range are read as just these messages, in their order, each at the place of its last byte
abbrev pub MessagesReadBack : Type 0
MessagesReadBack = (ms : List NoteMessage) → AllRanged ms → received (bytes_of ms) ≡ readings 0 ms

-- what a call that is taken begins and stops
abbrev pub said : ByteWriter → Call → List NoteMessage
said s (Start place channel key velocity) = strike_messages (holder channel key s) channel key velocity
said s (Release place u velocity) = stop_messages (voice (voices s) u) velocity
said s (Hush place u) = stop_messages (voice (voices s) u) 64
said s (Tell place channel controller value) = []
said s (Set place depth item value) = []
said s (Clear place) = []

-- a call that is denied begins and stops nothing
abbrev pub says : ByteWriter → Call → Answer Cause → List NoteMessage
says s c (ticket u) = said s c
says s c done = said s c
says s c (denied f) = []

-- after a call the bytes are read as before it, and then as what the call began and stopped
abbrev pub CallsReadBack : Type 0
CallsReadBack =
    (s : ByteWriter) (c : Call) (a : Answer Cause) (t : ByteWriter) → WriterSound s → WriterDoes s c a t →
    received (written_bytes t) ≡ received (written_bytes s) ++ readings s.bytes.written (says s c a)

-- as it is made: nothing written, nothing owed, nothing sounds
pub record New (s : ByteWriter) : Type 0 where
  pub written : s.bytes.written ≡ 0
  pub notes : notes s ≡ []
  pub silent : voices s ≡ replicate 128 None

-- all that the calls since then began and stopped, in their order
pub data SinceNew : ByteWriter → List NoteMessage → Type 0 where
  made : {s : ByteWriter} → New s → SinceNew s []
  called : {s t : ByteWriter} {ms : List NoteMessage} (c : Call) (a : Answer Cause) → SinceNew s ms → WriterDoes s c a t → SinceNew t (ms ++ says s c a)

-- the bytes are those of all notes begun and stopped, and are read as just these
pub record ReadBack (s : ByteWriter) (ms : List NoteMessage) : Type 0 where
  pub ranged : AllRanged ms
  pub bytes : written_bytes s ≡ bytes_of ms
  pub read : received (written_bytes s) ≡ readings 0 ms

abbrev pub AllReadBack : Type 0
AllReadBack = (s : ByteWriter) (ms : List NoteMessage) → SinceNew s ms → ReadBack s ms

-- ---- space

-- takes so many starts in a row, whatever their numbers in range, and is then out of space
abbrev pub Takes : ℕ → ByteWriter → Type 0
Takes zero s = writer_check s ≡ Err NoSpace
Takes (suc n) s =
    (writer_check s ≡ Ok tt)
    × ((place channel key velocity : ℕ) (a : Answer Cause) (t : ByteWriter) → startable channel key velocity ≡ true → WriterDoes s (Start place channel key velocity) a t → ((u : ℕ) × (a ≡ ticket u)) × Takes n t)

-- six bytes for each start
abbrev pub SixBytesAStart : Type 0
SixBytesAStart = (n : ℕ) (s : ByteWriter) → New s → n < 128 → 6 * n ≤ s.bytes.room → s.bytes.room < 6 * n + 6 → Takes n s

-- no start in five bytes, one in six or eleven, two in twelve
abbrev pub FirstStarts : Type 0
FirstStarts = (s : ByteWriter) → New s → (s.bytes.room ≡ 5 → Takes 0 s) × (s.bytes.room ≡ 6 → Takes 1 s) × (s.bytes.room ≡ 11 → Takes 1 s) × (s.bytes.room ≡ 12 → Takes 2 s)

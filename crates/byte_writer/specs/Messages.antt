-- The messages that a writer writes, and how they are read.
use Rattle.std.specs.Prelude.{ℕ, ◌+◌, ◌<◌, ◌≤◌, List, [], ◌∷◌, ◌++◌}
use Rattle.reader.specs.Rules.{Reading, message}
use Rattle.reader.specs.declared.items.Message.{Message}
use Rattle.reader.specs.declared.items.Message.TheVariants as m
use Rattle.byte_writer.specs.declared.message.NoteMessage.{NoteMessage}
use Rattle.byte_writer.specs.declared.message.NoteMessage.TheVariants.{On, Off}

abbrev pub Ranged : NoteMessage → Type 0
Ranged (On c k v) = (c < 16) × (k < 128) × (1 ≤ v) × (v < 128)
Ranged (Off c k v) = (c < 16) × (k < 128) × (v < 128)

abbrev pub message_bytes : NoteMessage → List ℕ
message_bytes (On c k v) = (0x90 + c) ∷ k ∷ v ∷ []
message_bytes (Off c k v) = (0x80 + c) ∷ k ∷ v ∷ []

-- one after the other
abbrev pub bytes_of : List NoteMessage → List ℕ
bytes_of [] = []
bytes_of (x ∷ xs) = message_bytes x ++ bytes_of xs

abbrev pub as_read : NoteMessage → Message
as_read (On c k v) = m.NoteOn c k v
as_read (Off c k v) = m.NoteOff c k v

-- the messages as a reader finds them from place p on: each at the place of its last byte
abbrev pub readings : ℕ → List NoteMessage → List Reading
readings p [] = []
readings p (x ∷ xs) = message (p + 2) (as_read x) ∷ readings (p + 3) xs

abbrev pub AllRanged : List NoteMessage → Type 0
AllRanged [] = Unit {0}
AllRanged (x ∷ xs) = Ranged x × AllRanged xs

-- What is true once a stream is played and its run closed.
use Rattle.std.specs.Prelude.{◌≡◌, ℕ, ◌+◌, ◌<◌, ◌≤◌, List, [], length, Ok, Err, Result}
use Rattle.reader.specs.declared.states.State.TheVariants.{Idle as idle_state}
use Rattle.reader.specs.Rules.{reads}
use Rattle.reader.specs.Laws.{note_ons_of}
use Rattle.sink.specs.declared.sink.Sink
use Rattle.sink.specs.Ends.{Each, clean, complete}
use Rattle.sink.specs.Meaning.{Idle}
use Rattle.run.specs.declared.counts.Tally.{Tally}
use Rattle.run.specs.declared.counts.TooManyBytes.{TooManyBytes}

-- refused exactly if there are more than 4,000,000,000 bytes
abbrev pub Fed : List ℕ → Result (Unit {0}) TooManyBytes → Type 0
Fed bytes (Ok _) = length bytes ≤ 4000000000
Fed bytes (Err e) = 4000000000 < length bytes

-- all of the bytes, or none where they were refused
abbrev pub bytes_read : Result (Unit {0}) TooManyBytes → List ℕ → List ℕ
bytes_read (Ok _) bytes = bytes
bytes_read (Err e) bytes = []

-- the tally of these bytes: each Note-on in them was taken or denied, and every ticket returned
pub record Told {F : Type 0} (bytes : List ℕ) (tally : Tally F) : Type 0 where
  pub count : tally.count ≡ length bytes
  pub note_ons : tally.note_ons ≡ length (note_ons_of (reads idle_state 0 bytes))
  pub starts : tally.note_ons ≡ tally.taken + tally.denied
  pub even : tally.taken ≡ tally.returned

-- and the stack is left sound and idle; at our ends below, no note was begun twice or stopped before, and each is stopped
pub record Left {S F : Type 0} (gs : Sink.Ghosts S F) (bytes : List ℕ) (tally : Tally F) (stack : S) : Type 0 where
  pub told : Told bytes tally
  pub sound_left : gs.sound stack
  pub idle : Idle (gs.meaning stack)
  pub clean : Each clean (gs.ends stack)
  pub complete : Each complete (gs.ends stack)

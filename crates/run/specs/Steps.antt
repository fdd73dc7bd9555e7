-- What a run does at each reading: which calls the stack gets, in order, and what becomes of table and counts.
use Rattle.std.specs.Prelude.{◌≡◌, ℕ, ◌+◌, ◌*◌, ◌⊎◌, List, [], ◌∷◌, ◌++◌, Some, None, slice_set}
use Rattle.sink.specs.declared.fault.refusal.Refusal
use Rattle.sink.specs.declared.sink.Sink
use Rattle.sink.specs.Calls.{Call, Start, Release, Tell, Clear, Answer}
use Rattle.sink.specs.Meaning.{Readiness}
use Rattle.reader.specs.declared.items.Message.{Message}
use Rattle.reader.specs.declared.items.Message.TheVariants as m
use Rattle.reader.specs.Rules.{Reading, message, part}
use Rattle.reader.specs.Ranges.{Ranged}
use Rattle.run.specs.declared.counts.Counts.{Counts}
use Rattle.run.specs.declared.player.acts.ControlUse.{ControlUse}
use Rattle.run.specs.declared.player.acts.ControlUse.TheVariants as use_is
use Rattle.run.specs.declared.player.Player.{Player}
use Rattle.run.specs.Counting.{returned_by, started_by, strayed, passed_over, spot, at, entered, use_of}

-- the starts and releases of a run, each with its answer, and a start with the stack's readiness at that moment
pub data Event (F : Type 0) : Type 0 where
  start : Readiness → Answer F → Event F
  release : ℕ → Answer F → Event F

abbrev pub InRanges : Reading → Type 0
InRanges (message p x) = Ranged x
InRanges (part p xs) = Unit {0}

abbrev pub unchanged : {F : Type 0} → Counts F → Counts F
unchanged y = y

-- a player's type carries what its stack and the stack's fault mean, gs and gf, and the relations read it there
module _ {S F : Type 0} {gs : Sink.Ghosts S F} {gf : Refusal.Ghosts F} where
  -- the ticket t, at place i of the table, is released
  pub record Returned (place i t v : ℕ) (b : Player S F gs gf) (es : List (Event F)) (b' : Player S F gs gf) : Type 0 where
    pub held : at b.table i ≡ Some t
    pub answer : Answer F
    pub call : gs.does b.stack (Release place t v) answer b'.stack
    pub table : b'.table ≡ slice_set b.table i None
    pub counts : b'.counts ≡ returned_by answer b.counts
    pub events : es ≡ release t answer ∷ []

  -- only the counts change
  pub record Counted (f : Counts F → Counts F) (b : Player S F gs gf) (es : List (Event F)) (b' : Player S F gs gf) : Type 0 where
    pub stack : b'.stack ≡ b.stack
    pub table : b'.table ≡ b.table
    pub counts : b'.counts ≡ f b.counts
    pub events : es ≡ []

  -- a start, and its answer goes into the table or is counted as a denial
  pub record Started (place c k v : ℕ) (b : Player S F gs gf) (es : List (Event F)) (b' : Player S F gs gf) : Type 0 where
    pub answer : Answer F
    pub call : gs.does b.stack (Start place c k v) answer b'.stack
    pub table : b'.table ≡ entered (spot c k) answer b.table
    pub counts : b'.counts ≡ started_by place c k answer b.counts
    pub events : es ≡ start (gs.meaning b.stack).ready answer ∷ []

  -- another call; the table and the counts stay
  pub record Called (c : Call) (b : Player S F gs gf) (es : List (Event F)) (b' : Player S F gs gf) : Type 0 where
    pub answer : Answer F
    pub call : gs.does b.stack c answer b'.stack
    pub table : b'.table ≡ b.table
    pub counts : b'.counts ≡ b.counts
    pub events : es ≡ []

  -- the ticket at place i of the table, if one is there, is released with 64
  abbrev pub Emptied : (place i : ℕ) → Player S F gs gf → List (Event F) → Player S F gs gf → Type 0
  Emptied place i b es b' = ((at b.table i ≡ None) × Counted unchanged b es b') ⊎ ((t : ℕ) × Returned place i t 64 b es b')

  -- the tickets from one place of the table up to another, ascending, are released with 64
  pub data Swept (place from : ℕ) : ℕ → Player S F gs gf → List (Event F) → Player S F gs gf → Type 0 where
    swept_none : {b : Player S F gs gf} → Swept place from from b [] b
    swept_more : {i : ℕ} {b b₁ b' : Player S F gs gf} {es es₁ : List (Event F)} → Swept place from i b es b₁ → Emptied place i b₁ es₁ b' → Swept place from (i + 1) b (es ++ es₁) b'

  -- and then comes another call
  pub record SweptThen (place from to : ℕ) (c : Call) (b : Player S F gs gf) (es : List (Event F)) (b' : Player S F gs gf) : Type 0 where
    pub between : Player S F gs gf
    pub swept : Swept place from to b es between
    pub called : Called c between [] b'

  -- the key's place is emptied first, and then the note is started
  pub record OnNoteOn (place c k v : ℕ) (b : Player S F gs gf) (es : List (Event F)) (b' : Player S F gs gf) : Type 0 where
    pub between : Player S F gs gf
    pub before : List (Event F)
    pub after : List (Event F)
    pub emptied : Emptied place (spot c k) b before between
    pub started : Started place c k v between after b'
    pub events : es ≡ before ++ after

  -- the key's ticket is released, or the Note-off is counted as stray
  abbrev pub OnNoteOff : (place c k v : ℕ) → Player S F gs gf → List (Event F) → Player S F gs gf → Type 0
  OnNoteOff place c k v b es b' = ((at b.table (spot c k) ≡ None) × Counted strayed b es b') ⊎ ((t : ℕ) × Returned place (spot c k) t v b es b')

  abbrev pub OnControl : ControlUse → (place c n v : ℕ) → Player S F gs gf → List (Event F) → Player S F gs gf → Type 0
  OnControl use_is.Tell place c n v b es b' = Called (Tell place c n v) b es b'
  OnControl use_is.ReleaseAndTell place c n v b es b' = SweptThen place (128 * c) (128 * c + 128) (Tell place c n v) b es b'
  OnControl use_is.PassOver place c n v b es b' = Counted passed_over b es b'

  abbrev pub OnMessage : ℕ → Message → Player S F gs gf → List (Event F) → Player S F gs gf → Type 0
  OnMessage p (m.NoteOff c k v) b es b' = OnNoteOff p c k v b es b'
  OnMessage p (m.NoteOn c k v) b es b' = OnNoteOn p c k v b es b'
  OnMessage p (m.KeyPressure c k v) b es b' = Counted passed_over b es b'
  OnMessage p (m.Control c n v) b es b' = OnControl (use_of n) p c n v b es b'
  OnMessage p (m.Program c v) b es b' = Counted passed_over b es b'
  OnMessage p (m.ChannelPressure c v) b es b' = Counted passed_over b es b'
  OnMessage p (m.Bend c v) b es b' = Counted passed_over b es b'
  OnMessage p (m.QuarterFrame v) b es b' = Counted unchanged b es b'
  OnMessage p (m.SongPosition v) b es b' = Counted unchanged b es b'
  OnMessage p (m.SongSelect v) b es b' = Counted unchanged b es b'
  OnMessage p m.TuneRequest b es b' = Counted unchanged b es b'
  OnMessage p (m.RealTime x) b es b' = Counted unchanged b es b'
  OnMessage p m.Reset b es b' = SweptThen p 0 2048 (Clear p) b es b'
  OnMessage p m.Undefined b es b' = Counted unchanged b es b'
  OnMessage p m.Stray b es b' = Counted unchanged b es b'
  OnMessage p m.Cut b es b' = Counted unchanged b es b'
  OnMessage p m.ExclusiveBegun b es b' = Counted unchanged b es b'
  OnMessage p (m.ExclusiveEnded w) b es b' = Counted unchanged b es b'

  abbrev pub OnReading : Reading → Player S F gs gf → List (Event F) → Player S F gs gf → Type 0
  OnReading (message p x) b es b' = OnMessage p x b es b'
  OnReading (part p xs) b es b' = Counted unchanged b es b'

  -- one reading after the other
  pub data Played : List Reading → Player S F gs gf → List (Event F) → Player S F gs gf → Type 0 where
    played_none : {b : Player S F gs gf} → Played [] b [] b
    played_more : (r : Reading) {rs : List Reading} {b b₁ b' : Player S F gs gf} {es : List (Event F)} (es₁ : List (Event F)) → Played rs b es b₁ → InRanges r → OnReading r b₁ es₁ b' → Played (rs ++ (r ∷ [])) b (es ++ es₁) b'

-- What holds of all reading.
use Rattle.std.specs.Prelude.{◌≡◌, ℕ, ◌+◌, ◌<◌, ◌≤◌, false, List, [], ◌∷◌, ◌++◌, length}
use Rattle.reader.specs.declared.items.Message.{Message}
use Rattle.reader.specs.declared.items.Message.TheVariants as m
use Rattle.reader.specs.declared.states.State.{State}
use Rattle.reader.specs.declared.states.State.TheVariants as s
use Rattle.reader.specs.Rules.{Reading, message, part, joined, gives, reads, reaches}

-- ---- pieces

-- pieces read one after the other, the first byte at place p
abbrev pub reads_each : State → ℕ → List (List ℕ) → List Reading
reads_each st p [] = []
reads_each st p (bs ∷ pieces) = reads st p bs ++ reads_each (reaches st bs) (p + length bs) pieces

abbrev pub reaches_each : State → List (List ℕ) → State
reaches_each st [] = st
reaches_each st (bs ∷ pieces) = reaches_each (reaches st bs) pieces

abbrev pub concat : List (List ℕ) → List ℕ
concat [] = []
concat (bs ∷ pieces) = bs ++ concat pieces

-- two pieces give what they give joined, once the parts of an exclusive are joined at the cut
abbrev pub TwoPiecesJoin : Type 0
TwoPiecesJoin =
    (st : State) (p : ℕ) (xs ys : List ℕ) →
    (joined (reads st p xs ++ reads (reaches st xs) (p + length xs) ys) ≡ reads st p (xs ++ ys))
    × (reaches (reaches st xs) ys ≡ reaches st (xs ++ ys))

-- and so do any number of pieces
abbrev pub PiecesJoin : Type 0
PiecesJoin =
    (st : State) (p : ℕ) (pieces : List (List ℕ)) →
    (joined (reads_each st p pieces) ≡ reads st p (concat pieces)) × (reaches_each st pieces ≡ reaches st (concat pieces))

-- ---- Note-ons

abbrev pub if_note_on : ℕ → Message → List Reading → List Reading
if_note_on p (m.NoteOn c k v) rs = message p (m.NoteOn c k v) ∷ rs
if_note_on p (m.NoteOff c k v) rs = rs
if_note_on p (m.KeyPressure c k v) rs = rs
if_note_on p (m.Control c n v) rs = rs
if_note_on p (m.Program c v) rs = rs
if_note_on p (m.ChannelPressure c v) rs = rs
if_note_on p (m.Bend c v) rs = rs
if_note_on p (m.QuarterFrame v) rs = rs
if_note_on p (m.SongPosition v) rs = rs
if_note_on p (m.SongSelect v) rs = rs
if_note_on p m.TuneRequest rs = rs
if_note_on p (m.RealTime b) rs = rs
if_note_on p m.Reset rs = rs
if_note_on p m.Undefined rs = rs
if_note_on p m.Stray rs = rs
if_note_on p m.Cut rs = rs
if_note_on p m.ExclusiveBegun rs = rs
if_note_on p (m.ExclusiveEnded w) rs = rs

-- the Note-ons among readings, in their order and with their places
abbrev pub note_ons_of : List Reading → List Reading
note_ons_of [] = []
note_ons_of (message p x ∷ rs) = if_note_on p x (note_ons_of rs)
note_ons_of (part p xs ∷ rs) = note_ons_of rs

-- cutting a stream into pieces neither adds nor loses a Note-on, and moves none
abbrev pub NoteOnsJoin : Type 0
NoteOnsJoin = (st : State) (p : ℕ) (pieces : List (List ℕ)) → note_ons_of (reads_each st p pieces) ≡ note_ons_of (reads st p (concat pieces))

-- ---- real-time bytes

-- the same readings, one place later
abbrev pub later : List Reading → List Reading
later [] = []
later (message p x ∷ rs) = message (p + 1) x ∷ later rs
later (part p xs ∷ rs) = part (p + 1) xs ∷ later rs

-- A byte F8h to FEh between any others gives its one message there. Before it all is read as without it, and after it too,
-- one place later; only an exclusive part that it stands in comes in two.
abbrev pub RealTimeApart : Type 0
RealTimeApart =
    (st : State) (p : ℕ) (xs ys : List ℕ) (b : ℕ) → 0xF8 ≤ b → b < 0xFF →
    let before = reads st p xs in
    let after = reads (reaches st xs) (p + length xs) ys in
    (x : Message) × (gives st b ≡ x ∷ [])
    × (reads st p (xs ++ (b ∷ ys)) ≡ before ++ (message (p + length xs) x ∷ later after))
    × (reads st p (xs ++ ys) ≡ joined (before ++ after))
    × (reaches st (xs ++ (b ∷ ys)) ≡ reaches st (xs ++ ys))

-- ---- places

abbrev pub place_of : Reading → ℕ
place_of (message p x) = p
place_of (part p xs) = p

-- places that never fall, from the place lo on and below hi
abbrev pub Rising : ℕ → ℕ → List Reading → Type 0
Rising lo hi [] = Unit {0}
Rising lo hi (r ∷ rs) = (lo ≤ place_of r) × (place_of r < hi) × Rising (place_of r) hi rs

abbrev pub PlacesRise : Type 0
PlacesRise = (st : State) (p : ℕ) (bs : List ℕ) → Rising p (p + length bs) (reads st p bs)

-- ---- worked examples

-- running status: one status byte for two notes
abbrev pub RunningStatus : Type 0
RunningStatus = reads s.Idle 0 (0x90 ∷ 0x3C ∷ 0x64 ∷ 0x3E ∷ 0x50 ∷ []) ≡ message 2 (m.NoteOn 0 60 100) ∷ message 4 (m.NoteOn 0 62 80) ∷ []

-- a timing clock in the middle of a message
abbrev pub ClockInside : Type 0
ClockInside = reads s.Idle 0 (0x90 ∷ 0x3C ∷ 0xF8 ∷ 0x64 ∷ []) ≡ message 2 (m.RealTime 0xF8) ∷ message 3 (m.NoteOn 0 60 100) ∷ []

-- an exclusive broken off by a Note-on
abbrev pub ExclusiveBroken : Type 0
ExclusiveBroken =
    reads s.Idle 0 (0xF0 ∷ 0x7D ∷ 0x90 ∷ 0x3C ∷ 0x64 ∷ [])
    ≡ message 0 m.ExclusiveBegun ∷ part 1 (0x7D ∷ []) ∷ message 2 (m.ExclusiveEnded false) ∷ message 4 (m.NoteOn 0 60 100) ∷ []

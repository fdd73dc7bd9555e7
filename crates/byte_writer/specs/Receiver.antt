-- The receiver of the bytes: it reads them from the first on, and has a set of keys, its keys on.
use Rattle.std.specs.Prelude.{◌≡◌, ℕ, Bool, true, false, not, ◌&&◌, ◌||◌, List, [], ◌∷◌, take, ◌==◌}
use Rattle.reader.specs.Rules.{Reading, message, part, reads}
use Rattle.reader.specs.declared.items.Message.{Message}
use Rattle.reader.specs.declared.items.Message.TheVariants as m
use Rattle.reader.specs.declared.states.State.TheVariants as s

-- which keys are on, by channel and key
abbrev pub Keys : Type 0
Keys = ℕ → ℕ → Bool

abbrev pub none : Keys
none c k = false

abbrev pub with_key : (channel key : ℕ) → Keys → Keys
with_key channel key on c k = (channel == c && key == k) || on c k

abbrev pub without_key : (channel key : ℕ) → Keys → Keys
without_key channel key on c k = on c k && not (channel == c && key == k)

-- a Note-on adds its key, and a Note-off removes it
abbrev pub hears : Keys → Message → Keys
hears on (m.NoteOn c k v) = with_key c k on
hears on (m.NoteOff c k v) = without_key c k on
hears on (m.KeyPressure c k v) = on
hears on (m.Control c n v) = on
hears on (m.Program c v) = on
hears on (m.ChannelPressure c v) = on
hears on (m.Bend c v) = on
hears on (m.QuarterFrame v) = on
hears on (m.SongPosition v) = on
hears on (m.SongSelect v) = on
hears on m.TuneRequest = on
hears on (m.RealTime b) = on
hears on m.Reset = on
hears on m.Undefined = on
hears on m.Stray = on
hears on m.Cut = on
hears on m.ExclusiveBegun = on
hears on (m.ExclusiveEnded w) = on

abbrev pub keys_on : Keys → List Reading → Keys
keys_on on [] = on
keys_on on (message p x ∷ rs) = keys_on (hears on x) rs
keys_on on (part p xs ∷ rs) = keys_on on rs

-- a Note-on of a key that is off, or a Note-off of a key that is on; nothing else is expected
abbrev pub Expected : Keys → Message → Type 0
Expected on (m.NoteOn c k v) = on c k ≡ false
Expected on (m.NoteOff c k v) = on c k ≡ true
Expected on (m.KeyPressure c k v) = ⊥
Expected on (m.Control c n v) = ⊥
Expected on (m.Program c v) = ⊥
Expected on (m.ChannelPressure c v) = ⊥
Expected on (m.Bend c v) = ⊥
Expected on (m.QuarterFrame v) = ⊥
Expected on (m.SongPosition v) = ⊥
Expected on (m.SongSelect v) = ⊥
Expected on m.TuneRequest = ⊥
Expected on (m.RealTime b) = ⊥
Expected on m.Reset = ⊥
Expected on m.Undefined = ⊥
Expected on m.Stray = ⊥
Expected on m.Cut = ⊥
Expected on m.ExclusiveBegun = ⊥
Expected on (m.ExclusiveEnded w) = ⊥

-- each reading is expected where it comes
abbrev pub Orderly : Keys → List Reading → Type 0
Orderly on [] = Unit {0}
Orderly on (message p x ∷ rs) = Expected on x × Orderly (hears on x) rs
Orderly on (part p xs ∷ rs) = ⊥

-- what the receiver reads
abbrev pub received : List ℕ → List Reading
received bs = reads s.Idle 0 bs

-- At every moment: no Note-on came for a key that was on, no Note-off for one that was off, and nothing else came.
abbrev pub Clean : List ℕ → Type 0
Clean bs = (n : ℕ) → Orderly none (received (take n bs))

-- No key is on.
abbrev pub Complete : List ℕ → Type 0
Complete bs = (c k : ℕ) → keys_on none (received bs) c k ≡ false

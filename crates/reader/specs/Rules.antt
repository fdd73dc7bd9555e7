-- The rules of reading: what each byte gives in the state that it finds, and the state that it leaves.
use Rattle.std.specs.Prelude.{ℕ, ◌+◌, ◌*◌, ◌%◌, Bool, true, false, cond, ◌||◌, List, [], ◌∷◌, ◌++◌, map, pos, ◌-ℤ◌, ◌==◌, nat_lt}
use Rattle.reader.specs.declared.items.Message.{Message}
use Rattle.reader.specs.declared.items.Message.TheVariants as m
use Rattle.reader.specs.declared.states.Class.{Class}
use Rattle.reader.specs.declared.states.Class.TheVariants as k
use Rattle.reader.specs.declared.states.State.{State}
use Rattle.reader.specs.declared.states.State.TheVariants as s

abbrev pub class : ℕ → Class
class b =
    cond (nat_lt b 0x80) k.Data (
    cond (nat_lt b 0xF7) k.Status (
    cond (b == 0xF7) k.ExclusiveEnd (
    cond (b == 0xF9 || b == 0xFD) k.Undefined (
    cond (b == 0xFF) k.Reset k.RealTime))))

-- ---- what a byte gives

-- velocity 0 makes a Note-on a Note-off, with velocity 64
abbrev pub note_on_of : ℕ → ℕ → ℕ → Message
note_on_of c k v = cond (v == 0) (m.NoteOff c k 64) (m.NoteOn c k v)

-- the message of a status with two data bytes
abbrev pub paired : ℕ → ℕ → ℕ → Message
paired s d b =
    cond (nat_lt s 0x90) (m.NoteOff (s % 16) d b) (
    cond (nat_lt s 0xA0) (note_on_of (s % 16) d b) (
    cond (nat_lt s 0xB0) (m.KeyPressure (s % 16) d b) (
    cond (nat_lt s 0xC0) (m.Control (s % 16) d b) (
    cond (nat_lt s 0xF0) (m.Bend (s % 16) (pos (d + 128 * b) -ℤ pos 8192)) (
    m.SongPosition (d + 128 * b))))))

-- a data byte outside an exclusive
abbrev pub filled : State → ℕ → List Message
filled s.Idle b = m.Stray ∷ []
filled (s.Channel s) b = cond (nat_lt s 0xC0) [] (cond (nat_lt s 0xD0) (m.Program (s % 16) b ∷ []) (cond (nat_lt s 0xE0) (m.ChannelPressure (s % 16) b ∷ []) []))
filled (s.Half s d) b = paired s d b ∷ []
filled (s.Common s) b = cond (s == 0xF1) (m.QuarterFrame b ∷ []) (cond (s == 0xF3) (m.SongSelect b ∷ []) [])
filled s.Exclusive b = []

-- a byte 80h to F6h in Idle
abbrev pub opened : ℕ → List Message
opened b =
    cond (nat_lt b 0xF0) [] (
    cond (b == 0xF0) (m.ExclusiveBegun ∷ []) (
    cond (nat_lt b 0xF4) [] (
    cond (nat_lt b 0xF6) (m.Undefined ∷ []) (m.TuneRequest ∷ []))))

-- such a byte first breaks off a message or an exclusive, and is then read in Idle
abbrev pub broken : State → List Message → List Message
broken s.Idle then = then
broken (s.Channel s) then = then
broken (s.Half s d) then = m.Cut ∷ then
broken (s.Common s) then = then
broken s.Exclusive then = m.ExclusiveEnded false ∷ then

-- F7h ends an exclusive, and is stray anywhere else
abbrev pub ended : State → List Message
ended s.Idle = m.Stray ∷ []
ended (s.Channel s) = m.Stray ∷ []
ended (s.Half s d) = m.Cut ∷ m.Stray ∷ []
ended (s.Common s) = m.Stray ∷ []
ended s.Exclusive = m.ExclusiveEnded true ∷ []

abbrev pub gives_by : Class → State → ℕ → List Message
gives_by k.Data st b = filled st b
gives_by k.Status st b = broken st (opened b)
gives_by k.ExclusiveEnd st b = ended st
gives_by k.RealTime st b = m.RealTime b ∷ []
gives_by k.Undefined st b = m.Undefined ∷ []
gives_by k.Reset st b = m.Reset ∷ []

abbrev pub gives : State → ℕ → List Message
gives st b = gives_by (class b) st b

-- ---- the state that a byte leaves

-- a data byte
abbrev pub fills : State → ℕ → State
fills s.Idle b = s.Idle
fills (s.Channel x) b = cond (nat_lt x 0xC0) (s.Half x b) (cond (nat_lt x 0xE0) (s.Channel x) (s.Half x b))
fills (s.Half x d) b = cond (nat_lt x 0xF0) (s.Channel x) s.Idle
fills (s.Common x) b = cond (x == 0xF2) (s.Half x b) s.Idle
fills s.Exclusive b = s.Exclusive

-- a byte 80h to F6h
abbrev pub opens : ℕ → State
opens b = cond (nat_lt b 0xF0) (s.Channel b) (cond (b == 0xF0) s.Exclusive (cond (nat_lt b 0xF4) (s.Common b) s.Idle))

abbrev pub leads_by : Class → State → ℕ → State
leads_by k.Data st b = fills st b
leads_by k.Status st b = opens b
leads_by k.ExclusiveEnd st b = s.Idle
leads_by k.RealTime st b = st
leads_by k.Undefined st b = st
leads_by k.Reset st b = s.Idle

abbrev pub leads : State → ℕ → State
leads st b = leads_by (class b) st b

-- ---- over a piece

-- what is read, with its place: a message, or a part of an exclusive by its bytes
pub data Reading : Type 0 where
  message : ℕ → Message → Reading
  part : ℕ → List ℕ → Reading

-- a data byte of an exclusive
abbrev pub belongs : State → ℕ → Bool
belongs s.Idle b = false
belongs (s.Channel x) b = false
belongs (s.Half x d) b = false
belongs (s.Common x) b = false
belongs s.Exclusive b = nat_lt b 0x80

-- one byte at place p
abbrev pub reading : State → ℕ → ℕ → List Reading
reading st p b = cond (belongs st b) (part p (b ∷ []) ∷ []) (map (message p) (gives st b))

-- byte by byte from place p on
abbrev pub bytewise : State → ℕ → List ℕ → List Reading
bytewise st p [] = []
bytewise st p (b ∷ bs) = reading st p b ++ bytewise (leads st b) (p + 1) bs

-- neighbouring parts are one part, at the place of the first
abbrev pub put : Reading → List Reading → List Reading
put (message p x) rs = message p x ∷ rs
put (part p xs) [] = part p xs ∷ []
put (part p xs) (message q y ∷ rs) = part p xs ∷ message q y ∷ rs
put (part p xs) (part q ys ∷ rs) = part p (xs ++ ys) ∷ rs

abbrev pub joined : List Reading → List Reading
joined [] = []
joined (r ∷ rs) = put r (joined rs)

-- what a piece gives whose first byte has place p, read from state st
abbrev pub reads : State → ℕ → List ℕ → List Reading
reads st p bs = joined (bytewise st p bs)

-- the state after it
abbrev pub reaches : State → List ℕ → State
reaches st [] = st
reaches st (b ∷ bs) = reaches (leads st b) bs

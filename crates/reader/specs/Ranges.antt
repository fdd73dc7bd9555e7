-- The ranges of the numbers in states and messages.
use Rattle.std.specs.Prelude.{◌<◌, ◌≤◌, Bool, true, false, ◌&&◌, pos, negsuc, ◌≤ℤ◌, Some, None, Option, nat_le, nat_lt}
use Rattle.std.proofs.Props.{props}
use Rattle.reader.specs.declared.items.Item.{Item}
use Rattle.reader.specs.declared.items.Item.TheVariants as i
use Rattle.reader.specs.declared.items.Message.{Message}
use Rattle.reader.specs.declared.items.Message.TheVariants as m
use Rattle.reader.specs.declared.states.State.{State}
use Rattle.reader.specs.declared.states.State.TheVariants as s

-- a state that bytes can lead to: its status is one that it stands for, and its data byte is one
abbrev pub attained : State → Bool
attained s.Idle = true
attained (s.Channel x) = nat_le 0x80 x && nat_lt x 0xF0
attained (s.Half x d) = nat_le 0x80 x && (nat_lt x 0xF3 && nat_lt d 0x80)
attained (s.Common x) = nat_le 0xF1 x && nat_lt x 0xF4
attained s.Exclusive = true

-- the numbers of a message lie in the ranges of their kinds
abbrev pub Ranged : Message → Type 0
Ranged (m.NoteOff c k v) = (c < 16) × (k < 128) × (v < 128)
Ranged (m.NoteOn c k v) = (c < 16) × (k < 128) × (0 < v) × (v < 128)
Ranged (m.KeyPressure c k v) = (c < 16) × (k < 128) × (v < 128)
Ranged (m.Control c n v) = (c < 16) × (n < 128) × (v < 128)
Ranged (m.Program c v) = (c < 16) × (v < 128)
Ranged (m.ChannelPressure c v) = (c < 16) × (v < 128)
Ranged (m.Bend c v) = (c < 16) × (negsuc 8191 ≤ℤ v) × (v ≤ℤ pos 8191)
Ranged (m.QuarterFrame v) = v < 128
Ranged (m.SongPosition v) = v < 16384
Ranged (m.SongSelect v) = v < 128
Ranged m.TuneRequest = Unit {0}
Ranged (m.RealTime b) = (0xF8 ≤ b) × (b < 0xFF)
Ranged m.Reset = Unit {0}
Ranged m.Undefined = Unit {0}
Ranged m.Stray = Unit {0}
Ranged m.Cut = Unit {0}
Ranged m.ExclusiveBegun = Unit {0}
Ranged (m.ExclusiveEnded w) = Unit {0}

-- they do so in one way only, as a ghost field wants
pub Ranged-prop : (x : Message) → IsProp (Ranged x)
Ranged-prop (m.NoteOff c k v) = Prim.hlevel props
Ranged-prop (m.NoteOn c k v) = Prim.hlevel props
Ranged-prop (m.KeyPressure c k v) = Prim.hlevel props
Ranged-prop (m.Control c n v) = Prim.hlevel props
Ranged-prop (m.Program c v) = Prim.hlevel props
Ranged-prop (m.ChannelPressure c v) = Prim.hlevel props
Ranged-prop (m.Bend c v) = Prim.hlevel props
Ranged-prop (m.QuarterFrame v) = Prim.hlevel props
Ranged-prop (m.SongPosition v) = Prim.hlevel props
Ranged-prop (m.SongSelect v) = Prim.hlevel props
Ranged-prop m.TuneRequest = Prim.hlevel props
Ranged-prop (m.RealTime b) = Prim.hlevel props
Ranged-prop m.Reset = Prim.hlevel props
Ranged-prop m.Undefined = Prim.hlevel props
Ranged-prop m.Stray = Prim.hlevel props
Ranged-prop m.Cut = Prim.hlevel props
Ranged-prop m.ExclusiveBegun = Prim.hlevel props
Ranged-prop (m.ExclusiveEnded w) = Prim.hlevel props

abbrev pub InRange : Option Item → Type 0
InRange None = Unit {0}
InRange (Some (i.Message p x)) = Ranged x
InRange (Some (i.Part p r)) = Unit {0}

-- a message that has no number, as every second item of one byte
abbrev pub bare : Message → Bool
bare (m.NoteOff c k v) = false
bare (m.NoteOn c k v) = false
bare (m.KeyPressure c k v) = false
bare (m.Control c n v) = false
bare (m.Program c v) = false
bare (m.ChannelPressure c v) = false
bare (m.Bend c v) = false
bare (m.QuarterFrame v) = false
bare (m.SongPosition v) = false
bare (m.SongSelect v) = false
bare m.TuneRequest = true
bare (m.RealTime b) = false
bare m.Reset = true
bare m.Undefined = true
bare m.Stray = true
bare m.Cut = true
bare m.ExclusiveBegun = true
bare (m.ExclusiveEnded w) = true

abbrev pub numberless : Option Item → Bool
numberless None = true
numberless (Some (i.Message p x)) = bare x
numberless (Some (i.Part p r)) = true

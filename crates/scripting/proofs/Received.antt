-- What is said of a receiver says no more than that it is so.
use mathlib.Core.Bool.{Bool-set}
use mathlib.Core.HLevel.{⊥_prop, Unit-prop, ×_prop, Π_prop}
use Rattle.std.proofs.Common.{ℕ, List, [], ◌∷◌, take}
use Rattle.reader.specs.Rules.{Reading, message, part}
use Rattle.reader.specs.declared.items.Message.{Message}
use Rattle.reader.specs.declared.items.Message.TheVariants as m
use Rattle.byte_writer.specs.Receiver.{Keys, none, hears, Expected, Orderly, received, Clean, Complete}

expected_prop : (on : Keys) (x : Message) → Prim.IsProp (Expected on x)
expected_prop on (m.NoteOn c k v) = Bool-set _ _
expected_prop on (m.NoteOff c k v) = Bool-set _ _
expected_prop on (m.KeyPressure c k v) = ⊥_prop
expected_prop on (m.Control c n v) = ⊥_prop
expected_prop on (m.Program c v) = ⊥_prop
expected_prop on (m.ChannelPressure c v) = ⊥_prop
expected_prop on (m.Bend c v) = ⊥_prop
expected_prop on (m.QuarterFrame v) = ⊥_prop
expected_prop on (m.SongPosition v) = ⊥_prop
expected_prop on (m.SongSelect v) = ⊥_prop
expected_prop on m.TuneRequest = ⊥_prop
expected_prop on (m.RealTime b) = ⊥_prop
expected_prop on m.Reset = ⊥_prop
expected_prop on m.Undefined = ⊥_prop
expected_prop on m.Stray = ⊥_prop
expected_prop on m.Cut = ⊥_prop
expected_prop on m.ExclusiveBegun = ⊥_prop
expected_prop on (m.ExclusiveEnded w) = ⊥_prop

orderly_prop : (on : Keys) (rs : List Reading) → Prim.IsProp (Orderly on rs)
orderly_prop on [] = Unit-prop
orderly_prop on (message p x ∷ rs) = ×_prop (expected_prop on x) (orderly_prop (hears on x) rs)
orderly_prop on (part p xs ∷ rs) = ⊥_prop

pub clean_prop : (bs : List ℕ) → Prim.IsProp (Clean bs)
clean_prop bs = Π_prop (λ n. orderly_prop none (received (take n bs)))

pub complete_prop : (bs : List ℕ) → Prim.IsProp (Complete bs)
complete_prop bs = Π_prop (λ c. Π_prop (λ k. Bool-set _ _))

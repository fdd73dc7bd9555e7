-- The number of each refusal, and its depth.
use Rattle.std.specs.Prelude.{ℕ, ◌+◌, cond, nat_le}
use Rattle.sink.specs.declared.fault.Cause.{Cause}
use Rattle.sink.specs.declared.fault.Cause.TheVariants.{OutOfRange, AllOut, NoSpace, NotOwed, TellOutOfRange, NoLayer, NoSuchItem, ValueOutOfRange}
use Rattle.sink.specs.declared.fault.LayerFault.{LayerFault}
use Rattle.sink.specs.declared.fault.LayerFault.TheVariants.{Own, Below}

abbrev pub number_of : Cause → ℕ
number_of OutOfRange = 1
number_of AllOut = 2
number_of NoSpace = 3
number_of NotOwed = 4
number_of TellOutOfRange = 5
number_of NoLayer = 6
number_of NoSuchItem = 7
number_of ValueOutOfRange = 8

-- a denial as its caller sees it: its number, and how many layers passed it up
pub record Denial : Type 0 where
  pub number : ℕ
  pub depth : ℕ

-- denied by the sink called
abbrev pub here : Cause → Denial
here c = record { number = number_of c; depth = 0 }

-- passed up by one layer more; the depth stops at 255
abbrev pub deeper : Denial → Denial
deeper d = record { number = d.number; depth = cond (nat_le 255 d.depth) 255 (d.depth + 1) }

abbrev pub layer_denial : {F : Type 0} → (F → Denial) → LayerFault F → Denial
layer_denial of_below (Own c) = here c
layer_denial of_below (Below f) = deeper (of_below f)

-- What is printed of a refusal.
use Rattle.std.specs.Prelude.{ℕ, List, Some, codes, Option}
use Rattle.std.specs.Fmt.{option_append}
use Rattle.sink.specs.declared.fault.Cause.{Cause}
use Rattle.sink.specs.declared.fault.Cause.TheVariants.{OutOfRange, AllOut, NoSpace, NotOwed, TellOutOfRange, NoLayer, NoSuchItem, ValueOutOfRange}
use Rattle.sink.specs.declared.fault.LayerFault.{LayerFault}
use Rattle.sink.specs.declared.fault.LayerFault.TheVariants.{Own, Below}

abbrev pub wording : Cause → List ℕ
wording OutOfRange = codes "channel, key or velocity out of range"
wording AllOut = codes "all 128 tickets are out"
wording NoSpace = codes "lines or bytes used up or reserved"
wording NotOwed = codes "ticket not owed"
wording TellOutOfRange = codes "controller message out of range"
wording NoLayer = codes "no layer at this depth"
wording NoSuchItem = codes "no such item"
wording ValueOutOfRange = codes "value outside the item's range"

-- one `below:` for each layer that passed the fault up
abbrev pub from_below : {F : Type 0} → (F → Option (List ℕ)) → LayerFault F → Option (List ℕ)
from_below shown (Own c) = Some (wording c)
from_below shown (Below f) = option_append (Some (codes "below: ")) (shown f)

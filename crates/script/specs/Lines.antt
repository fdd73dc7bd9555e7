-- What a line that was read says, and its parts on the way.
use Rattle.std.specs.Prelude.{◌≡◌, Some, None, Ok, Err, vec_items, Option, Result}
use Rattle.script.specs.declared.Act.{Act}
use Rattle.script.specs.declared.Act.TheVariants as a
use Rattle.script.specs.declared.Line.{Line}
use Rattle.script.specs.declared.Line.TheVariants as l
use Rattle.script.specs.declared.unread.Unread.{Unread}
use Rattle.script.specs.declared.unread.Unread.TheVariants as u
use Rattle.script.specs.Meanings.{Meant, nothing, feeds, sets, tallies, closes, unreadable}

abbrev pub act_says : Act → Meant
act_says (a.Feed bytes) = feeds (vec_items bytes)
act_says (a.Set depth item value) = sets depth item value
act_says a.Tally = tallies
act_says a.Close = closes

abbrev pub says : Line → Meant
says l.Empty = nothing
says (l.Act act) = act_says act
says l.Unreadable = unreadable

-- an act, or none that can be read
abbrev pub means : Option Act → Meant
means None = unreadable
means (Some act) = act_says act

-- an act that says what is meant, or that nothing that can be read is meant; without memory it tells nothing
abbrev pub Tells : Result Act Unread → Meant → Type 0
Tells (Ok act) m = act_says act ≡ m
Tells (Err u.Unreadable) m = unreadable ≡ m
Tells (Err (u.Memory e)) m = Unit {0}

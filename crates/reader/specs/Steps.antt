-- What the reader's own helpers hand to one another, as lists.
use Rattle.std.specs.Prelude.{ℕ, ◌<◌, List, [], ◌∷◌, ◌++◌, Some, None, Option, slice_index}
use Rattle.reader.specs.declared.items.Message.{Message}
use Rattle.reader.specs.declared.steps.Given.{Given}
use Rattle.reader.specs.declared.steps.Taken.{Taken}
use Rattle.reader.specs.Rules.{Reading}
use Rattle.reader.specs.Ahead.{listed}

abbrev pub optional : Option Message → List Message
optional None = []
optional (Some x) = x ∷ []

abbrev pub given : Given → List Message
given g = optional g.first ++ optional g.second

abbrev pub handed : Taken → List Reading
handed t = listed t.first ++ listed t.second

-- each of the first n bytes is a data byte
abbrev pub AllData : List ℕ → ℕ → Type 0
AllData bs n = (j : ℕ) → j < n → slice_index bs j < 0x80

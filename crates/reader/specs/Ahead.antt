-- What a piece still holds for a reader.
use Rattle.std.specs.Prelude.{◌≡◌, ℕ, ◌+◌, ◌*◌, ◌^◌, ◌<◌, ◌≤◌, List, [], ◌∷◌, ◌++◌, length, Some, None, Ok, Err, Option, Result}
use Rattle.reader.specs.declared.items.Item.{Item}
use Rattle.reader.specs.declared.items.Item.TheVariants as i
use Rattle.reader.specs.declared.pieces.Piece.{Piece}
use Rattle.reader.specs.declared.states.State.{State}
use Rattle.reader.specs.Rules.{Reading, message, part, reads, reaches}

abbrev pub read_as : Item → Reading
read_as (i.Message p x) = message p x
read_as (i.Part p r) = part p r.now

abbrev pub listed : Option Item → List Reading
listed None = []
listed (Some x) = read_as x ∷ []

-- what is still to come of a piece, for a reader in state st
abbrev pub ahead : State → Piece → List Reading
ahead st c = listed c.pending ++ reads st c.place c.rest.now

-- the state once all of it is read
abbrev pub ending : State → Piece → State
ending st c = reaches st c.rest.now

-- no more items than this are to come
abbrev pub at_most : Piece → ℕ
at_most c = length (listed c.pending) + 2 * length c.rest.now

-- the bytes that are left count from place p on; refused, with nothing changed, where the place behind the last is no 64-bit number
abbrev pub Numbered : {E : Type 0} → Piece → ℕ → Result (Unit {0}) E → Piece → Type 0
Numbered c p (Ok _) c' = (p + length c.rest.now < 2 ^ 64) × (c'.place ≡ p) × (c'.rest.now ≡ c.rest.now) × (c'.pending ≡ c.pending)
Numbered c p (Err _) c' = (2 ^ 64 ≤ p + length c.rest.now) × (c' ≡ c)

-- the next item is the first of what is ahead; it is missing just where the piece is read out, which leaves the last state
abbrev pub Next : State → Piece → Option Item → State → Piece → Type 0
Next st c None st' c' = (ahead st c ≡ []) × (st' ≡ ending st c) × (ahead st' c' ≡ []) × (ending st' c' ≡ st')
Next st c (Some x) st' c' = (ahead st c ≡ read_as x ∷ ahead st' c') × (ending st c ≡ ending st' c') × (at_most c' < at_most c)

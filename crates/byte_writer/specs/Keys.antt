-- Keys, and which ticket sounds with one.
use Rattle.std.specs.Prelude.{ℕ, ◌+◌, Bool, cond, ◌&&◌, List, [], ◌∷◌, Some, None, Option, ◌==◌, slice_set}
use Rattle.roll.specs.Voices.{passes}
use Rattle.byte_writer.specs.declared.key.Key.{Key}

abbrev pub is_key : (channel number : ℕ) → Key → Bool
is_key channel number k = k.channel == channel && k.number == number

abbrev pub one_on : Option ℕ → Option ℕ
one_on None = None
one_on (Some u) = Some (u + 1)

-- the least ticket that sounds with a voice that passes a test
unfoldable pub ticket_with : {V : Type 0} → (V → Bool) → List (Option V) → Option ℕ
ticket_with p [] = None
ticket_with p (x ∷ xs) = cond (passes p x) (Some 0) (one_on (ticket_with p xs))

-- the voices once a ticket is silent
abbrev pub silenced : {V : Type 0} → Option ℕ → List (Option V) → List (Option V)
silenced None xs = xs
silenced (Some u) xs = slice_set xs u None

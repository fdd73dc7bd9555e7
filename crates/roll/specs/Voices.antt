-- Which tickets sound: a list with a place for each ticket, which has the voice of a ticket that sounds.
use Rattle.std.specs.Prelude.{ℕ, ◌+◌, Bool, true, false, cond, List, [], ◌∷◌, Some, None, Option, slice_index_or}

abbrev pub one : Bool → ℕ
one b = cond b 1 0

-- the voice of a ticket, if it sounds
abbrev pub voice : {V : Type 0} → List (Option V) → ℕ → Option V
voice xs u = slice_index_or xs u None

-- it sounds, and its voice passes a test
abbrev pub passes : {V : Type 0} → (V → Bool) → Option V → Bool
passes p None = false
passes p (Some v) = p v

-- how many tickets sound whose voices pass a test
unfoldable pub sounding_with : {V : Type 0} → (V → Bool) → List (Option V) → ℕ
sounding_with p [] = 0
sounding_with p (x ∷ xs) = one (passes p x) + sounding_with p xs

-- how many tickets sound
abbrev pub tally : {V : Type 0} → List (Option V) → ℕ
tally xs = sounding_with (λ v. true) xs

-- The shift and what it makes of a key.
use Rattle.std.specs.Prelude.{ℕ, ◌≤◌, Bool, ◌&&◌, ℤ, pos, negsuc, ◌+ℤ◌, ◌-ℤ◌, ◌<ℤ◌, int_le}

-- -48 to 48
abbrev pub in_range : ℤ → Bool
in_range v = int_le (negsuc 47) v && int_le v (pos 48)

-- an octave down from above the last key, an octave up from below the first, until it is a key
pub data Folds : ℤ → ℕ → Type 0 where
  a_key : {k : ℕ} → k ≤ 127 → Folds (pos k) k
  an_octave_off : {x : ℤ} {k : ℕ} → pos 127 <ℤ x → Folds (x -ℤ pos 12) k → Folds x k
  an_octave_on : {x : ℤ} {k : ℕ} → x <ℤ pos 0 → Folds (x +ℤ pos 12) k → Folds x k

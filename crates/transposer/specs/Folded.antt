-- Folding leads to a key, and to one only.
use Rattle.std.specs.Prelude.{◌≡◌, ℕ, ◌<◌, ◌≤◌, true, ℤ, pos, negsuc, ◌+ℤ◌, ◌-ℤ◌, ◌≤ℤ◌, int_lt, unsigned_abs, refl}
use Rattle.std.proofs.Common.{arith, to_z, of_z}
use Rattle.std.specs.Int.{w32}
use Rattle.std.proofs.lemmas.Int.{ints}
use Rattle.transposer.specs.Shift.{Folds, a_key, an_octave_off, an_octave_on}

pub is_key : {x : ℤ} {k : ℕ} → Folds x k → k ≤ 127
is_key (a_key h) = h
is_key (an_octave_off h f) = is_key f
is_key (an_octave_on h f) = is_key f

pub from_key : {x : ℤ} {k : ℕ} (j : ℕ) → x ≡ pos j → j ≤ 127 → Folds x k → k ≡ j
from_key j e h (a_key g) = omega (arith, ints)
from_key j e h (an_octave_off g f) = absurd (omega (arith, ints))
from_key j e h (an_octave_on g f) = absurd (omega (arith, ints))

pub one_key : {x : ℤ} {j k : ℕ} → Folds x j → Folds x k → k ≡ j
one_key {x} {j} (a_key h) g = from_key j refl h g
one_key (an_octave_off h f) (a_key g) = absurd (omega (arith, ints))
one_key (an_octave_off h f) (an_octave_off h' g) = one_key f g
one_key (an_octave_off h f) (an_octave_on h' g) = absurd (omega (arith, ints))
one_key (an_octave_on h f) (a_key g) = absurd (omega (arith, ints))
one_key (an_octave_on h f) (an_octave_off h' g) = absurd (omega (arith, ints))
one_key (an_octave_on h f) (an_octave_on h' g) = one_key f g

-- An octave nearer from above and from below, the number held in 32 bits: each is a step down in size.
module _ (n : ℕ) where
  abbrev x : ℤ
  x = to_z w32 n

  pub off_less : int_lt (pos 127) x ≡ true → unsigned_abs (to_z w32 (of_z w32 (x -ℤ pos 12))) < unsigned_abs x
  off_less h = omega (arith, ints)

  pub on_less : int_lt x (pos 0) ≡ true → unsigned_abs (to_z w32 (of_z w32 (x +ℤ pos 12)) -ℤ pos 12) < unsigned_abs (x -ℤ pos 12)
  on_less h = omega (arith, ints)

pub itself : (x : ℤ) → pos 0 ≤ℤ x → x ≤ℤ pos 127 → Folds x (unsigned_abs x)
itself (pos k) lo hi = a_key (omega (arith, ints))
itself (negsuc k) lo hi = absurd (omega (arith, ints))

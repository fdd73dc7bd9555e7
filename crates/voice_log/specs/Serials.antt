-- The voice of a ticket that sounds is the serial of its begun line.
use Rattle.std.specs.Prelude.{◌≡◌, ℕ, ◌+◌, List, Option, ◌==◌, nat_lt}
use Rattle.roll.specs.Voices.{one, sounding_with}
use Rattle.voice_log.specs.Lines.{begun_count, begins, stops, Clean}
use Rattle.voice_log.specs.declared.line.Line.{Line}

-- how many tickets sound with the serial n
abbrev pub speaking : ℕ → List (Option ℕ) → ℕ
speaking n xs = sounding_with (λ m. m == n) xs

-- The lines are clean, each begun line has its stop or its ticket sounds, and just the serials below the next one were begun.
pub record Told (ls : List Line) (xs : List (Option ℕ)) : Type 0 where
  pub clean : Clean ls
  pub paired : (n : ℕ) → stops n ls + speaking n xs ≡ begins n ls
  pub numbered : (n : ℕ) → begins n ls ≡ one (nat_lt n (begun_count ls))

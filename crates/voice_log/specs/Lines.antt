-- The lines of a log, the first written first.
use Rattle.std.specs.Prelude.{◌≡◌, ℕ, ◌+◌, ◌≤◌, Bool, true, false, not, ◌&&◌, List, [], ◌∷◌, take, ◌==◌}
use Rattle.roll.specs.Voices.{one}
use Rattle.voice_log.specs.declared.line.Kind.{Kind}
use Rattle.voice_log.specs.declared.line.Kind.TheVariants.{Begun, Ended, Hushed}
use Rattle.voice_log.specs.declared.line.Line.{Line}

abbrev pub kind_number : Kind → ℕ
kind_number Begun = 1
kind_number Ended = 2
kind_number Hushed = 3

abbrev pub is_begun : Kind → Bool
is_begun Begun = true
is_begun Ended = false
is_begun Hushed = false

-- how many begun lines there are
unfoldable pub begun_count : List Line → ℕ
begun_count [] = 0
begun_count (l ∷ ls) = one (is_begun l.kind) + begun_count ls

-- how many begun lines have the serial n
unfoldable pub begins : ℕ → List Line → ℕ
begins n [] = 0
begins n (l ∷ ls) = one (is_begun l.kind && l.serial == n) + begins n ls

-- how many stop lines have the serial n
unfoldable pub stops : ℕ → List Line → ℕ
stops n [] = 0
stops n (l ∷ ls) = one (not (is_begun l.kind) && l.serial == n) + stops n ls

-- At every moment: a serial was begun once at most, and a stop came only after its begun line, once at most.
abbrev pub Clean : List Line → Type 0
Clean ls = (k n : ℕ) → (begins n (take k ls) ≤ 1) × (stops n (take k ls) ≤ begins n (take k ls))

-- Every begun line has exactly one stop.
abbrev pub Complete : List Line → Type 0
Complete ls = (n : ℕ) → 1 ≤ begins n ls → stops n ls ≡ 1

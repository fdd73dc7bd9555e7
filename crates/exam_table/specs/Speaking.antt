-- Which pipes speak, by the lines of a log.
use Rattle.std.specs.Prelude.{ℕ, Bool, false, not, ◌&&◌, ◌||◌, List, [], ◌∷◌, map, filter, ◌==◌, nat_lt}
use Rattle.voice_log.specs.Lines.{is_begun}
use Rattle.voice_log.specs.declared.line.Line.{Line}

-- the stop of a serial, before a place
abbrev pub stops_before : (end serial : ℕ) → Line → Bool
stops_before end n l = not (is_begun l.kind) && (l.serial == n && nat_lt l.place end)

abbrev pub stopped : (end serial : ℕ) → List Line → Bool
stopped end n [] = false
stopped end n (l ∷ ls) = stops_before end n l || stopped end n ls

-- a note begun before a place, and not stopped before it
abbrev pub speaks : ℕ → List Line → Line → Bool
speaks end ls l = is_begun l.kind && (nat_lt l.place end && not (stopped end l.serial ls))

abbrev pub keys_of : List Line → List ℕ
keys_of ls = map (λ l. l.key) ls

abbrev pub speaking : ℕ → List Line → List ℕ
speaking end ls = keys_of (filter (speaks end ls) ls)

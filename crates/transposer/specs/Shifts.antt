-- Which numbers are shifts.
use Rattle.std.specs.Prelude.{◌≡◌, true, false, ℤ, Result, MatchResult}
use Rattle.sink.specs.declared.fault.Cause.{Cause}
use Rattle.sink.specs.declared.fault.Cause.TheVariants.{ValueOutOfRange}
use Rattle.transposer.specs.Shift.{in_range}
use Rattle.transposer.specs.declared.shift.Shift.{Shift}

-- the shift of a number of semitones, if it is one
abbrev pub ShiftOf : ℤ → Result Shift Cause → Type 0
ShiftOf value r = MatchResult r (λ s. (in_range value ≡ true) × (s.semitones ≡ value)) (λ e. (in_range value ≡ false) × (e ≡ ValueOutOfRange))

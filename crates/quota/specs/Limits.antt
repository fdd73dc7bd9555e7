-- Which numbers are limits.
use Rattle.std.specs.Prelude.{◌≡◌, true, false, ℤ, pos, Result, MatchResult}
use Rattle.sink.specs.Calls.{within}
use Rattle.sink.specs.declared.fault.Cause.{Cause}
use Rattle.sink.specs.declared.fault.Cause.TheVariants.{ValueOutOfRange}
use Rattle.quota.specs.declared.limit.Limit.{Limit}

-- the limit of a number of notes, if it is one
abbrev pub LimitOf : ℤ → Result Limit Cause → Type 0
LimitOf value r = MatchResult r (λ l. (within 1 64 value ≡ true) × (pos l.notes ≡ value)) (λ e. (within 1 64 value ≡ false) × (e ≡ ValueOutOfRange))

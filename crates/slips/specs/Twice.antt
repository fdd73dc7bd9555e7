-- A stream played twice over one stack.
use Rattle.std.specs.Prelude.{ℕ, List, Result}
use Rattle.sink.specs.declared.fault.refusal.Refusal
use Rattle.sink.specs.declared.sink.Sink
use Rattle.run.specs.declared.counts.Tally.{Tally}
use Rattle.run.specs.declared.counts.TooManyBytes.{TooManyBytes}
use Rattle.run.specs.declared.runs.Run.{Run}
use Rattle.run.specs.Past.{Opened, Feeds, ClosesBy}

module _ {S F : Type 0} (gs : Sink.Ghosts S F) (gf : Refusal.Ghosts F) where
  -- a run is opened over a stack, fed the bytes and closed, and hands back what is left
  pub record Once (bytes : List ℕ) (stack left : S) : Type 0 where
    pub opened : Run S F gs gf
    pub fed : Run S F gs gf
    pub answer : Result (Unit {0}) TooManyBytes
    pub tally : Tally F
    pub opens : Opened stack opened
    pub feeds : Feeds bytes opened answer fed
    pub closes : ClosesBy fed tally left

  -- a second run goes on with what the first hands back
  pub record Twice (bytes : List ℕ) (stack left : S) : Type 0 where
    pub between : S
    pub first : Once bytes stack between
    pub second : Once bytes between left

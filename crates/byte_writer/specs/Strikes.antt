-- Which starts strike a key.
use Rattle.std.specs.Prelude.{◌≡◌, true, false, Result, MatchResult}
use Rattle.sink.specs.Calls.{startable}
use Rattle.sink.specs.declared.calls.NoteOn.{NoteOn}
use Rattle.sink.specs.declared.fault.Cause.{Cause}
use Rattle.sink.specs.declared.fault.Cause.TheVariants.{OutOfRange}
use Rattle.byte_writer.specs.declared.strike.Strike.{Strike}

-- the key that a start strikes, if its numbers are in range
abbrev pub StrikeOf : NoteOn → Result Strike Cause → Type 0
StrikeOf note r = MatchResult r
    (λ s. (startable note.channel note.key note.velocity ≡ true) × (s.key.channel ≡ note.channel) × (s.key.number ≡ note.key) × (s.velocity ≡ note.velocity))
    (λ e. (startable note.channel note.key note.velocity ≡ false) × (e ≡ OutOfRange))

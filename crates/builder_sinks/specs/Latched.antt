-- What a latched pipe means.
use Rattle.std.specs.Prelude.{Bool, true, false, ◌&&◌, ◌==◌}
use Rattle.sink.specs.Faults.{here}
use Rattle.sink.specs.Meaning.{Meaning, Readiness, is_ready, refuses}
use Rattle.sink.specs.declared.fault.Cause.TheVariants.{AllOut}
use Rattle.builder_sinks.specs.declared.latched.Valve.{Valve}
use Rattle.builder_sinks.specs.declared.latched.Valve.TheVariants.{Closed, Held, Latched}
use Rattle.builder_sinks.specs.declared.latched.LatchedPipe.{LatchedPipe}

abbrev pub valve_ready : Valve → Readiness
valve_ready Closed = is_ready
valve_ready (Held speaking) = refuses (here AllOut)
valve_ready (Latched speaking) = refuses (here AllOut)

abbrev pub is_held : Valve → Bool
is_held Closed = false
is_held (Held speaking) = true
is_held (Latched speaking) = false

abbrev pub is_latched : Valve → Bool
is_latched Closed = false
is_latched (Held speaking) = false
is_latched (Latched speaking) = true

abbrev pub speaks : Valve → Bool
speaks Closed = false
speaks (Held speaking) = speaking
speaks (Latched speaking) = speaking

abbrev pub latched_meaning : LatchedPipe → Meaning
latched_meaning s = record {
  ready = valve_ready s.valve;
  owed = λ u. is_held s.valve && (u == 7);
  kept = λ u. is_latched s.valve && (u == 7);
  sounding = λ u. speaks s.valve && (u == 7);
}

abbrev pub LatchedSound : LatchedPipe → Type 0
LatchedSound s = Unit {0}

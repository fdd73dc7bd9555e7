-- How a caller sees a builder's fault.
use Rattle.sink.specs.Faults.{Denial}
use Rattle.stack_tests.specs.declared.deep.Deep.{Deep}

abbrev pub deep_denial : Deep → Denial
deep_denial f = record { number = 3; depth = f.layers }

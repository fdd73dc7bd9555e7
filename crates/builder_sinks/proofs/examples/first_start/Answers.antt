use Rattle.std.proofs.Common.{arith}
use Rattle.builder_sinks.proofs.Firsts.{first_short, first_enough}
use Rattle.builder_sinks.proofs.examples.first_start.Goals as goal

pub returns : goal.returns
returns c = record {
  too_few = λ h. (first_short c.new-log.result c.new-log.ensures.notes c.new-log.ensures.written c.new-log.ensures.silent c.start.result c.start.new.self c.start.ensures (omega arith)).0;
  enough = λ h. first_enough c.new-log.result c.new-log.ensures.notes c.new-log.ensures.written c.new-log.ensures.silent c.start.result c.start.new.self c.start.ensures (omega arith);
}

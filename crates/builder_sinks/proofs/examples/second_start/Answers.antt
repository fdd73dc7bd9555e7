use Rattle.std.proofs.Common.{ap, ◌∙◌, arith}
use Rattle.sink.specs.Faults.{here}
use Rattle.sink.specs.Meaning.{whether}
use Rattle.builder_sinks.proofs.Firsts.{second_short, second_enough, says, says_ready}
use Rattle.builder_sinks.proofs.examples.second_start.Goals as goal

pub returns : goal.returns
returns c = record {
  too_few = λ h. says c.ready.result (c.ready.ensures ∙ ap (whether here) (second_short c.new-log.result c.new-log.ensures.notes c.new-log.ensures.written c.new-log.ensures.silent c.start.result c.start.new.self c.start.ensures (omega arith)));
  enough = λ h. says_ready c.ready.result (c.ready.ensures ∙ ap (whether here) (second_enough c.new-log.result c.new-log.ensures.notes c.new-log.ensures.written c.new-log.ensures.silent c.start.result c.start.new.self c.start.ensures (omega arith)));
}

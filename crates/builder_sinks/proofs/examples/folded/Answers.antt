use Rattle.builder_sinks.proofs.Firsts.{folding}
use Rattle.builder_sinks.proofs.examples.folded.Goals as goal

pub returns-in_err-shift-clause-worked : goal.returns-in_err-shift-clause-worked
returns-in_err-shift-clause-worked c = folding

pub returns-clause-worked : goal.returns-clause-worked
returns-clause-worked c = folding

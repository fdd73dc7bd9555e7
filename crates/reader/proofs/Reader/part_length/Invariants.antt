use Rattle.std.proofs.Common.{◌≡◌, ◌+◌}
use Rattle.reader.specs.declared.states.State.TheVariants as s
use Rattle.reader.specs.Steps.{AllData}
use Rattle.reader.proofs.Reader.part_length.Given as goal

abbrev pub invariant-loop-index : goal.invariant-loop-index
invariant-loop-index l = (l.self.state ≡ s.Exclusive) × AllData l.rest (l.index + 1)

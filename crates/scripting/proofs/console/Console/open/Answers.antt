use Rattle.std.proofs.Common.{[]}
use Rattle.run.specs.Past.{opened}
use Rattle.scripting.proofs.console.Console.open.Goals as goal

pub invariant_of-result : goal.invariant_of-result
invariant_of-result c =
    record { played = ∣ ([], [], opened c.console_stack.result c.console_stack.ensures.sound c.console_stack.ensures.idle c.open-run.ensures) ∣₁ }

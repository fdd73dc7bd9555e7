use Rattle.sink.specs.Calls.{finished}
use Rattle.scripting.proofs.Pasts.{set_past}
use Rattle.scripting.proofs.console.Console.set.Goals as goal

pub invariant_of-self : goal.invariant_of-self
invariant_of-self c =
    record { played = set_past c.args.self.now.run c.set.new.self c.args.setting.depth c.args.setting.item c.args.setting.value (finished c.set.result) c.set.ensures c.args.self.now.played }

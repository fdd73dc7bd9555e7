use Rattle.scripting.proofs.Pasts.{fed_past}
use Rattle.scripting.proofs.console.Console.feed.Goals as goal

pub invariant_of-self : goal.invariant_of-self
invariant_of-self c = record { played = fed_past c.args.self.now.run c.feed.new.self c.args.bytes.now c.feed.result c.feed.ensures c.args.self.now.played }

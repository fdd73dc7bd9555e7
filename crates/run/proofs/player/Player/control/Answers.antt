use Rattle.std.proofs.Common.{subst}
use Rattle.run.specs.Steps.{OnControl}
use Rattle.run.proofs.player.Player.control.Goals as goal

pub returns-in-ReleaseAndTell-clause-control : goal.returns-in-ReleaseAndTell-clause-control
returns-in-ReleaseAndTell-clause-control g c =
    let s = c.empty_channel.ensures.swept in
    let change = c.args.change in
    (s.0, subst (λ w. OnControl w c.args.place change.channel change.controller change.value c.args.self.now s.0 c.tell-in-ReleaseAndTell.new.self) c.in-ReleaseAndTell.ensures (record { between = c.empty_channel.new.self; swept = s.1; called = c.tell-in-ReleaseAndTell.ensures.told }))

use Rattle.std.proofs.Common.{refl}
use Rattle.sink.specs.Calls.{done}
use Rattle.run.proofs.player.Player.reset.Goals as goal

pub returns-clause-swept : goal.returns-clause-swept
returns-clause-swept g c =
    let s = c.empty_all.ensures.swept in
    (s.0, record { between = c.empty_all.new.self; swept = s.1; called = record { answer = done; call = c.clear.ensures; table = refl; counts = refl; events = refl } })

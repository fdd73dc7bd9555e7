use Rattle.std.proofs.Common.{inr}
use Rattle.run.proofs.player.Player.empty.Goals as goal

pub returns-in-Some-clause-emptied : goal.returns-in-Some-clause-emptied
returns-in-Some-clause-emptied g c = (_, inr (_, c.give_back.ensures.returned))

use Rattle.std.proofs.Common.{inr}
use Rattle.run.proofs.player.Player.note_off.Goals as goal

pub returns-clause-off : goal.returns-clause-off
returns-clause-off g c = (_, inr (_, c.give_back.ensures.returned))

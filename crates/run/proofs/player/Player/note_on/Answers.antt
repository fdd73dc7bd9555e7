use Rattle.std.proofs.Common.{◌++◌, refl}
use Rattle.run.proofs.player.Player.note_on.Goals as goal

pub returns-clause-on : goal.returns-clause-on
returns-clause-on g c =
    let e = c.empty.ensures.emptied in
    (e.0 ++ _, record { between = c.empty.new.self; before = e.0; after = _; emptied = e.1; started = c.start.ensures.started; events = refl })

use Rattle.run.proofs.Left.{no_note_left}
use Rattle.run.proofs.runs.Run.stands.Goals as goal

pub returns : goal.returns
returns g c bytes es past =
    let met = g.met.S.Sink in
    (no_note_left g.S.Sink g.S.Fault.Refusal (record { orderly = met.orderly; stays = met.stays; means = met.means; cleanly = met.cleanly; completes = met.completes }) c.args.self.now bytes es past).0

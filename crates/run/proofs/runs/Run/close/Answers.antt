use Rattle.std.proofs.Common.{refl}
use Rattle.run.proofs.Left.{no_note_left}
use Rattle.run.specs.Past.{Closed, NoNoteLeft}
use Rattle.run.proofs.runs.Run.close.Goals as goal

pub returns : goal.returns
returns g c =
    let met = g.met.S.Sink in
    let swept = c.reset.ensures.swept in
    let after = c.reset.new.self in
    let closed : Closed c.args.self swept.0 after c.tally.result after.stack = record { swept = swept.1; answered = c.tally.ensures; stack = refl } in
    let theorem : NoNoteLeft g.S.Sink g.S.Fault.Refusal = no_note_left g.S.Sink g.S.Fault.Refusal (record { orderly = met.orderly; stays = met.stays; means = met.means; cleanly = met.cleanly; completes = met.completes }) in
    record {
      closed = (swept.0, after, closed);
      rests = λ bytes es past. (swept.0, after, closed, (theorem c.args.self bytes es past).1 swept.0 after _ _ closed);
      theorem = theorem;
    }

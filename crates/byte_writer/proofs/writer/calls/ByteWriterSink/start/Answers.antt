use Rattle.std.proofs.Common.{sym, refl, ◌∙◌}
use Rattle.byte_writer.specs.Wrote.{begins_so, start_taken}
use Rattle.byte_writer.proofs.writer.calls.ByteWriterSink.start.Goals as goal

pub returns : goal.returns
returns c =
    let n = c.args.note in
    let x = c.in_ok-strike.strike in
    let of = c.in_ok-strike.ensures in
    let b = c.begin.ensures in
    start_taken c.args._place n.channel n.key n.velocity c.args.self.now _ _ of.0 (sym c.check.ensures ∙ c.in_ok-check.was)
    (begins_so c.args._place n.channel n.key n.velocity x _ _ _ of.1 of.2 of.3 record {
      number = c.begin.result;
      small = b.small;
      fresh = b.fresh;
      least = b.least;
      answer = refl;
      wrote = b.wrote;
      struck = x.key;
      on_channel = refl;
      on_key = refl;
      voices = b.voices;
      roll = b.roll;
    })

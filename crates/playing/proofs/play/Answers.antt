use Rattle.playing.proofs.Closings.{fed_by, left_after}
use Rattle.playing.proofs.play.Goals as goal

pub returns : goal.returns
returns g c =
    record {
      fed = fed_by c.open-run.ensures c.args.bytes.now c.feed-fed.result c.feed-fed.new.self c.feed-fed.ensures;
      left = λ ok idle. left_after c.open-run.ensures c.args.bytes.now c.feed-fed.result c.feed-fed.new.self c.close-tally.result.0 c.close-tally.result.1 ok idle c.feed-fed.ensures c.close-tally.ensures.rests;
    }

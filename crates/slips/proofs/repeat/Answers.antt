use Rattle.playing.proofs.Closings.{left_after}
use Rattle.slips.proofs.repeat.Goals as goal

pub returns : goal.returns
returns c = record {
  twice = record {
    between = c.close-log.result.1;
    first = record { opened = c.open-run.result.0; fed = c.feed.new.self; answer = c.feed.result; tally = c.close-log.result.0; opens = c.open-run.ensures; feeds = c.feed.ensures; closes = c.close-log.ensures.closed };
    second = record { opened = c.open-again.result.0; fed = c.feed-2.new.self; answer = c.feed-2.result; tally = c.close-log-2.result.0; opens = c.open-again.ensures; feeds = c.feed-2.ensures; closes = c.close-log-2.ensures.closed };
  };
  idle = λ ok idle.
      let one = left_after c.open-run.ensures c.args.bytes.now c.feed.result c.feed.new.self c.close-log.result.0 c.close-log.result.1 ok idle c.feed.ensures c.close-log.ensures.rests in
      let two = left_after c.open-again.ensures c.args.bytes.now c.feed-2.result c.feed-2.new.self c.close-log-2.result.0 c.close-log-2.result.1 one.sound_left one.idle c.feed-2.ensures c.close-log-2.ensures.rests in
      (two.sound_left, two.idle);
}

use Rattle.std.proofs.Common.{[], ◌∷◌, ◌++◌, length, sym, refl, ap, ◌∙◌, arith}
use Rattle.reader.specs.Ahead.{ahead, read_as}
use Rattle.run.specs.Steps.{played_none, played_more}
use Rattle.run.proofs.Turns.{one_on, none_listed, numbered}
use Rattle.run.proofs.runs.Run.feed.Goals as goal

pub loop-item-init : goal.loop-item-init
loop-item-init g c =
    let kept = numbered c.number_from.result c.new-piece.result c.number_from.new.self c.args.self.now.count (grind arith) c.number_from.ensures in
    let long = ap length (kept.0 ∙ c.new-piece.ensures.rest) in
    let none = none_listed c.number_from.new.self.pending (kept.1 ∙ c.new-piece.ensures.pending) in
    record { ending = refl; total = omega (arith, long, none, c.args.self.now.bounded); count = refl; played = ([], [], played_none, refl) }

pub loop-item-preserved : goal.loop-item-preserved
loop-item-preserved g c =
    let inv = c.loop-item.invariant in
    let got = c.in-Some.ensures.next in
    let h = c.handle.ensures.handled in
    let reading = read_as c.in-Some.item in
    record {
      ending = sym got.1 ∙ inv.ending;
      total = omega (arith, inv.total, c.handle.ensures.total, got.2);
      count = inv.count;
      played = (
        inv.played.0 ++ (reading ∷ []),
        inv.played.1 ++ h.0,
        played_more reading h.0 inv.played.2 c.handle.ensures.ranged h.1,
        one_on inv.played.0 reading (ahead c.loop-item.self.reader.state c.loop-item.piece) (ahead c.next.new.self.state c.next.new.piece) _ inv.played.3 got.0,
      );
    }

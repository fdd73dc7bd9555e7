use Rattle.std.proofs.Common.{◌≡◌}
use Rattle.rolled.specs.Rolled.{notes_of}
use Rattle.quota.specs.Hushing.{HushTimes}
use Rattle.quota.proofs.quota.Quota.make_room.Given as goal

abbrev pub invariant-loop : goal.invariant-loop
invariant-loop g l = record {
  below : HushTimes g.S.Sink.meaning g.S.Sink.does (g.O.Order.before l.initial.self.order) l.place (notes_of l.initial.self.rolled) l.counter l.initial.self.rolled.below l.self.rolled.below;
  roll : l.self.rolled.roll ≡ l.initial.self.rolled.roll;
  limit : l.self.limit ≡ l.initial.self.limit;
  order : l.self.order ≡ l.initial.self.order;
}

use Rattle.std.proofs.Common.{refl, ◌∙◌, add-one}
use Rattle.quota.specs.Hushing.{enough, another}
use Rattle.quota.proofs.quota.Quota.make_room.Goals as goal

pub loop-init : goal.loop-init
loop-init g c = record { below = enough; roll = refl; limit = refl; order = refl }

pub loop-preserved : goal.loop-preserved
loop-preserved g c = record {
  below = rw add-one (another c.loop.invariant.below (rw (c.loop.invariant.order, c.loop.invariant.roll) at c.hush_next.ensures.below));
  roll = c.hush_next.ensures.roll ∙ c.loop.invariant.roll;
  limit = c.hush_next.ensures.limit ∙ c.loop.invariant.limit;
  order = c.hush_next.ensures.order ∙ c.loop.invariant.order;
}

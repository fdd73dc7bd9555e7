use Rattle.std.proofs.Common.{[], arith}
use Rattle.run.specs.Steps.{swept_none}
use Rattle.run.proofs.Sweeps.{next_channel}
use Rattle.run.proofs.player.Player.empty_all.Goals as goal

pub loop-channel-init : goal.loop-channel-init
loop-channel-init g c = record { swept = ([], swept_none); total = omega arith }

pub loop-channel-preserved : goal.loop-channel-preserved
loop-channel-preserved g c = record {
  swept = next_channel _ _ c.loop-channel.invariant.swept c.empty_channel.ensures.swept;
  total = omega (arith, c.loop-channel.invariant.total, c.empty_channel.ensures.total);
}

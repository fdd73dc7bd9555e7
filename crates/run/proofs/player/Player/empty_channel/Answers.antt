use Rattle.std.proofs.Common.{arith}
use Rattle.run.proofs.Sweeps.{no_key, next_key}
use Rattle.run.proofs.player.Player.empty_channel.Goals as goal

pub loop-number-init : goal.loop-number-init
loop-number-init g c = record { swept = no_key _ _; total = omega arith }

pub loop-number-preserved : goal.loop-number-preserved
loop-number-preserved g c = record {
  swept = next_key _ _ _ c.loop-number.invariant.swept c.empty.ensures.emptied;
  total = omega (arith, c.loop-number.invariant.total, c.empty.ensures.total);
}

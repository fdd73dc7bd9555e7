use Rattle.std.proofs.Common.{arith}
use Rattle.quota.specs.Few.{at_most}
use Rattle.quota.proofs.quota.Quota.limit.Goals as goal

pub returns-clause-few : goal.returns-clause-few
returns-clause-few g c =
    λ h ks once each. omega (arith, at_most c.args.self.now.rolled c.args.self.now.limit.notes h.rolled h.few ks once each)

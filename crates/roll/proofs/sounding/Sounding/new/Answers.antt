use Rattle.std.proofs.Common.{true, sym, refl}
use Rattle.roll.proofs.Tallies.{with_none}
use Rattle.roll.proofs.sounding.Sounding.new.Goals as goal

pub invariant_of-result : goal.invariant_of-result
invariant_of-result g c = record { long = refl; counted = sym (with_none (λ v. true) 128) }

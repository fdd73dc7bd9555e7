use Rattle.std.proofs.Common.{◌≡◌, true, ap, arith, length-set}
use Rattle.std.proofs.lemmas.Grind.{common_steps}
use Rattle.roll.specs.Voices.{one, voice, passes}
use Rattle.roll.proofs.Tallies.{with_set, with_one, with_le, sounds_at_all}
use Rattle.roll.proofs.sounding.Sounding.put.Goals as goal

pub overflow_sub-self : goal.overflow_sub-self
overflow_sub-self g c =
    let x = voice c.args.self.now.voices c.args.ticket in
    let same = ap one (sounds_at_all x) in
    let k = with_one (λ v. true) c.args.self.now.voices c.args.ticket in
    grind (arith, common_steps)

pub overflow_add-self : goal.overflow_add-self
overflow_add-self g c =
    let k = with_le (λ v. true) c.args.self.now.voices in
    grind (arith, common_steps)

pub invariant_of-self : goal.invariant_of-self
invariant_of-self g c =
    let x = voice c.args.self.now.voices c.args.ticket in
    let before : c.from.result ≡ one (passes (λ v. true) x) = grind (arith, common_steps, sounds_at_all x) in
    let after : c.from-then-i-lt128.result ≡ one (passes (λ v. true) c.args.voice) = grind (arith, common_steps, sounds_at_all c.args.voice) in
    let k = with_one (λ v. true) c.args.self.now.voices c.args.ticket in
    let q = with_set (λ v. true) c.args.self.now.voices c.from-i.result c.args.voice (omega arith) in
    let there = ap (λ u. one (passes (λ v. true) (voice c.args.self.now.voices u))) c.from-i.ensures in
    record { long = simp length-set c.args.self.now.long; counted = omega arith }

pub returns-then-i-lt128-clause-most : goal.returns-then-i-lt128-clause-most
returns-then-i-lt128-clause-most g c =
    let x = voice c.args.self.now.voices c.args.ticket in
    let within = ap one (sounds_at_all x) in
    let k = with_one (λ v. true) c.args.self.now.voices c.args.ticket in
    grind (arith, common_steps)

use Rattle.std.proofs.Common.{◌≡◌, arith}
use Rattle.std.proofs.lemmas.Int.{ints}
use Rattle.transposer.proofs.Sums.{shifts_add}
use Rattle.transposer.proofs.transposer.adding.sum_of_shifts.Goals as goal

pub returns : goal.returns
returns g c =
    let sum : _ ≡ _ = omega (arith, ints) in
    record { sum = sum; adds = shifts_add g.S.Sink.does c.args.both.now _ sum }

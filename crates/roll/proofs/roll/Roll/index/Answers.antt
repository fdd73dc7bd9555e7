use Rattle.std.proofs.Common.{◌≡◌, eqb, position, rules, tests}
use Rattle.std.proofs.lemmas.Iterator.{YieldsList-from_slice}
use Rattle.std.proofs.lemmas.Iterator.Search.{position_from_yields_List}
use Rattle.roll.specs.Rolls.{listed}
use Rattle.roll.proofs.Table.{found_place, marked_place}
use Rattle.roll.proofs.roll.Roll.index.Goals as goal

first : (c : goal.After-position) → c.position.result ≡ position (λ n. eqb n.ticket c.args.ticket) (listed c.args.self.now)
first c =
    position_from_yields_List (λ n. eqb n.ticket c.args.ticket) _ _ c.position.result c.position.ensures.ran (YieldsList-from_slice (listed c.args.self.now) cc) (λ x b q k. search (rules, tests))

pub returns-clause-finds : goal.returns-clause-finds
returns-clause-finds c = rw (first c) (found_place c.args.ticket c.args.self.now.notes c.args.self.now.count)

pub returns-clause-marks : goal.returns-clause-marks
returns-clause-marks c = rw (first c) (marked_place c.args.ticket c.args.self.now.notes c.args.self.now.count)

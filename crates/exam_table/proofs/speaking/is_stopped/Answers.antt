use Rattle.std.proofs.Common.{◌||◌, refl, ◌∙◌, rules, tests}
use Rattle.std.specs.List.{list_any}
use Rattle.std.proofs.lemmas.Iterator.{YieldsList-from_slice}
use Rattle.std.proofs.lemmas.Iterator.Search.{any_from_yields_List}
use Rattle.std.proofs.lemmas.List.Recursion.{same_from_clauses}
use Rattle.exam_table.specs.Speaking.{stops_before, stopped}
use Rattle.exam_table.proofs.speaking.is_stopped.Goals as goal

pub returns : goal.returns
returns c =
    let lines = c.args.lines.now in
    let stops = stops_before c.args.end c.args.serial in
    any_from_yields_List stops _ _ _ c.any.ensures.ran (YieldsList-from_slice lines cc) (λ x b q k. search (rules, tests))
    ∙ same_from_clauses (list_any stops) (stopped c.args.end c.args.serial) (λ line later. stops line || later) refl (λ _ _. refl) (λ _ _. refl) lines

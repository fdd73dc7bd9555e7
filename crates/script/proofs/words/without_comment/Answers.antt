use Rattle.std.proofs.Common.{◌≡◌, eqb, take, ap, ◌∙◌, rules, tests}
use Rattle.std.specs.List.{position_or_len}
use Rattle.std.proofs.lemmas.Iterator.{YieldsList-from_slice}
use Rattle.std.proofs.lemmas.Iterator.Search.{position_from_yields_List}
use Rattle.script.proofs.Cuts.{first_or_end, comment_cut}
use Rattle.script.proofs.words.without_comment.Goals as goal

pub returns : goal.returns
returns c =
    let n : c.unwrap_or.result ≡ position_or_len (λ b. eqb b 35) c.args.line.now =
    first_or_end (λ b. eqb b 35) _ _ _ (position_from_yields_List (λ b. eqb b 35) _ _ c.position-end.result c.position-end.ensures.ran (YieldsList-from_slice c.args.line.now (cc)) (λ x b q k. search (rules, tests))) c.unwrap_or.ensures in
    ap (λ k. take k c.args.line.now) n ∙ comment_cut c.args.line.now

use Rattle.std.proofs.Common.{rules, tests}
use Rattle.std.proofs.lemmas.Iterator.{YieldsList-from_slice}
use Rattle.std.proofs.lemmas.Iterator.Search.{position_from_yields_List}
use Rattle.script.specs.Words.{blank}
use Rattle.script.proofs.Cuts.{first_or_end}
use Rattle.script.proofs.words.word_length.Goals as goal

pub returns-clause-word : goal.returns-clause-word
returns-clause-word c =
    first_or_end blank _ _ _ (position_from_yields_List blank _ _ c.position.result c.position.ensures.ran (YieldsList-from_slice c.args.text.now (cc)) (λ x b q k. search (rules, tests))) c.unwrap_or.ensures

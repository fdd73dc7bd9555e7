use Rattle.std.proofs.Common.{◌<◌, length, sym, ap, ◌∙◌, arith, rules}
use Rattle.script.specs.Words.{words_of}
use Rattle.script.proofs.Cuts.{no_word, next_word}
use Rattle.script.proofs.words.WordsIterator.next.Goals as goal

pub returns-in_err-text-clause-steps : goal.returns-in_err-text-clause-steps
returns-in_err-text-clause-steps c =
    let e = no_word c.args.self.now.rest.now (sym c.word_start.ensures ∙ c.in_err-text.was) in
    rw c.from_residual.ensures (e, e)

pub returns-clause-steps : goal.returns-clause-steps
returns-clause-steps c = next_word c.args.self.now.rest.now _ _ _ _ (sym c.word_start.ensures ∙ c.in_ok-text.was) c.word_length.ensures.word c.split_at.ensures.front c.split_at.ensures.back

pub returns-clause-goes : goal.returns-clause-goes
returns-clause-goes c =
    let less : length (words_of c.split_at.result.1.now) < length (words_of c.args.self.now.rest.now) = omega (arith, ap length (returns-clause-steps c)) in
    search rules

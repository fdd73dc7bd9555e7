use Rattle.std.proofs.Common.{vec_items}
use Rattle.std.proofs.lemmas.Result.{err_from_is_err_and}
use Rattle.script.specs.Words.{words_of}
use Rattle.script.proofs.Reading.{not_fed, goes_on}
use Rattle.script.proofs.acts.feed.Goals as goal

pub loop-word-preserved : goal.loop-word-preserved
loop-word-preserved c =
    goes_on (vec_items c.loop-word.bytes) (vec_items c.push_hex.new.bytes) c.in-Some.word.now (words_of c.loop-word.word-iterator.rest.now) (words_of c.next.new.self.rest.now) _ c.in-Some.ensures.steps c.in_ok-push_hex.ensures c.loop-word.invariant

pub returns-in_err-push_hex : goal.returns-in_err-push_hex
returns-in_err-push_hex c =
    let p = err_from_is_err_and c.from_residual.result c.from_residual.ensures.1 in
    rw (p.1, p.2) (not_fed c.in_err-push_hex.field-0.0 (vec_items c.loop-word.bytes) (vec_items c.push_hex.new.bytes) c.in-Some.word.now (words_of c.loop-word.word-iterator.rest.now) (words_of c.next.new.self.rest.now) _ c.in-Some.ensures.steps c.in_err-push_hex.ensures c.loop-word.invariant)

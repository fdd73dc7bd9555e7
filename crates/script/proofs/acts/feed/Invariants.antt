use Rattle.std.proofs.Common.{◌≡◌, Some, vec_items}
use Rattle.script.specs.Words.{words_of}
use Rattle.script.specs.Numbers.{all_bytes, joined_bytes}
use Rattle.script.proofs.acts.feed.Given as goal

abbrev pub invariant-loop-word : goal.invariant-loop-word
invariant-loop-word l =
    joined_bytes (Some (vec_items l.bytes)) (all_bytes (words_of l.word-iterator.rest.now)) ≡ all_bytes (words_of l.fn.words.rest.now)

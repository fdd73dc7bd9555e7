use Rattle.std.proofs.Common.{◌≡◌, ◌^◌, ◌<◌, drop}
use Rattle.script.specs.Numbers.{number_after, number_of, under}
use Rattle.script.proofs.numbers.number.Given as goal

abbrev pub invariant-loop-byte : goal.invariant-loop-byte
invariant-loop-byte l = (under (2 ^ 32) (number_after (drop l.byte-index l.word) l.n) ≡ number_of l.word) × (l.n < 2 ^ 32)

use Rattle.std.proofs.Common.{◌≡◌, ◌*◌, drop, Some, vec_items}
use Rattle.script.specs.Numbers.{hex_bytes, joined_bytes}
use Rattle.script.proofs.numbers.push_hex.Given as goal

abbrev pub invariant-loop-high : goal.invariant-loop-high
invariant-loop-high l =
    joined_bytes (Some (vec_items l.bytes)) (hex_bytes (drop (l.high-index * 2) l.word)) ≡ joined_bytes (Some (vec_items l.initial.bytes)) (hex_bytes l.word)

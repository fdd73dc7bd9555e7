use Rattle.std.proofs.Common.{◌≡◌, ℕ, ◌*◌, drop, length, vec_items, sym, ◌∙◌, length-drop, arith}
use Rattle.std.proofs.lemmas.Bool.{eqb-true, eqb-false}
use Rattle.std.proofs.lemmas.Result.{err_from_is_err_and}
use Rattle.script.proofs.Bytes.{byte_more, no_byte, all_read, one_left, unreadable_from_none}
use Rattle.script.proofs.numbers.push_hex.Goals as goal

pub loop-high-preserved : goal.loop-high-preserved
loop-high-preserved c =
    let pairs = c.as_chunks.ensures in
    byte_more c.args.word.now c.as_chunks.result.0.now _ _ _ c.in_ok-byte.byte _ pairs.front pairs.front_len c.loop-high-test.true (sym c.hex_byte.ensures ∙ c.in_ok-byte.ensures.ok_part) c.in_ok-push.ensures.items c.loop-high.invariant

pub returns-in_err-byte : goal.returns-in_err-byte
returns-in_err-byte c =
    let pairs = c.as_chunks.ensures in
    let p = err_from_is_err_and c.from_residual.result c.from_residual.ensures.1 in
    let none = unreadable_from_none _ _ c.in_err-byte.ensures.value in
    rw (p.1, p.2, none.1) (no_byte c.args.word.now c.as_chunks.result.0.now (vec_items c.loop-high.bytes) _ _ _ _ pairs.front pairs.front_len c.loop-high-test.true (sym c.hex_byte.ensures ∙ none.0) c.loop-high.invariant)

pub returns-then-is_empty : goal.returns-then-is_empty
returns-then-is_empty c =
    let none : length (drop (c.loop-high.high-index * 2) c.args.word.now) ≡ 0 = omega (arith, length-drop {A = ℕ}, eqb-true _ 0 (sym c.if-is_empty.ensures)) in
    all_read _ _ _ _ none c.loop-high.invariant

pub returns-else-is_empty : goal.returns-else-is_empty
returns-else-is_empty c =
    let one : length (drop (c.loop-high.high-index * 2) c.args.word.now) ≡ 1 = omega (arith, length-drop {A = ℕ}, eqb-false _ 0 (sym c.if-is_empty.ensures)) in
    one_left (vec_items c.loop-high.bytes) _ _ _ _ one c.loop-high.invariant

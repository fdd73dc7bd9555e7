-- How a number is read digit by digit.
use Rattle.std.proofs.Common.{◌≡◌, ℕ, ◌+◌, ◌*◌, ◌^◌, ◌<◌, ◌≤◌, List, [], ◌∷◌, length, get_or, drop, Some, None, Option, sym, refl, ap, ◌∙◌, arith}
use Rattle.std.proofs.lemmas.List.{drop_more}
use Rattle.std.proofs.lemmas.Bool.{le-ltb, cond-false}
use Rattle.std.proofs.lemmas.Bool.Decides.{nat_tests}
use Rattle.script.specs.Numbers.{decimal_digit, with_digit_of, number_after, under}

number_more : (w : List ℕ) (i n : ℕ) (d : Option ℕ) → i < length w → d ≡ decimal_digit (get_or w i 0) → number_after (drop i w) n ≡ with_digit_of (number_after (drop (i + 1) w)) n d
number_more w i n d h e = ap (λ l. number_after l n) (drop_more w i 0 h) ∙ ap (with_digit_of (number_after (drop (i + 1) w)) n) (sym e)

-- a number that is too large stays so
too_large : (w : List ℕ) (n : ℕ) → 2 ^ 32 ≤ n → under (2 ^ 32) (number_after w n) ≡ None
too_large [] n h = cond-false _ _ _ (le-ltb n (2 ^ 32) h)
too_large (c ∷ cs) n h =
    elim (decimal_digit c) as (λ d. under (2 ^ 32) (with_digit_of (number_after cs) n d) ≡ None) [ None ↦ refl | Some d ↦ too_large cs (n * 10 + d) (omega arith) ]

over : (m : ℕ) → None ≡ under (2 ^ 32) (Some m) → 2 ^ 32 ≤ m
over m e = grind (arith, nat_tests)

pub digit_too_many : (w : List ℕ) (i n d : ℕ) (all : Option ℕ) → i < length w → Some d ≡ decimal_digit (get_or w i 0) → None ≡ under (2 ^ 32) (Some (n * 10 + d)) → under (2 ^ 32) (number_after (drop i w) n) ≡ all → None ≡ all
digit_too_many w i n d all h e f sofar =
    sym (too_large (drop (i + 1) w) (n * 10 + d) (over (n * 10 + d) f)) ∙ sym (ap (under (2 ^ 32)) (number_more w i n (Some d) h e)) ∙ sofar

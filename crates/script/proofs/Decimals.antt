-- Numbers that are written in decimal are read back.
use Rattle.std.proofs.Common.{◌≡◌, ℕ, suc, ◌+◌, ◌*◌, ◌/◌, ◌%◌, ◌^◌, ◌<◌, ◌≤◌, List, [], ◌∷◌, ◌++◌, length, get_or, ℤ, pos, negsuc, Some, None, decimal, Option, refl, ap, ◌∙◌, arith}
use lib.Signed.{mag}
use Rattle.std.specs.List.{AllByRecursion}
use Rattle.std.specs.Fmt.{signed_decimal}
use Rattle.std.proofs.lemmas.Fmt.{decimal_by_steps}
use Rattle.std.proofs.lemmas.List.{get_or_append_left, length-append}
use Rattle.std.proofs.lemmas.Bool.{cond-true, cond-false, lt-ltb, le-leb, ne_eqb}
use Rattle.std.proofs.lemmas.Bool.Decides.{nat_tests}
use Rattle.script.specs.Words.{uncommented, ended, words_of}
use Rattle.script.specs.Numbers.{decimal_digit, with_digit_of, number_after, under, number_of, positive, negative, signed_of}
use Rattle.script.specs.Meanings.{sets_all, sets_by}
use Rattle.script.specs.Laws.{NumbersReturn}
use Rattle.script.proofs.Returns.{Plain, plain_uncommented, plain_words, last_word}

-- a number with one digit behind it
abbrev with_last : Option ℕ → ℕ → Option ℕ
with_last None c = None
with_last (Some n) c = with_digit_of Some n (decimal_digit c)

number_push : (ds : List ℕ) (c n : ℕ) → number_after (ds ++ (c ∷ [])) n ≡ with_last (number_after ds n) c
number_push [] c n = elim (decimal_digit c) as (λ o. with_digit_of (number_after []) n o ≡ with_digit_of Some n o) [ None ↦ refl | Some d ↦ refl ]
number_push (x ∷ xs) c n =
    elim (decimal_digit x) as (λ o. with_digit_of (number_after (xs ++ (c ∷ []))) n o ≡ with_last (with_digit_of (number_after xs) n o) c) [ None ↦ refl | Some d ↦ number_push xs c (n * 10 + d) ]

digit_back : (d : ℕ) → d < 10 → decimal_digit (48 + d) ≡ Some d
digit_back d h = grind (arith, nat_tests)

plain_digit : (d : ℕ) → d < 10 → Plain (48 + d)
plain_digit d h = (grind (arith, nat_tests), grind (arith, nat_tests))

plain_push : (w : List ℕ) (c : ℕ) → AllByRecursion Plain w → Plain c → AllByRecursion Plain (w ++ (c ∷ []))
plain_push [] c h p = (p, tt)
plain_push (x ∷ xs) c h p = (h.0, plain_push xs c h.1 p)

-- ds are digits that write n
record Writes (n : ℕ) (ds : List ℕ) : Type 0 where
  plain : AllByRecursion Plain ds
  some : 0 < length ds
  digit : 48 ≤ get_or ds 0 0
  number : number_after ds 0 ≡ Some n

writes : (n : ℕ) → n < 2 ^ 64 → Writes n (decimal n)
writes = decimal_by_steps Writes
    (λ n h. record {
      plain = (plain_digit n h, tt);
      some = omega arith;
      digit = omega arith;
      number = ap (with_digit_of (number_after []) 0) (digit_back n h) ∙ ap Some (omega arith);
    })
    (λ n ds h was.
    let some = was.some in
    let digit = was.digit in
    record {
      plain = plain_push ds (48 + n % 10) was.plain (plain_digit (n % 10) (omega arith));
      some = simp length-append (omega arith);
      digit = rw (get_or_append_left ds ((48 + n % 10) ∷ []) 0 0 some) digit;
      number = number_push ds (48 + n % 10) 0 ∙ ap (λ o. with_last o (48 + n % 10)) was.number ∙ ap (with_digit_of Some (n / 10)) (digit_back (n % 10) (omega arith)) ∙ ap Some (omega arith);
    })

number_back : (n : ℕ) (ds : List ℕ) → Writes n ds → n < 2 ^ 32 → number_of ds ≡ Some n
number_back n [] was h = absurd (let some = was.some in omega arith)
number_back n (c ∷ cs) was h = ap (under (2 ^ 32)) was.number ∙ cond-true _ _ _ (lt-ltb n (2 ^ 32) h)

positive_back : (n : ℕ) (ds : List ℕ) → Writes n ds → n < 2 ^ 31 → signed_of ds ≡ Some (pos n)
positive_back n [] was h = absurd (let some = was.some in omega arith)
positive_back n (c ∷ cs) was h =
    let digit = was.digit in
    cond-false _ _ _ (ne_eqb c 45 (λ e. omega arith)) ∙ ap positive (number_back n (c ∷ cs) was (omega arith)) ∙ cond-true _ _ _ (lt-ltb n (2 ^ 31) h)

signed_back : (z : ℤ) → mag z < 2 ^ 31 → signed_of (signed_decimal z) ≡ Some z
signed_back (pos n) h = positive_back n (decimal n) (writes n (omega arith)) h
signed_back (negsuc n) h =
    ap negative (number_back (suc n) (decimal (suc n)) (writes (suc n) (omega arith)) (omega arith)) ∙ cond-true _ _ _ (le-leb (suc n) (2 ^ 31) (omega arith))

minus_plain : Plain 45
minus_plain = (refl, refl)

signed_plain : (z : ℤ) → mag z < 2 ^ 31 → AllByRecursion Plain (signed_decimal z) × (0 < length (signed_decimal z))
signed_plain (pos n) h = let was = writes n (omega arith) in (was.plain, was.some)
signed_plain (negsuc n) h = ((minus_plain, (writes (suc n) (omega arith)).plain), omega arith)

ended_some : (w : List ℕ) (ws : List (List ℕ)) → 0 < length w → ended w ws ≡ w ∷ ws
ended_some [] ws h = absurd (omega arith)
ended_some (c ∷ cs) ws h = refl

word_then : (w xs : List ℕ) → AllByRecursion Plain w → 0 < length w → words_of (uncommented (w ++ (32 ∷ xs))) ≡ w ∷ words_of (uncommented xs)
word_then w xs h some =
    ap words_of (plain_uncommented w (32 ∷ xs) h) ∙ plain_words [] w (32 ∷ uncommented xs) h ∙ ended_some w (words_of (uncommented xs)) some

pub numbers_return : NumbersReturn
numbers_return depth item value h k l =
    let d = writes depth (omega arith) in
    let i = writes item (omega arith) in
    let v = signed_plain value l in
    ap sets_by (
    word_then (decimal depth) (decimal item ++ (32 ∷ signed_decimal value)) d.plain d.some
    ∙ ap (λ ws. decimal depth ∷ ws) (word_then (decimal item) (signed_decimal value) i.plain i.some)
    ∙ ap (λ ws. decimal depth ∷ decimal item ∷ ws) (last_word (signed_decimal value) v.0 ∙ ended_some (signed_decimal value) [] v.1))
    ∙ ap (λ o. sets_all o (number_of (decimal item)) (signed_of (signed_decimal value))) (number_back depth (decimal depth) d h)
    ∙ ap (λ o. sets_all (Some depth) o (signed_of (signed_decimal value))) (number_back item (decimal item) i k)
    ∙ ap (sets_all (Some depth) (Some item)) (signed_back value l)

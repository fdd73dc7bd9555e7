-- How the words of a text come one by one.
use Rattle.std.proofs.Common.{◌≡◌, ℕ, ◌+◌, ◌-◌, ◌<◌, ◌≤◌, Bool, true, false, not, cond, eqb, List, [], ◌∷◌, ◌++◌, length, get_or, take, drop, Some, None, Option, position, sym, refl, ap, ◌∙◌, ⊎_elim, append_assoc, append-nil, arith, one-add}
use Rattle.std.specs.Option.{unwrap_or}
use Rattle.std.specs.List.{position_or_len}
use Rattle.std.proofs.lemmas.List.{drop_all, take_rest}
use Rattle.std.proofs.lemmas.List.Sums.{take_while-cons, prefix_len-le-length}
use Rattle.std.proofs.lemmas.List.Quantifiers.{position-Some}
use Rattle.std.proofs.lemmas.Grind.{common_steps}
use Rattle.std.proofs.lemmas.Bool.{not-true, cases_Bool, cond-true, cond-false}
use Rattle.script.specs.Words.{uncommented, blank, ended, words_after, words_of}

-- the place of the first byte that passes, or the end
pub first_or_end : (p : ℕ → Bool) (xs : List ℕ) (found : Option ℕ) (n : ℕ) → found ≡ position p xs → n ≡ unwrap_or found (length xs) → n ≡ position_or_len p xs
first_or_end p xs found n e f = grind (arith, prefix_len-le-length {X = ℕ})

pub comment_cut : (xs : List ℕ) → take (position_or_len (λ c. eqb c 35) xs) xs ≡ uncommented xs
comment_cut [] = refl
comment_cut (c ∷ cs) =
    take_while-cons (λ c. not (eqb c 35)) c cs ∙ rw (comment_cut cs) (elim (eqb c 35) as (λ b. cond (not b) (c ∷ uncommented cs) [] ≡ cond b [] (c ∷ uncommented cs)) [ true ↦ refl | false ↦ refl ])

-- a word in front, and then those behind it
words_split : (w xs : List ℕ) → words_after w xs ≡ ended (w ++ take (position_or_len blank xs) xs) (words_of (drop (position_or_len blank xs) xs))
words_split w [] = ap (λ l. ended l []) (sym (append-nil w))
words_split w (c ∷ cs) =
    let n = position_or_len blank cs in
    let split : Bool → List (List ℕ) = λ b. let k = cond (not b) (1 + n) 0 in ended (w ++ take k (c ∷ cs)) (words_of (drop k (c ∷ cs))) in
    ⊎_elim
    (λ t. cond-true (blank c) _ _ t ∙ ap (ended w) (sym (cond-true (blank c) _ _ t)) ∙ ap (λ l. ended l (words_of (c ∷ cs))) (sym (append-nil w)) ∙ ap split (sym t))
    (λ f. cond-false (blank c) _ _ f ∙ words_split (w ++ (c ∷ [])) cs ∙ ap (λ l. ended l (words_of (drop n cs))) (append_assoc w (c ∷ []) (take n cs)) ∙ ap (λ k. ended (w ++ take k (c ∷ cs)) (words_of (drop k (c ∷ cs)))) (sym (one-add n)) ∙ ap split (sym f))
    (cases_Bool (blank c))

-- blanks in front hold no word
words_skip : (xs : List ℕ) → words_of xs ≡ words_of (drop (position_or_len (λ c. not (blank c)) xs) xs)
words_skip [] = refl
words_skip (c ∷ cs) =
    let n = position_or_len (λ c. not (blank c)) cs in
    let skip : Bool → List (List ℕ) = λ b. words_of (drop (cond (not (not b)) (1 + n) 0) (c ∷ cs)) in
    ⊎_elim
    (λ t. cond-true (blank c) _ _ t ∙ words_skip cs ∙ ap (λ k. words_of (drop k (c ∷ cs))) (sym (one-add n)) ∙ ap skip (sym t))
    (λ f. ap skip (sym f))
    (cases_Bool (blank c))

pub no_word : (xs : List ℕ) → position (λ c. not (blank c)) xs ≡ None → words_of xs ≡ []
no_word xs e =
    let past : length xs ≤ position_or_len (λ c. not (blank c)) xs = grind (arith) in
    words_skip xs ∙ ap words_of (drop_all _ xs past)

-- the text from a first word on
front_word : (u : List ℕ) → 0 < length u → blank (get_or u 0 0) ≡ false → words_of u ≡ take (position_or_len blank u) u ∷ words_of (drop (position_or_len blank u) u)
front_word [] some bare = absurd (omega arith)
front_word (c ∷ cs) some bare =
    let n = position_or_len blank cs in
    let whole : position_or_len blank (c ∷ cs) ≡ 1 + n = cond-true (not (blank c)) _ _ (ap not bare) in
    words_split [] (c ∷ cs) ∙ rw (whole, one-add) refl

pub next_word : (xs word rest : List ℕ) (start n : ℕ) → position (λ c. not (blank c)) xs ≡ Some start → n ≡ position_or_len blank (take (length xs - start) (drop start xs)) → word ≡ take n (take (length xs - start) (drop start xs)) → rest ≡ drop n (take (length xs - start) (drop start xs)) → words_of xs ≡ word ∷ words_of rest
next_word xs word rest start n found long front back =
    let at = position-Some (λ c. not (blank c)) xs start 0 found in
    let here : start ≡ position_or_len (λ c. not (blank c)) xs = grind arith in
    let first : get_or (drop start xs) 0 0 ≡ get_or xs start 0 = grind (arith, common_steps) in
    let some : 0 < length (drop start xs) = grind (arith, common_steps) in
    let from : take (length xs - start) (drop start xs) ≡ drop start xs = take_rest xs start in
    words_skip xs ∙ ap (λ k. words_of (drop k xs)) (sym here) ∙ front_word (drop start xs) some (ap blank first ∙ not-true _ at.1) ∙ cc

-- Comments and blanks around change nothing.
use Rattle.std.proofs.Common.{◌≡◌, ℕ, true, false, cond, eqb, List, [], ◌∷◌, ◌++◌, refl, ap, ◌∙◌, arith}
use Rattle.std.proofs.lemmas.Bool.{cond-true, cond-false}
use Rattle.std.proofs.lemmas.Bool.Decides.{nat_tests}
use Rattle.script.specs.Words.{uncommented, blank, ended, words_after, words_of}
use Rattle.script.specs.Meanings.{meaning}
use Rattle.script.specs.Laws.{CommentsSkipped, Blanks, BlanksSkipped}

comment_cut : (xs ys : List ℕ) → uncommented (xs ++ (35 ∷ ys)) ≡ uncommented xs
comment_cut [] ys = refl
comment_cut (c ∷ cs) ys = ap (λ l. cond (eqb c 35) [] (c ∷ l)) (comment_cut cs ys)

pub comments_skipped : CommentsSkipped
comments_skipped xs ys = ap (λ l. meaning (words_of l)) (comment_cut xs ys)

blank_stays : (c : ℕ) (xs : List ℕ) → blank c ≡ true → uncommented (c ∷ xs) ≡ c ∷ uncommented xs
blank_stays c xs h =
    let other : eqb c 35 ≡ false = grind (arith, nat_tests) in
    cond-false (eqb c 35) _ _ other

blanks_before : (bs xs : List ℕ) → Blanks bs → words_of (uncommented (bs ++ xs)) ≡ words_of (uncommented xs)
blanks_before [] xs h = refl
blanks_before (b ∷ bs) xs h = ap words_of (blank_stays b (bs ++ xs) h.0) ∙ cond-true (blank b) _ _ h.0 ∙ blanks_before bs xs h.1

blanks_only : (w cs : List ℕ) → Blanks cs → words_after w (uncommented cs) ≡ ended w []
blanks_only w [] h = refl
blanks_only w (c ∷ cs) h = ap (words_after w) (blank_stays c cs h.0) ∙ cond-true (blank c) _ _ h.0 ∙ ap (ended w) (blanks_only [] cs h.1)

blanks_after : (w xs cs : List ℕ) → Blanks cs → words_after w (uncommented (xs ++ cs)) ≡ words_after w (uncommented xs)
blanks_after w [] cs h = blanks_only w cs h
blanks_after w (x ∷ xs) cs h =
    elim (eqb x 35) as (λ b. words_after w (cond b [] (x ∷ uncommented (xs ++ cs))) ≡ words_after w (cond b [] (x ∷ uncommented xs))) [
      | true ↦ refl
      | false ↦ ap (λ l. cond (blank x) (ended w l) (words_after (w ++ (x ∷ [])) (uncommented (xs ++ cs)))) (blanks_after [] xs cs h)
          ∙ ap (λ l. cond (blank x) (ended w (words_of (uncommented xs))) l) (blanks_after (w ++ (x ∷ [])) xs cs h)
    ]

pub blanks_skipped : BlanksSkipped
blanks_skipped bs xs cs h k = ap meaning (blanks_before bs (xs ++ cs) h ∙ blanks_after [] xs cs k)

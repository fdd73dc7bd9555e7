-- One key more, and the table of the log.
use Rattle.std.proofs.Common.{◌≡◌, ℕ, ◌+◌, ◌<◌, true, false, eqb, List, [], ◌∷◌, ◌++◌, length, get_or, take, codes, decimal, sym, refl, ap, ◌∙◌, append_assoc, append-nil}
use Rattle.std.specs.Fmt.{digits}
use Rattle.std.proofs.lemmas.List.{take_more}
use Rattle.sink.proofs.Bools.{clash}
use Rattle.exam_table.specs.Sitting.{the_log}
use Rattle.exam_table.specs.Table.{keys_text, pipes_text, row_text, table_text, right_answers}

text_push : (ks : List ℕ) (k : ℕ) → keys_text (ks ++ (k ∷ [])) ≡ keys_text ks ++ (codes " " ++ decimal k)
text_push [] k = ap (λ t. codes " " ++ t) (append-nil (decimal k))
text_push (j ∷ ks) k =
    ap (λ t. codes " " ++ (decimal j ++ t)) (text_push ks k) ∙ ap (λ t. codes " " ++ t) (sym (append_assoc (decimal j) (keys_text ks) (codes " " ++ decimal k)))

pub text_more : (ks : List ℕ) (i : ℕ) → i < length ks → keys_text (take i ks) ++ (codes " " ++ decimal (get_or ks i 0)) ≡ keys_text (take (i + 1) ks)
text_more ks i h = sym (ap keys_text (take_more ks i 0 h) ∙ text_push (take i ks) (get_or ks i 0))

pub pipes_some : (ks : List ℕ) → eqb (length ks) 0 ≡ false → codes "pipe" ++ keys_text ks ≡ pipes_text ks
pipes_some [] e = clash true refl e
pipes_some (k ∷ ks) e = refl

pub right : table_text the_log ≡ right_answers
unfolding row_text digits
right = refl

-- One line more of a text.
use Rattle.std.proofs.Common.{◌≡◌, ℕ, ◌+◌, ◌<◌, List, [], ◌∷◌, ◌++◌, length, get_or, take, sym, ap, ◌∙◌, append_assoc}
use Rattle.std.proofs.lemmas.List.{take_more}
use Rattle.voice_log.specs.declared.line.Line.{Line}
use Rattle.voice_log.specs.Text.{line_text_of}
use Rattle.playing.specs.Texts.{lines_text}

lines_push : (ls : List Line) (l : Line) → lines_text (ls ++ (l ∷ [])) ≡ lines_text ls ++ (line_text_of l ++ (10 ∷ []))
lines_push [] l = λ i. line_text_of l ++ (10 ∷ [])
lines_push (k ∷ ls) l =
    ap (λ t. line_text_of k ++ (10 ∷ t)) (lines_push ls l) ∙ sym (append_assoc (line_text_of k) (10 ∷ lines_text ls) (line_text_of l ++ (10 ∷ [])))

pub lines_more : (ls : List Line) (i : ℕ) (d : Line) (old new : List ℕ) → i < length ls → old ≡ lines_text (take i ls) → new ≡ old ++ (line_text_of (get_or ls i d) ++ (10 ∷ [])) → new ≡ lines_text (take (i + 1) ls)
lines_more ls i d old new h inv more =
    more ∙ ap (λ t. t ++ (line_text_of (get_or ls i d) ++ (10 ∷ []))) inv ∙ sym (lines_push (take i ls) (get_or ls i d)) ∙ ap lines_text (sym (take_more ls i d h))

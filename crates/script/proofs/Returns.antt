-- What is written as words is read back.
use Rattle.std.proofs.Common.{◌≡◌, ℕ, ◌+◌, ◌*◌, ◌/◌, ◌%◌, ◌<◌, Bool, true, false, eqb, List, [], ◌∷◌, ◌++◌, Some, sym, refl, ap, ◌∙◌, append_assoc, append-nil, arith}
use Rattle.std.specs.List.{AllByRecursion}
use Rattle.std.specs.Fmt.{digit_glyph}
use Rattle.std.proofs.lemmas.Bool.{cond-false}
use Rattle.std.proofs.lemmas.Bool.Decides.{nat_tests}
use Rattle.script.specs.Words.{uncommented, blank, ended, words_after, words_of}
use Rattle.script.specs.Numbers.{hex_digit_of, paired, before, hex_bytes, joined_bytes, all_bytes}
use Rattle.script.specs.Meanings.{feeds_all}
use Rattle.script.specs.Laws.{hex_text, BytesReturn}

-- no blank, and no comment
abbrev pub Plain : ℕ → Type 0
Plain c = (blank c ≡ false) × (eqb c 35 ≡ false)

pub plain_uncommented : (w xs : List ℕ) → AllByRecursion Plain w → uncommented (w ++ xs) ≡ w ++ uncommented xs
plain_uncommented [] xs h = refl
plain_uncommented (c ∷ cs) xs h = cond-false (eqb c 35) _ _ h.0.1 ∙ ap (λ l. c ∷ l) (plain_uncommented cs xs h.1)

pub plain_words : (v w xs : List ℕ) → AllByRecursion Plain w → words_after v (w ++ xs) ≡ words_after (v ++ w) xs
plain_words v [] xs h = ap (λ l. words_after l xs) (sym (append-nil v))
plain_words v (c ∷ cs) xs h =
    cond-false (blank c) _ _ h.0.0 ∙ plain_words (v ++ (c ∷ [])) cs xs h.1 ∙ ap (λ l. words_after l xs) (append_assoc v (c ∷ []) cs)

-- a word with no other behind it
pub last_word : (w : List ℕ) → AllByRecursion Plain w → words_of (uncommented w) ≡ ended w []
last_word w h =
    ap (λ l. words_of (uncommented l)) (sym (append-nil w)) ∙ ap words_of (plain_uncommented w [] h) ∙ plain_words [] w [] h

plain_glyph : (upper : Bool) (d : ℕ) → d < 16 → Plain (digit_glyph upper d)
plain_glyph true d h = (grind (arith, nat_tests), grind (arith, nat_tests))
plain_glyph false d h = (grind (arith, nat_tests), grind (arith, nat_tests))

glyph_back : (upper : Bool) (d : ℕ) → d < 16 → hex_digit_of (digit_glyph upper d) ≡ Some d
glyph_back true d h = grind (arith, nat_tests)
glyph_back false d h = grind (arith, nat_tests)

plain_hex : (upper : Bool) (bs : List ℕ) → AllByRecursion (λ b. b < 256) bs → AllByRecursion Plain (hex_text upper bs)
plain_hex upper [] h = tt
plain_hex upper (b ∷ bs) h =
    let low = h.0 in (plain_glyph upper (b / 16) (omega arith), (plain_glyph upper (b % 16) (omega arith), plain_hex upper bs h.1))

hex_back : (upper : Bool) (bs : List ℕ) → AllByRecursion (λ b. b < 256) bs → hex_bytes (hex_text upper bs) ≡ Some bs
hex_back upper [] h = refl
hex_back upper (b ∷ bs) h =
    let low = h.0 in
    let whole : 16 * (b / 16) + b % 16 ≡ b = omega arith in
    ap (λ o. before (paired o (hex_digit_of (digit_glyph upper (b % 16)))) (hex_bytes (hex_text upper bs))) (glyph_back upper (b / 16) (omega arith))
    ∙ ap (λ o. before (paired (Some (b / 16)) o) (hex_bytes (hex_text upper bs))) (glyph_back upper (b % 16) (omega arith))
    ∙ ap (λ n. before (Some n) (hex_bytes (hex_text upper bs))) whole
    ∙ ap (before (Some b)) (hex_back upper bs h.1)

last_bytes : (w bs : List ℕ) → hex_bytes w ≡ Some bs → all_bytes (ended w []) ≡ Some bs
last_bytes [] bs e = e
last_bytes (c ∷ cs) bs e = ap (λ o. joined_bytes o (Some [])) e ∙ ap Some (append-nil bs)

pub bytes_return : BytesReturn
bytes_return upper bs h =
    ap (λ ws. feeds_all (all_bytes ws)) (last_word (hex_text upper bs) (plain_hex upper bs h)) ∙ ap feeds_all (last_bytes (hex_text upper bs) bs (hex_back upper bs h))

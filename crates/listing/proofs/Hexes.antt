-- One byte more in hexadecimal.
use Rattle.std.proofs.Common.{◌≡◌, ℕ, ◌+◌, ◌/◌, ◌%◌, ◌^◌, ◌-◌, ◌<◌, true, false, List, [], ◌∷◌, ◌++◌, length, get_or, take, refl, ap, sym, ◌∙◌, arith}
use Rattle.std.proofs.lemmas.Fmt.{hex_byte}
use Rattle.std.proofs.lemmas.Grind.{put_two}
use Rattle.std.proofs.lemmas.List.{take_more}
use Rattle.std.proofs.lemmas.Str.{encode_ascii}
use Rattle.std.specs.Fmt.{digit_glyph, digits, format_spec, padded_integral}
use Rattle.listing.specs.Lines.{hex_text}

hex_push : (bs : List ℕ) (b : ℕ) → hex_text (bs ++ (b ∷ [])) ≡ hex_text bs ++ hex_text (b ∷ [])
hex_push [] b = refl
hex_push (x ∷ bs) b = ap (λ l. digit_glyph true (x / 16) ∷ digit_glyph true (x % 16) ∷ l) (hex_push bs b)

-- the text of the bytes so far, and then that of the next
pub hex_next : (bs : List ℕ) (i : ℕ) → i < length bs → hex_text (take i bs) ++ hex_text (get_or bs i 0 ∷ []) ≡ hex_text (take (i + 1) bs)
hex_next bs i within = sym (hex_push (take i bs) (get_or bs i 0)) ∙ ap hex_text (sym (take_more bs i 0 within))

-- the same of what `{:02X}` writes of the next
pub hex_more : (bs : List ℕ) (i : ℕ) → i < length bs → get_or bs i 0 < 256 → hex_text (take i bs) ++ padded_integral (format_spec 32 0 4 2 (2 ^ 64 - 1)) false [] (digits 16 true (get_or bs i 0)) ≡ hex_text (take (i + 1) bs)
hex_more bs i within small = ap (λ l. hex_text (take i bs) ++ l) (hex_byte true (get_or bs i 0) small) ∙ hex_next bs i within

-- a zero and the one digit of a byte below 10h; what `{:02X}` writes of the others is std's `hex_byte`
pub one_digit : (b : ℕ) → b < 16 → (48 ∷ digit_glyph true b ∷ []) ≡ hex_text (b ∷ [])
one_digit b small =
    let high : b / 16 ≡ 0 = omega arith in
    let low : b % 16 ≡ b = omega arith in
    cc (high, low)

pub ruleset hex_steps = (put_two, hex_next)

pub ruleset hex_digits = (put_two, one_digit, hex_byte, encode_ascii)

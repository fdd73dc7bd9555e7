-- The laws of a script's lines.
use Rattle.std.specs.Prelude.{◌≡◌, ℕ, ◌/◌, ◌%◌, ◌^◌, ◌<◌, Bool, true, List, [], ◌∷◌, ◌++◌, ℤ, negsuc, codes, decimal}
use Rattle.std.specs.Int.Signed.{mag}
use Rattle.std.specs.List.{AllByRecursion}
use Rattle.std.specs.Fmt.{signed_decimal, digit_glyph}
use Rattle.script.specs.Words.{blank}
use Rattle.script.specs.Meanings.{feeds, sets, meant}

abbrev pub CommentsSkipped : Type 0
CommentsSkipped = (xs ys : List ℕ) → meant (xs ++ (35 ∷ ys)) ≡ meant xs

abbrev pub Blanks : List ℕ → Type 0
Blanks cs = AllByRecursion (λ c. blank c ≡ true) cs

abbrev pub BlanksSkipped : Type 0
BlanksSkipped = (bs xs cs : List ℕ) → Blanks bs → Blanks cs → meant (bs ++ (xs ++ cs)) ≡ meant xs

-- bytes in hexadecimal, two digits each
abbrev pub hex_text : Bool → List ℕ → List ℕ
hex_text upper [] = []
hex_text upper (b ∷ bs) = digit_glyph upper (b / 16) ∷ digit_glyph upper (b % 16) ∷ hex_text upper bs

-- bytes that are written in hexadecimal, in either case, are read back
abbrev pub BytesReturn : Type 0
BytesReturn = (upper : Bool) (bs : List ℕ) → AllByRecursion (λ b. b < 256) bs → meant (codes "feed " ++ hex_text upper bs) ≡ feeds bs

-- numbers that are written in decimal are read back; mag is n at n and at - (n + 1)
abbrev pub NumbersReturn : Type 0
NumbersReturn =
    (depth item : ℕ) (value : ℤ)
    → depth < 2 ^ 32
    → item < 2 ^ 32
    → mag value < 2 ^ 31
    → meant (codes "set " ++ (decimal depth ++ (32 ∷ (decimal item ++ (32 ∷ signed_decimal value))))) ≡ sets depth item value

-- the bytes of a feed may stand apart or together
abbrev pub Examples : Type 0
Examples =
    (meant (codes "feed 90 3C 64") ≡ feeds (0x90 ∷ 0x3C ∷ 0x64 ∷ []))
    × (meant (codes " feed 903c64 # a note") ≡ feeds (0x90 ∷ 0x3C ∷ 0x64 ∷ []))
    × (meant (codes "set 1 20 -3") ≡ sets 1 20 (negsuc 2))

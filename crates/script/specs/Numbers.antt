-- What a word means as a number or as bytes.
use Rattle.std.specs.Prelude.{◌≡◌, ℕ, ◌+◌, ◌-◌, ◌*◌, ◌^◌, Bool, cond, ◌&&◌, List, [], ◌∷◌, ◌++◌, ℤ, pos, neg_ℤ, Some, None, Ok, Err, Option, Result, ◌==◌, nat_le, nat_lt}
use Rattle.script.specs.declared.unread.Unread.{Unread}
use Rattle.script.specs.declared.unread.Unread.TheVariants as u

abbrev pub among : ℕ → ℕ → ℕ → Bool
among low high c = nat_le low c && nat_le c high

abbrev pub decimal_digit : ℕ → Option ℕ
decimal_digit c = cond (among 48 57 c) (Some (c - 48)) None

-- either case of the letters
abbrev pub hex_digit_of : ℕ → Option ℕ
hex_digit_of c =
    cond (among 48 57 c) (Some (c - 48)) (
    cond (among 65 70 c) (Some (c - 55)) (
    cond (among 97 102 c) (Some (c - 87)) None))

abbrev pub paired : Option ℕ → Option ℕ → Option ℕ
paired None l = None
paired (Some h) None = None
paired (Some h) (Some l) = Some (16 * h + l)

abbrev pub before : Option ℕ → Option (List ℕ) → Option (List ℕ)
before None bs = None
before (Some b) None = None
before (Some b) (Some bs) = Some (b ∷ bs)

-- two digits a byte
abbrev pub hex_bytes : List ℕ → Option (List ℕ)
hex_bytes [] = Some []
hex_bytes (h ∷ []) = None
hex_bytes (h ∷ l ∷ cs) = before (paired (hex_digit_of h) (hex_digit_of l)) (hex_bytes cs)

-- a word that is read puts its bytes behind those that stood there; without memory it tells nothing
abbrev pub Adds : Result (Unit {0}) Unread → List ℕ → Option (List ℕ) → List ℕ → Type 0
Adds (Ok x) xs None ys = ⊥
Adds (Ok x) xs (Some bs) ys = ys ≡ xs ++ bs
Adds (Err u.Unreadable) xs None ys = Unit {0}
Adds (Err u.Unreadable) xs (Some bs) ys = ⊥
Adds (Err (u.Memory e)) xs bs ys = Unit {0}

abbrev pub joined_bytes : Option (List ℕ) → Option (List ℕ) → Option (List ℕ)
joined_bytes None cs = None
joined_bytes (Some bs) None = None
joined_bytes (Some bs) (Some cs) = Some (bs ++ cs)

-- the bytes of all words
abbrev pub all_bytes : List (List ℕ) → Option (List ℕ)
all_bytes [] = Some []
all_bytes (w ∷ ws) = joined_bytes (hex_bytes w) (all_bytes ws)

-- a number read on with one digit more
abbrev pub with_digit_of : (ℕ → Option ℕ) → ℕ → Option ℕ → Option ℕ
with_digit_of on n None = None
with_digit_of on n (Some d) = on (n * 10 + d)

-- the number of decimal digits behind those that are read
abbrev pub number_after : List ℕ → ℕ → Option ℕ
number_after [] n = Some n
number_after (c ∷ cs) n = with_digit_of (number_after cs) n (decimal_digit c)

-- a number below a limit
abbrev pub under : ℕ → Option ℕ → Option ℕ
under k None = None
under k (Some n) = cond (nat_lt n k) (Some n) None

-- one digit or more, below 2 ^ 32
abbrev pub number_of : List ℕ → Option ℕ
number_of [] = None
number_of (c ∷ cs) = under (2 ^ 32) (number_after (c ∷ cs) 0)

abbrev pub positive : Option ℕ → Option ℤ
positive None = None
positive (Some n) = cond (nat_lt n (2 ^ 31)) (Some (pos n)) None

abbrev pub negative : Option ℕ → Option ℤ
negative None = None
negative (Some n) = cond (nat_le n (2 ^ 31)) (Some (neg_ℤ (pos n))) None

-- with a minus before, or without
abbrev pub signed_of : List ℕ → Option ℤ
signed_of [] = None
signed_of (c ∷ cs) = cond (c == 45) (negative (number_of cs)) (positive (number_of (c ∷ cs)))

-- How bytes are read from a word, two digits at a time.
use Rattle.std.proofs.Common.{◌≡◌, ℕ, ◌+◌, ◌*◌, ◌/◌, ◌<◌, ◌≤◌, zero, suc, List, [], ◌∷◌, ◌++◌, length, get_or, take, drop, Some, None, Ok, Err, Option, sym, refl, ap, ◌∙◌, append_assoc, append-nil, length-drop, arith}
use Rattle.std.specs.Option.{ok_or}
use Rattle.std.specs.Simd.{first_chunks}
use Rattle.std.proofs.lemmas.List.{drop-drop}
use Rattle.script.specs.declared.unread.Unread.{Unread}
use Rattle.script.specs.declared.unread.Unread.TheVariants.{Unreadable}
use Rattle.script.specs.Numbers.{hex_digit_of, paired, before, hex_bytes, joined_bytes, Adds}

-- the byte of the first two digits
abbrev pub first_byte : List ℕ → Option ℕ
first_byte w = paired (hex_digit_of (get_or w 0 0)) (hex_digit_of (get_or w 1 0))

pair_at : (k i : ℕ) (w : List ℕ) → i < k → get_or (first_chunks 2 k w) i [] ≡ take 2 (drop (i * 2) w)
pair_at zero i w h = absurd (omega arith)
pair_at (suc k) zero w h = refl
pair_at (suc k) (suc i) w h = pair_at k i (drop 2 w) (omega arith) ∙ ap (take 2) (drop-drop (i * 2) 2 w ∙ ap (λ n. drop n w) (omega arith))

hex_step : (w : List ℕ) → 2 ≤ length w → hex_bytes w ≡ before (first_byte (take 2 w)) (hex_bytes (drop 2 w))
hex_step [] some = absurd (omega arith)
hex_step (h ∷ []) some = absurd (omega arith)
hex_step (h ∷ l ∷ cs) some = refl

-- what is still to be read of a word: the pair at i, and what follows
hex_at : (w : List ℕ) (pairs : List (List ℕ)) (i : ℕ) → pairs ≡ first_chunks 2 (length w / 2) w → length pairs ≡ length w / 2 → i < length pairs → hex_bytes (drop (i * 2) w) ≡ before (first_byte (get_or pairs i [])) (hex_bytes (drop ((i + 1) * 2) w))
hex_at w pairs i front long h =
    let some : 2 ≤ length (drop (i * 2) w) = omega (arith, length-drop {A = ℕ}) in
    hex_step (drop (i * 2) w) some
    ∙ ap (λ p. before (first_byte p) (hex_bytes (drop 2 (drop (i * 2) w)))) (sym (ap (λ l. get_or l i []) front ∙ pair_at (length w / 2) i w (omega arith)))
    ∙ ap (λ l. before (first_byte (get_or pairs i [])) (hex_bytes l)) (drop-drop 2 (i * 2) w ∙ ap (λ n. drop n w) (omega arith))

put_on : (xs : List ℕ) (b : ℕ) (bs : Option (List ℕ)) → joined_bytes (Some (xs ++ (b ∷ []))) bs ≡ joined_bytes (Some xs) (before (Some b) bs)
put_on xs b None = refl
put_on xs b (Some bs) = ap Some (append_assoc xs (b ∷ []) bs)

pub byte_more : (w : List ℕ) (pairs : List (List ℕ)) (xs ys : List ℕ) (i b : ℕ) (all : Option (List ℕ)) → pairs ≡ first_chunks 2 (length w / 2) w → length pairs ≡ length w / 2 → i < length pairs → first_byte (get_or pairs i []) ≡ Some b → ys ≡ xs ++ (b ∷ []) → joined_bytes (Some xs) (hex_bytes (drop (i * 2) w)) ≡ all → joined_bytes (Some ys) (hex_bytes (drop ((i + 1) * 2) w)) ≡ all
byte_more w pairs xs ys i b all front long h some put sofar =
    let rest = hex_bytes (drop ((i + 1) * 2) w) in
    ap (λ l. joined_bytes (Some l) rest) put ∙ put_on xs b rest ∙ ap (λ o. joined_bytes (Some xs) (before o rest)) (sym some) ∙ ap (joined_bytes (Some xs)) (sym (hex_at w pairs i front long h)) ∙ sofar

refused : (xs ys : List ℕ) (o : Option (List ℕ)) → None ≡ joined_bytes (Some xs) o → Adds (Err Unreadable) xs o ys
refused xs ys None e = tt
refused xs ys (Some bs) e = cc

taken : (xs ys : List ℕ) (o : Option (List ℕ)) → Some ys ≡ joined_bytes (Some xs) o → Adds (Ok tt) xs o ys
taken xs ys None e = cc
taken xs ys (Some bs) e = cc

pub no_byte : (w : List ℕ) (pairs : List (List ℕ)) (xs ys zs : List ℕ) (i : ℕ) (o : Option (List ℕ)) → pairs ≡ first_chunks 2 (length w / 2) w → length pairs ≡ length w / 2 → i < length pairs → first_byte (get_or pairs i []) ≡ None → joined_bytes (Some xs) (hex_bytes (drop (i * 2) w)) ≡ joined_bytes (Some ys) o → Adds (Err Unreadable) ys o zs
no_byte w pairs xs ys zs i o front long h none sofar =
    refused ys zs o (ap (λ b. joined_bytes (Some xs) (before b (hex_bytes (drop ((i + 1) * 2) w)))) (sym none) ∙ ap (joined_bytes (Some xs)) (sym (hex_at w pairs i front long h)) ∙ sofar)

pub all_read : (xs ys rest : List ℕ) (o : Option (List ℕ)) → length rest ≡ 0 → joined_bytes (Some xs) (hex_bytes rest) ≡ joined_bytes (Some ys) o → Adds (Ok tt) ys o xs
all_read xs ys [] o none sofar = taken ys xs o (ap Some (sym (append-nil xs)) ∙ sofar)
all_read xs ys (c ∷ cs) o none sofar = absurd (omega arith)

pub one_left : (xs ys zs rest : List ℕ) (o : Option (List ℕ)) → length rest ≡ 1 → joined_bytes (Some xs) (hex_bytes rest) ≡ joined_bytes (Some ys) o → Adds (Err Unreadable) ys o zs
one_left xs ys zs [] o one sofar = absurd (omega arith)
one_left xs ys zs (c ∷ []) o one sofar = refused ys zs o sofar
one_left xs ys zs (c ∷ d ∷ cs) o one sofar = absurd (omega arith)

-- an option that gave no value
pub unreadable_from_none : (o : Option ℕ) (e : Unread) → Err e ≡ ok_or o Unreadable → (o ≡ None) × (e ≡ Unreadable)
unreadable_from_none o e h = grind arith

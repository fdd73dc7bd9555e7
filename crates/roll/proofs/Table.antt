-- What the roll's functions need of lists of notes.
use Rattle.std.proofs.Common.{◌≡◌, ℕ, ◌+◌, ◌<◌, Bool, cond, not, eqb, List, [], ◌∷◌, ◌++◌, length, get_or, take, drop, filter, position, Some, unwrap_or, option_map, sym, refl, ap, ◌∙◌, arith, one-add, length-take, get_or-take}
use Rattle.std.specs.List.{find, position_or_len}
use lib.Seq.{take-set-lt}
use Rattle.std.proofs.lemmas.Bool.Decides.{nat_tests}
use Rattle.std.proofs.lemmas.List.{set_past, drop_more}
use Rattle.std.proofs.lemmas.List.Elements.{filter_more}
use Rattle.std.proofs.lemmas.List.Folds.{find_at}
use Rattle.std.proofs.lemmas.Option.{slice_get-get_or, slice_get_past}
use Rattle.roll.specs.declared.note.Note.{Note}
use Rattle.roll.specs.Notes.{found, marked, mark_kept, marked_at, blank, left_out}

found_first : (u : ℕ) (ns : List Note) → found u ns ≡ find (λ n. eqb n.ticket u) ns
unfolding found
found_first u [] = refl
found_first u (n ∷ ns) = ap (λ o. cond (eqb n.ticket u) (Some n) o) (found_first u ns)

marked_first : (u : ℕ) (ns : List Note) → marked u ns ≡ marked_at (position_or_len (λ n. eqb n.ticket u) ns) ns
unfolding marked
marked_first u [] = refl
marked_first u (n ∷ ns) = grind (arith, nat_tests, one-add, marked_first u ns)

-- the first note of a ticket in the places in use is the one that is found and marked
module _ (u : ℕ) (ns : List Note) (c : ℕ) where
  abbrev has : Note → Bool
  has n = eqb n.ticket u

  abbrev used : List Note
  used = take c ns

  abbrev i : ℕ
  i = position_or_len has used

  pub found_place : found u used ≡ option_map (λ k. get_or ns k blank) (position has used)
  found_place =
      grind (arith, nat_tests, length-take c ns, found_first u used, find_at has used, slice_get-get_or used i blank, slice_get_past used i, get_or-take c ns i blank)

  pub marked_place : marked u used ≡ unwrap_or (option_map (λ k. take c (marked_at k ns)) (position has used)) used
  marked_place =
      grind (arith, nat_tests, length-take c ns, marked_first u used, get_or-take c ns i blank, take-set-lt c ns i (mark_kept (get_or ns i blank)), set_past used i (mark_kept (get_or used i blank)))

-- the notes that stay are those that are not meant
pub left_filter : (p : Note → Bool) (ns : List Note) → left_out p ns ≡ filter (λ n. not (p n)) ns
unfolding left_out
left_filter p [] = refl
left_filter p (n ∷ ns) = grind (arith, nat_tests, left_filter p ns)

pub left_more : (p : Note → Bool) (ns : List Note) (i : ℕ) (d : Note) → i < length ns → left_out p (take (i + 1) ns) ≡ left_out p (take i ns) ++ cond (p (get_or ns i d)) [] (get_or ns i d ∷ [])
left_more p ns i d h = grind (arith, nat_tests, left_filter, filter_more (λ n. not (p n)) ns i d h)

-- where two tables agree from a place on: they agree behind it, and one note more
module _ (p : Note → Bool) (ns xs : List Note) (i : ℕ) (there : i < length xs) (here : i < length ns) (rest : drop i xs ≡ drop i ns) where
  both : (get_or xs i blank ∷ drop (i + 1) xs) ≡ (get_or ns i blank ∷ drop (i + 1) ns)
  both = sym (drop_more xs i blank there) ∙ rest ∙ drop_more ns i blank here

  pub rest_next : drop (i + 1) xs ≡ drop (i + 1) ns
  rest_next = ap (drop 1) both

  pub left_next : (b : Bool) → b ≡ p (get_or xs i blank) → left_out p (take (i + 1) ns) ≡ left_out p (take i ns) ++ cond b [] (get_or xs i blank ∷ [])
  left_next b e =
      left_more p ns i blank here
      ∙ ap (λ n. left_out p (take i ns) ++ cond (p n) [] (n ∷ [])) (sym (ap (λ l. get_or l 0 blank) both))
      ∙ ap (λ c. left_out p (take i ns) ++ cond c [] (get_or xs i blank ∷ [])) (sym e)

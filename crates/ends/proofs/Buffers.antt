-- What is written after one more write.
use Rattle.std.proofs.Common.{◌≡◌, ℕ, ◌+◌, ◌≤◌, List, [], ◌∷◌, ◌++◌, length, take, drop, vec_items, sym, ap, ap₂, ◌∙◌, append_assoc, arith, length-append, length-set, length-take-le}
use Rattle.std.proofs.lemmas.List.{take_at, drop_at, drop-drop, take-append-drop, take_more_set}
use Rattle.ends.specs.Buffers.{front, written_at, Pushed, Appended}
use Rattle.ends.specs.declared.buffer.Buffer.{Buffer}

module _ {T : Type 0} where
  -- what stands at the front then
  pub front_written : (i : ℕ) (ys xs : List T) → i ≤ length xs → take (i + length ys) (written_at i ys xs) ≡ take i xs ++ ys
  front_written i ys xs h =
      ap (take (i + length ys)) (sym (append_assoc (take i xs) ys (drop (i + length ys) xs)))
      ∙ take_at (take i xs ++ ys) (drop (i + length ys) xs) (i + length ys) (let e = length-take-le i xs h in simp length-append (omega arith))

  rest_written : (i : ℕ) (ys xs : List T) (n : ℕ) → i ≤ length xs → drop ((i + length ys) + n) (written_at i ys xs) ≡ drop ((i + length ys) + n) xs
  rest_written i ys xs n h =
      sym (drop-drop n (i + length ys) (written_at i ys xs))
      ∙ ap (drop n) (ap (drop (i + length ys)) (sym (append_assoc (take i xs) ys (drop (i + length ys) xs))) ∙ drop_at (take i xs ++ ys) (drop (i + length ys) xs) (i + length ys) (let e = length-take-le i xs h in simp length-append (omega arith)))
      ∙ drop-drop n (i + length ys) xs

  -- items and then more items
  pub more_written : (i : ℕ) (ys zs xs : List T) → i ≤ length xs → written_at (i + length ys) zs (written_at i ys xs) ≡ written_at i (ys ++ zs) xs
  more_written i ys zs xs h =
      ap₂ (λ f r. f ++ (zs ++ r)) (front_written i ys xs h) (rest_written i ys xs (length zs) h)
      ∙ append_assoc (take i xs) ys (zs ++ drop ((i + length ys) + length zs) xs)
      ∙ ap (λ r. take i xs ++ r) (sym (append_assoc ys zs (drop ((i + length ys) + length zs) xs)))
      ∙ ap (λ n. take i xs ++ ((ys ++ zs) ++ drop n xs)) (simp length-append (omega arith))

  pub within : (b : Buffer T) → b.written ≤ length (vec_items b.items)
  within b = let r = b.used in let q = b.there in let v = b.items.ok.0 in omega arith

  -- what is written is what was written and then the new
  pub pushed_front : (x : T) (b c : Buffer T) → Pushed x b c → front c ≡ front b ++ (x ∷ [])
  pushed_front x b c w =
      let e : length (vec_items c.items) ≡ length (vec_items b.items) = ap length w.items ∙ length-set (vec_items b.items) b.written x in
      let n = w.written in
      let v = within c in
      ap₂ take w.written w.items ∙ take_more_set (vec_items b.items) b.written x (omega arith)

  pub appended_front : (ys : List T) (b c : Buffer T) → Appended ys b c → front c ≡ front b ++ ys
  appended_front ys b c w = ap₂ take w.written w.items ∙ front_written b.written ys (vec_items b.items) (within b)

  pub appended_none : (b c : Buffer T) → c ≡ b → Appended [] b c
  appended_none b c e = record {
    items = ap (λ x. vec_items x.items) e ∙ sym (ap (λ n. take b.written (vec_items b.items) ++ drop n (vec_items b.items)) (omega arith) ∙ take-append-drop b.written (vec_items b.items));
    written = ap (λ x. x.written) e ∙ omega arith;
    room = ap (λ x. x.room) e;
  }

  pub appended_more : (ys zs : List T) (b m c : Buffer T) → Appended ys b m → Appended zs m c → Appended (ys ++ zs) b c
  appended_more ys zs b m c w z = record {
    items = z.items ∙ ap₂ (λ n xs. written_at n zs xs) w.written w.items ∙ more_written b.written ys zs (vec_items b.items) (within b);
    written = z.written ∙ ap (λ n. n + length zs) w.written ∙ simp length-append (omega arith);
    room = z.room ∙ w.room;
  }

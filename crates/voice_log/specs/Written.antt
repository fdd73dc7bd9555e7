-- One line more.
use Rattle.std.specs.Prelude.{◌≡◌, ℕ, ◌+◌, ◌<◌, ◌≤◌, Bool, true, false, not, ◌&&◌, List, [], ◌∷◌, ◌++◌, length, take, replicate, Some, None, vec_items, Option, ◌==◌, ◌≢◌, nat_le, nat_lt, slice_set, refl}
use Rattle.std.proofs.Common.{sym, ap, ap₂, subst, ◌∙◌, arith, ne_eqb, leb-true, leb-false, le-ltb, length-append, length-take-le}
use Rattle.std.proofs.lemmas.List.{take_more_set, take_all, take-append-le}
use Rattle.std.proofs.lemmas.Bool.Decides.{nat_tests}
use Rattle.roll.specs.Voices.{one, voice, passes}
use Rattle.roll.proofs.Tallies.{one_le, at_some, with_set, with_gone, with_none}
use Rattle.ends.specs.Buffers.{front, Pushed}
use Rattle.ends.specs.declared.buffer.Buffer.{Buffer}
use Rattle.ends.proofs.Buffers.{within, pushed_front}
use Rattle.voice_log.specs.Lines.{is_begun, begun_count, begins, stops, Clean}
use Rattle.voice_log.specs.Serials.{speaking, Told}
use Rattle.voice_log.specs.declared.line.Kind.TheVariants.{Begun}
use Rattle.voice_log.specs.declared.line.Line.{Line}

pub begun_count_snoc : (ls : List Line) (l : Line) → begun_count (ls ++ (l ∷ [])) ≡ begun_count ls + one (is_begun l.kind)
unfolding begun_count
begun_count_snoc [] l = omega arith
begun_count_snoc (k ∷ ls) l = let e = begun_count_snoc ls l in omega arith

pub begins_snoc : (n : ℕ) (ls : List Line) (l : Line) → begins n (ls ++ (l ∷ [])) ≡ begins n ls + one (is_begun l.kind && l.serial == n)
unfolding begins
begins_snoc n [] l = omega arith
begins_snoc n (k ∷ ls) l = let e = begins_snoc n ls l in omega arith

pub stops_snoc : (n : ℕ) (ls : List Line) (l : Line) → stops n (ls ++ (l ∷ [])) ≡ stops n ls + one (not (is_begun l.kind) && l.serial == n)
unfolding stops
stops_snoc n [] l = omega arith
stops_snoc n (k ∷ ls) l = let e = stops_snoc n ls l in omega arith

begun_count_le : (ls : List Line) → begun_count ls ≤ length ls
unfolding begun_count
begun_count_le [] = omega arith
begun_count_le (l ∷ ls) = let e = begun_count_le ls in let o = one_le (is_begun l.kind) in omega arith

-- there are no more begun lines than lines
pub begun_within : (items : List Line) (w : ℕ) → w ≤ length items → begun_count (take w items) ≤ w
begun_within items w h = let e = length-take-le w items h in let b = begun_count_le (take w items) in omega arith

pub begun_next : (items : List Line) (w : ℕ) (l : Line) → w < length items → begun_count (take (w + 1) (slice_set items w l)) ≡ begun_count (take w items) + one (is_begun l.kind)
begun_next items w l h = ap begun_count (take_more_set items w l h) ∙ begun_count_snoc (take w items) l

-- the same of what is written to a buffer
pub front_within : (b : Buffer Line) → begun_count (front b) ≤ b.written
front_within b = begun_within (vec_items b.items) b.written (within b)

pub front_next : (l : Line) (b c : Buffer Line) → Pushed l b c → begun_count (front c) ≡ begun_count (front b) + one (is_begun l.kind)
front_next l b c w = ap begun_count (pushed_front l b c w) ∙ begun_count_snoc (front b) l

clean_part : (ls : List Line) (l : Line) (k n : ℕ) (b : Bool) → nat_le k (length ls) ≡ b → Clean ls → (begins n (ls ++ (l ∷ [])) ≤ 1) × (stops n (ls ++ (l ∷ [])) ≤ begins n (ls ++ (l ∷ []))) → (begins n (take k (ls ++ (l ∷ []))) ≤ 1) × (stops n (take k (ls ++ (l ∷ []))) ≤ begins n (take k (ls ++ (l ∷ []))))
clean_part ls l k n true e c h = let le : k ≤ length ls = leb-true k (length ls) e in subst (λ r. (begins n r ≤ 1) × (stops n r ≤ begins n r)) (sym (take-append-le k ls (l ∷ []) le)) (c k n)
clean_part ls l k n false e c h =
    let lt : length ls < k = leb-false k (length ls) e in
    let le : length (ls ++ (l ∷ [])) ≤ k = simp length-append (omega arith) in
    subst (λ r. (begins n r ≤ 1) × (stops n r ≤ begins n r)) (sym (take_all k (ls ++ (l ∷ [])) le)) h

-- the lines stay clean, since each has at most its one begun line and its one stop
told_more : (ls : List Line) (l : Line) (xs : List (Option ℕ)) → Clean ls → ((n : ℕ) → stops n (ls ++ (l ∷ [])) + speaking n xs ≡ begins n (ls ++ (l ∷ []))) → ((n : ℕ) → begins n (ls ++ (l ∷ [])) ≡ one (nat_lt n (begun_count (ls ++ (l ∷ []))))) → Told (ls ++ (l ∷ [])) xs
told_more ls l xs c p q = record {
  clean = λ k n. clean_part ls l k n (nat_le k (length ls)) refl c (let a = p n in let b = q n in let o = one_le (nat_lt n (begun_count (ls ++ (l ∷ [])))) in (omega arith, omega arith));
  paired = p;
  numbered = q;
}

next_serial : (n b : ℕ) → one (nat_lt n b) + one (b == n) ≡ one (nat_lt n (b + 1))
next_serial n b = grind (arith, nat_tests)

module _ (ls : List Line) (l : Line) (xs : List (Option ℕ)) (told : Told ls xs) where
  -- a begun line with the next serial, and its ticket, silent before, sounds
  pub told_begun : (i : ℕ) → l.kind ≡ Begun → l.serial ≡ begun_count ls → i < length xs → voice xs i ≡ None → Told (ls ++ (l ∷ [])) (slice_set xs i (Some (begun_count ls)))
  told_begun i kind serial h silent = told_more ls l (slice_set xs i (Some (begun_count ls))) told.clean pairs numbers
    where
      one_more : (n : ℕ) → begins n (ls ++ (l ∷ [])) ≡ begins n ls + one (begun_count ls == n)
      one_more n = begins_snoc n ls l ∙ ap (λ b. begins n ls + one b) (ap₂ (λ k m. is_begun k && m == n) kind serial)

      pairs : (n : ℕ) → stops n (ls ++ (l ∷ [])) + speaking n (slice_set xs i (Some (begun_count ls))) ≡ begins n (ls ++ (l ∷ []))
      pairs n =
          let a = stops_snoc n ls l in
          let z : one (not (is_begun l.kind) && l.serial == n) ≡ 0 = ap (λ k. one (not (is_begun k) && l.serial == n)) kind in
          let s = with_set (λ m. m == n) xs i (Some (begun_count ls)) h in
          let o : one (passes (λ m. m == n) (voice xs i)) ≡ 0 = ap (λ x. one (passes (λ m. m == n) x)) silent in
          let m = one_more n in
          let p = told.paired n in
          omega arith

      numbers : (n : ℕ) → begins n (ls ++ (l ∷ [])) ≡ one (nat_lt n (begun_count (ls ++ (l ∷ []))))
      numbers n =
          one_more n ∙ ap (λ x. x + one (begun_count ls == n)) (told.numbered n) ∙ next_serial n (begun_count ls)
          ∙ ap (λ b. one (nat_lt n b)) (sym (begun_count_snoc ls l ∙ ap (λ k. begun_count ls + one (is_begun k)) kind))

  -- a stop line with the serial of a ticket that sounds, which falls silent
  pub told_stopped : (i m : ℕ) → is_begun l.kind ≡ false → l.serial ≡ m → voice xs i ≡ Some m → Told (ls ++ (l ∷ [])) (slice_set xs i None)
  told_stopped i m kind serial sounds = told_more ls l (slice_set xs i None) told.clean pairs numbers
    where
      as_many : (n : ℕ) → begins n (ls ++ (l ∷ [])) ≡ begins n ls
      as_many n = let a = begins_snoc n ls l in let z : one (is_begun l.kind && l.serial == n) ≡ 0 = ap (λ k. one (k && l.serial == n)) kind in omega arith

      pairs : (n : ℕ) → stops n (ls ++ (l ∷ [])) + speaking n (slice_set xs i None) ≡ begins n (ls ++ (l ∷ []))
      pairs n =
          let a = stops_snoc n ls l in
          let z : one (not (is_begun l.kind) && l.serial == n) ≡ one (m == n) = ap₂ (λ k j. one (not k && j == n)) kind serial in
          let s = with_set (λ m. m == n) xs i None (at_some xs i m sounds) in
          let o : one (passes (λ m. m == n) (voice xs i)) ≡ one (m == n) = ap (λ x. one (passes (λ m. m == n) x)) sounds in
          let b = as_many n in
          let p = told.paired n in
          omega arith

      numbers : (n : ℕ) → begins n (ls ++ (l ∷ [])) ≡ one (nat_lt n (begun_count (ls ++ (l ∷ []))))
      numbers n =
          let c = begun_count_snoc ls l in
          let z : one (is_begun l.kind) ≡ 0 = ap one kind in
          let e : begun_count (ls ++ (l ∷ [])) ≡ begun_count ls = omega arith in
          as_many n ∙ told.numbered n ∙ ap (λ b. one (nat_lt n b)) (sym e)

-- a begun line whose ticket sounds no more has exactly one stop
pub told_stop : (ls : List Line) (xs : List (Option ℕ)) → Told ls xs → (n : ℕ) → 1 ≤ begins n ls → ((u : ℕ) → voice xs u ≢ Some n) → stops n ls ≡ 1
told_stop ls xs told n h gone =
    let p = told.paired n in
    let s = with_gone (λ m. m == n) xs (λ u m e. ne_eqb m n (λ q. gone u (e ∙ ap Some q))) in
    let q = told.numbered n in
    let o = one_le (nat_lt n (begun_count ls)) in
    omega arith

pub told_none : (k : ℕ) → Told [] (replicate k None)
unfolding begins stops begun_count
told_none k = record {
  clean = λ j n. empty j n;
  paired = λ n. let e = with_none (λ m. m == n) k in omega arith;
  numbered = λ n. ap one (sym (le-ltb n 0 (omega arith)));
}
  where
    empty : (j n : ℕ) → (begins n (take j []) ≤ 1) × (stops n (take j []) ≤ begins n (take j []))
    empty j n = subst (λ ls. (begins n ls ≤ 1) × (stops n ls ≤ begins n ls)) (sym (take_all j [] (omega arith))) (omega arith, omega arith)

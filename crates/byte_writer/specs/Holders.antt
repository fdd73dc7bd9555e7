-- The least ticket that sounds with a voice that passes a test.
use Rattle.std.specs.Prelude.{◌≡◌, ℕ, zero, suc, ◌+◌, ◌<◌, ◌≤◌, Bool, true, false, cond, List, [], ◌∷◌, length, Some, None, Option, MatchOption}
use Rattle.std.proofs.Math.Path.{refl, ap}
use Rattle.std.proofs.Common.{sym, subst, ◌∙◌}
use native.Mathlib.Omega.{arith}
use Rattle.sink.proofs.Bools.{clash}
use Rattle.roll.specs.Voices.{one, voice, passes, sounding_with}
use Rattle.byte_writer.specs.Keys.{one_on, ticket_with}

module _ {V : Type 0} (p : V → Bool) where
  pub first_with : (xs : List (Option V)) (i : ℕ) → ((u : ℕ) → u < i → passes p (voice xs u) ≡ false) → passes p (voice xs i) ≡ true → ticket_with p xs ≡ Some i
  unfolding ticket_with
  first_with [] i below e = clash false e refl
  first_with (x ∷ xs) zero below e = ap (λ b. cond b (Some 0) (one_on (ticket_with p xs))) e
  first_with (x ∷ xs) (suc i) below e =
      ap (λ b. cond b (Some 0) (one_on (ticket_with p xs))) (below 0 (omega arith))
      ∙ ap one_on (first_with xs i (λ u h. below (suc u) (omega arith)) e)
      ∙ ap Some (omega arith)

  pub none_with : (xs : List (Option V)) → ((u : ℕ) → u < length xs → passes p (voice xs u) ≡ false) → ticket_with p xs ≡ None
  unfolding ticket_with
  none_with [] below = refl
  none_with (x ∷ xs) below =
      ap (λ b. cond b (Some 0) (one_on (ticket_with p xs))) (below 0 (omega arith)) ∙ ap one_on (none_with xs (λ u h. below (suc u) (omega arith)))

  abbrev SoundsSo : List (Option V) → ℕ → Type 0
  SoundsSo xs u = (v : V) × (voice xs u ≡ Some v) × (p v ≡ true)

  so_step : (x : Option V) (xs : List (Option V)) (u : ℕ) (b : Bool) (o : Option ℕ) → passes p x ≡ b → cond b (Some 0) (one_on o) ≡ Some u → ((w : ℕ) → o ≡ Some w → SoundsSo xs w) → SoundsSo (x ∷ xs) u
  so_step None xs u true o e q rest = clash false e refl
  so_step (Some v) xs u true o e q rest = let z : 0 ≡ u = cc in subst (SoundsSo (Some v ∷ xs)) z (v, refl, e)
  so_step x xs u false None e q rest = let z : ◌≡◌ {A = ℕ} 0 1 = cc in absurd (omega arith)
  so_step x xs u false (Some w) e q rest = let z : w + 1 ≡ u = cc in let z' : suc w ≡ u = omega arith in subst (SoundsSo (x ∷ xs)) z' (rest w refl)

  -- the ticket found sounds so
  pub holds_so : (xs : List (Option V)) (u : ℕ) → ticket_with p xs ≡ Some u → SoundsSo xs u
  unfolding ticket_with
  holds_so [] u e = let z : ◌≡◌ {A = ℕ} 0 1 = cc in absurd (omega arith)
  holds_so (x ∷ xs) u e = so_step x xs u (passes p x) (ticket_with p xs) refl e (λ w q. holds_so xs w q)

  none_step : (b : Bool) (o : Option ℕ) → cond b (Some 0) (one_on o) ≡ None → (b ≡ false) × (o ≡ None)
  none_step true o q = let z : ◌≡◌ {A = ℕ} 0 1 = cc in absurd (omega arith)
  none_step false None q = (refl, refl)
  none_step false (Some w) q = let z : ◌≡◌ {A = ℕ} 0 1 = cc in absurd (omega arith)

  -- where none is found, none sounds so
  pub none_so : (xs : List (Option V)) → ticket_with p xs ≡ None → sounding_with p xs ≡ 0
  unfolding ticket_with sounding_with
  none_so [] e = refl
  none_so (x ∷ xs) e =
      let both = none_step (passes p x) (ticket_with p xs) e in
      let first = ap one both.0 in
      let rest = none_so xs both.1 in
      omega arith

  -- the first of the 128 tickets that passes is the ticket found
  pub found_first : (xs : List (Option V)) (r : Option ℕ) → length xs ≡ 128 → MatchOption r ((u : ℕ) → 0 ≤ u → u < 128 → passes p (voice xs u) ≡ false) (λ i. (0 ≤ i) × (i < 128) × (passes p (voice xs i) ≡ true) × ((u : ℕ) → 0 ≤ u → u < i → passes p (voice xs u) ≡ false)) → r ≡ ticket_with p xs
  found_first xs None long h = sym (none_with xs (λ u lt. h u (omega arith) (omega arith)))
  found_first xs (Some i) long h = sym (first_with xs i (λ u lt. h.3 u (omega arith) lt) h.2)

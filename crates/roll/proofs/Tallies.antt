-- Counting the tickets that sound.
use Rattle.std.proofs.Common.{◌≡◌, ℕ, zero, suc, ◌+◌, ◌<◌, ◌≤◌, Bool, true, false, cond, eqb, List, [], ◌∷◌, length, set, replicate, is_some, Some, None, Option, refl, ap, le_of_suc-le-suc, not-suc-le-zero, arith}
use Rattle.std.proofs.lemmas.Bool.Decides.{nat_tests}
use Rattle.std.proofs.lemmas.Grind.{common_steps}
use Rattle.std.proofs.lemmas.List.{set_past, get_or_past, set-get_or}
use Rattle.roll.specs.Voices.{one, voice, passes, sounding_with}

pub one_le : (b : Bool) → one b ≤ 1
one_le true = omega arith
one_le false = omega arith

pub sounds_at_all : {V : Type 0} (x : Option V) → passes (λ v. true) x ≡ is_some x
sounds_at_all None = refl
sounds_at_all (Some v) = refl

pub none_there : {V : Type 0} (n u : ℕ) → voice (replicate {A = Option V} n None) u ≡ None
none_there {V} n u = grind (arith, common_steps)

-- a ticket that sounds is one of those in the list
pub at_some : {V : Type 0} (xs : List (Option V)) (i : ℕ) (v : V) → voice xs i ≡ Some v → i < length xs
at_some xs i v e = grind (arith, get_or_past xs i None)

-- a silent ticket that is stopped changes nothing
pub set_none : {V : Type 0} (xs : List (Option V)) (i : ℕ) → voice xs i ≡ None → set xs i None ≡ xs
set_none xs i e = grind (arith, set-get_or xs i None)

-- one ticket written, another read
pub at_set : {V : Type 0} (xs : List (Option V)) (i u : ℕ) (x : Option V) → i < length xs → voice (set xs i x) u ≡ cond (eqb i u) x (voice xs u)
at_set xs i u x h = grind (arith, nat_tests, common_steps)

module _ {V : Type 0} (p : V → Bool) where
  -- a ticket is written: the count moves by what it was and what it is
  pub with_set : (xs : List (Option V)) (i : ℕ) (x : Option V) → i < length xs → sounding_with p (set xs i x) + one (passes p (voice xs i)) ≡ sounding_with p xs + one (passes p x)
  unfolding sounding_with
  with_set [] i x h = absurd (not-suc-le-zero h)
  with_set (y ∷ xs) zero x h = omega arith
  with_set (y ∷ xs) (suc i) x h = let e = with_set xs i x (le_of_suc-le-suc h) in omega arith

  -- a ticket that passes is counted
  pub with_one : (xs : List (Option V)) (i : ℕ) → one (passes p (voice xs i)) ≤ sounding_with p xs
  unfolding sounding_with
  with_one [] i = omega arith
  with_one (x ∷ xs) zero = omega arith
  with_one (x ∷ xs) (suc i) = let e = with_one xs i in omega arith

  pub with_le : (xs : List (Option V)) → sounding_with p xs ≤ length xs
  unfolding sounding_with
  with_le [] = omega arith
  with_le (x ∷ xs) = let e = with_le xs in let o : one (passes p x) ≤ 1 = one_le (passes p x) in omega arith

  pub with_none : (n : ℕ) → sounding_with p (replicate {A = Option V} n None) ≡ 0
  unfolding sounding_with
  with_none zero = refl
  with_none (suc n) = let e = with_none n in omega arith

  -- it falls silent: one fewer is counted, if it was
  pub with_stop : (xs : List (Option V)) (i : ℕ) → sounding_with p (set xs i None) + one (passes p (voice xs i)) ≡ sounding_with p xs
  with_stop xs i = grind (arith, nat_tests, with_set xs i None, set_past xs i None, get_or_past xs i None)

  -- a ticket begins to sound: one more is counted at most
  pub with_begin : (xs : List (Option V)) (i : ℕ) (v : V) → sounding_with p (set xs i (Some v)) ≤ sounding_with p xs + 1
  with_begin xs i v = grind (arith, one_le (p v), with_set xs i (Some v), set_past xs i (Some v))

  -- where no voice passes, none is counted
  pub with_gone : (xs : List (Option V)) → ((u : ℕ) (v : V) → voice xs u ≡ Some v → p v ≡ false) → sounding_with p xs ≡ 0
  unfolding sounding_with
  with_gone [] h = refl
  with_gone (None ∷ xs) h = let e = with_gone xs (λ u. h (suc u)) in omega arith
  with_gone (Some v ∷ xs) h =
      let e = with_gone xs (λ u. h (suc u)) in
      let o : one (p v) ≡ 0 = ap one (h 0 v refl) in
      omega arith

  -- what is counted sounds
  pub with_some : (xs : List (Option V)) → 1 ≤ sounding_with p xs → (u : ℕ) × (v : V) × (voice xs u ≡ Some v) × (p v ≡ true)
  unfolding sounding_with
  with_some [] h = absurd (omega arith)
  with_some (None ∷ xs) h = let w = with_some xs (omega arith) in (suc w.0, w.1, w.2, w.3)
  with_some (Some v ∷ xs) h = first (p v) refl h (λ l. with_some xs l)
    where
      first : (b : Bool) → p v ≡ b → 1 ≤ one b + sounding_with p xs → (1 ≤ sounding_with p xs → (u : ℕ) × (w : V) × (voice xs u ≡ Some w) × (p w ≡ true)) → (u : ℕ) × (w : V) × (voice (Some v ∷ xs) u ≡ Some w) × (p w ≡ true)
      first true e h rest = (0, v, refl, e)
      first false e h rest = let w = rest (omega arith) in (suc w.0, w.1, w.2, w.3)

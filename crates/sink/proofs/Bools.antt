-- Small facts on truth values.
use Rattle.std.proofs.Common.{◌≡◌, ℕ, Bool, true, false, not, ◌&&◌, ◌||◌, eqb, sym, refl, ap, ◌∙◌, subst, eq-eqb, eqb-true}
use borrow.Author.Tests.{both_ways}

pub clash : {A : Type 0} (b : Bool) → b ≡ true → b ≡ false → A
clash b p q = absurd (both_ways b q p)

-- what implies something false is false
pub refuted : (a b : Bool) → (a ≡ true → b ≡ true) → b ≡ false → a ≡ false
refuted true b f e = sym (f refl) ∙ e
refuted false b f e = refl

pub without_swap : (a b c : Bool) → ((a && not b) && not c) ≡ ((a && not c) && not b)
without_swap true true true = refl
without_swap true true false = refl
without_swap true false true = refl
without_swap true false false = refl
without_swap false b c = refl

pub joined_without : (e o w : Bool) → (e ≡ true → w ≡ false) → ((e || o) && not w) ≡ (e || (o && not w))
joined_without true o w f = ap not (f refl)
joined_without false o w f = refl

pub covered : (a b w : Bool) → (a || b) ≡ true → ((a && not w) || (b || w)) ≡ true
covered true true true e = refl
covered true false true e = refl
covered true b false e = refl
covered false true w e = refl
covered false false w e = clash false e refl

pub uncovered : (a b w : Bool) → (w ≡ true → a ≡ true) → ((a && not w) || (b || w)) ≡ true → (a || b) ≡ true
uncovered true b w f e = refl
uncovered false true w f e = refl
uncovered false false true f e = f refl
uncovered false false false f e = e

pub or_steps : (a a' w w' : Bool) → (a' ≡ true → a ≡ true) → w' ≡ w → (a' || w') ≡ true → (a || w) ≡ true
or_steps true a' w w' f e h = refl
or_steps false true w w' f e h = clash false (f refl) refl
or_steps false false w w' f e h = sym e ∙ h

pub self_eq : (u : ℕ) → eqb u u ≡ true
self_eq u = eq-eqb u u refl

-- two tickets are the same, or the test says that they are not
pub same_or : (P : ℕ → Type 0) (t u : ℕ) → P t → (eqb t u ≡ false → P u) → P u
same_or P t u here other = go (eqb t u) refl
  where
    go : (b : Bool) → eqb t u ≡ b → P u
    go true e = subst P (eqb-true t u e) here
    go false e = other e

-- The key table: what stands where once a place is filled or emptied.
use Rattle.std.proofs.Common.{◌≡◌, ℕ, zero, suc, ◌+◌, ◌<◌, Bool, true, false, not, ◌&&◌, ◌||◌, ◌⊎◌, List, [], ◌∷◌, length, set, replicate, Some, None, Option, sym, refl, ap, ◌∙◌, subst, inl, inr, arith, get_or-set_other, get_or-set_same, eq-eqb, ne_eqb}
use mathlib.Core.Bool.{and-true, and-false}
use native.Mathlib.Decide.{ℕ_discrete}
use Rattle.sink.specs.Meaning.{Meaning, Idle, Began, Ended}
use Rattle.run.specs.Counting.{at}
use Rattle.run.specs.Past.{one_if, tickets, Owes}

pub none_some : {o : Option ℕ} {t : ℕ} → o ≡ None → o ≡ Some t → ⊥
none_some p q = cc

pub some_same : {o : Option ℕ} {t u : ℕ} → o ≡ Some t → o ≡ Some u → t ≡ u
some_same p q = cc

pub true_false : {b : Bool} → b ≡ true → b ≡ false → ⊥
true_false p q = cc

pub false_if : (b : Bool) → (b ≡ true → ⊥) → b ≡ false
false_if true no_true = absurd (no_true refl)
false_if false no_true = refl

pub in_table : (T : List (Option ℕ)) (i t : ℕ) → at T i ≡ Some t → i < length T
in_table [] i t e = absurd (none_some refl e)
in_table (o ∷ T) zero t e = omega arith
in_table (o ∷ T) (suc i) t e = omega (arith, in_table T i t e)

pub emptied : (T : List (Option ℕ)) (i t : ℕ) → at T i ≡ Some t → tickets T ≡ tickets (set T i None) + 1
emptied [] i t e = absurd (none_some refl e)
emptied (o ∷ T) zero t e = omega (arith, ap one_if e)
emptied (o ∷ T) (suc i) t e = omega (arith, emptied T i t e)

pub filled : (T : List (Option ℕ)) (i t : ℕ) → i < length T → at T i ≡ None → tickets (set T i (Some t)) ≡ tickets T + 1
filled [] i t h e = absurd (omega arith)
filled (o ∷ T) zero t h e = omega (arith, ap one_if e)
filled (o ∷ T) (suc i) t h e = omega (arith, filled T i t (omega arith) e)

pub no_tickets : (T : List (Option ℕ)) → ((j t : ℕ) → at T j ≡ Some t → ⊥) → tickets T ≡ 0
no_tickets [] none = refl
no_tickets (None ∷ T) none = omega (arith, no_tickets T (λ j t e. none (suc j) t e))
no_tickets (Some t ∷ T) none = absurd (none 0 t refl)

pub none_at : (n i : ℕ) → at (replicate n None) i ≡ None
none_at zero i = refl
none_at (suc n) zero = refl
none_at (suc n) (suc i) = none_at n i

-- a place of a table in which the place i was written
pub written : (T : List (Option ℕ)) (i j : ℕ) (o : Option ℕ) → i < length T → ((j ≡ i) × (at (set T i o) j ≡ o)) ⊎ ((j ≡ i → ⊥) × (at (set T i o) j ≡ at T j))
written T i j o h = go (ℕ_discrete j i)
  where
    go : Dec (j ≡ i) → ((j ≡ i) × (at (set T i o) j ≡ o)) ⊎ ((j ≡ i → ⊥) × (at (set T i o) j ≡ at T j))
    go (yes e) = inl (e, subst (λ k. at (set T i o) k ≡ o) (sym e) (get_or-set_same T i o None h))
    go (no ne) = inr (ne, get_or-set_other T i j o None ne)

-- what a release and a start do to the other tickets
ended_other : {m m' : Meaning} {t : ℕ} → Ended m t m' → (u : ℕ) → (u ≡ t → ⊥) → m'.owed u ≡ m.owed u
ended_other {m} {m'} {t} ended u ne = ended.owed u ∙ ap (λ b. m.owed u && not b) (ne_eqb t u (λ e. ne (sym e))) ∙ and-true (m.owed u)

ended_self : {m m' : Meaning} {t : ℕ} → Ended m t m' → m'.owed t ≡ false
ended_self {m} {m'} {t} ended = ended.owed t ∙ ap (λ b. m.owed t && not b) (eq-eqb t t refl) ∙ and-false (m.owed t)

began_other : {m m' : Meaning} {t : ℕ} → Began m t m' → (u : ℕ) → (u ≡ t → ⊥) → m'.owed u ≡ m.owed u
began_other {m} {m'} {t} began u ne = began.owed u ∙ ap (λ b. b || m.owed u) (ne_eqb t u (λ e. ne (sym e)))

began_self : {m m' : Meaning} {t : ℕ} → Began m t m' → m'.owed t ≡ true
began_self {m} {m'} {t} began = began.owed t ∙ ap (λ b. b || m.owed t) (eq-eqb t t refl)

-- a ticket given back
module _ (m m' : Meaning) (T : List (Option ℕ)) (i t : ℕ) (owes : Owes m T) (held : at T i ≡ Some t) (ended : Ended m t m') where
  h : i < length T
  h = in_table T i t held

  -- a ticket that stands in the table after it
  stayed : (j u : ℕ) → at (set T i None) j ≡ Some u → (at T j ≡ Some u) × (u ≡ t → ⊥)
  stayed j u e = go (written T i j None h)
    where
      go : ((j ≡ i) × (at (set T i None) j ≡ None)) ⊎ ((j ≡ i → ⊥) × (at (set T i None) j ≡ at T j)) → (at T j ≡ Some u) × (u ≡ t → ⊥)
      go (inl p) = absurd (none_some p.1 e)
      go (inr p) =
          let was : at T j ≡ Some u = sym p.1 ∙ e in
          (was, λ same. p.0 (owes.once j i t (was ∙ ap Some same) held))

  pub owes_ended : Owes m' (set T i None)
  owes_ended = record { listed = listed; owed = owed; once = λ j k u p q. owes.once j k u (stayed j u p).0 (stayed k u q).0 }
    where
      owed : (j u : ℕ) → at (set T i None) j ≡ Some u → m'.owed u ≡ true
      owed j u e = let s = stayed j u e in ended_other ended u s.1 ∙ owes.owed j u s.0

      listed : (u : ℕ) → m'.owed u ≡ true → (j : ℕ) × (at (set T i None) j ≡ Some u)
      listed u e = go (ℕ_discrete u t)
        where
          go : Dec (u ≡ t) → (j : ℕ) × (at (set T i None) j ≡ Some u)
          go (yes same) = absurd (true_false e (subst (λ x. m'.owed x ≡ false) (sym same) (ended_self ended)))
          go (no other) =
              let f = owes.listed u (sym (ended_other ended u other) ∙ e) in
              (f.0, get_or-set_other T i f.0 None None (λ e'. other (some_same f.1 (ap (at T) e' ∙ held))) ∙ f.1)

-- a ticket handed out
module _ (m m' : Meaning) (T : List (Option ℕ)) (i t : ℕ) (owes : Owes m T) (fits : i < length T) (free : at T i ≡ None) (began : Began m t m') where
  -- a ticket that stands in the table after it
  stands : (j u : ℕ) → at (set T i (Some t)) j ≡ Some u → ((j ≡ i) × (u ≡ t)) ⊎ ((at T j ≡ Some u) × (u ≡ t → ⊥))
  stands j u e = go (written T i j (Some t) fits)
    where
      go : ((j ≡ i) × (at (set T i (Some t)) j ≡ Some t)) ⊎ ((j ≡ i → ⊥) × (at (set T i (Some t)) j ≡ at T j)) → ((j ≡ i) × (u ≡ t)) ⊎ ((at T j ≡ Some u) × (u ≡ t → ⊥))
      go (inl p) = inl (p.0, some_same e p.1)
      go (inr p) =
          let was : at T j ≡ Some u = sym p.1 ∙ e in
          inr (was, λ same. true_false (owes.owed j t (was ∙ ap Some same)) began.not_owed)

  pub owes_began : Owes m' (set T i (Some t))
  owes_began = record { listed = listed; owed = λ j u e. owed j u (stands j u e); once = λ j k u p q. once j k u (stands j u p) (stands k u q) }
    where
      owed : (j u : ℕ) → ((j ≡ i) × (u ≡ t)) ⊎ ((at T j ≡ Some u) × (u ≡ t → ⊥)) → m'.owed u ≡ true
      owed j u (inl p) = ap m'.owed p.1 ∙ began_self began
      owed j u (inr p) = began_other began u p.1 ∙ owes.owed j u p.0

      once : (j k u : ℕ) → ((j ≡ i) × (u ≡ t)) ⊎ ((at T j ≡ Some u) × (u ≡ t → ⊥)) → ((k ≡ i) × (u ≡ t)) ⊎ ((at T k ≡ Some u) × (u ≡ t → ⊥)) → j ≡ k
      once j k u (inl p) (inl q) = p.0 ∙ sym q.0
      once j k u (inl p) (inr q) = absurd (q.1 p.1)
      once j k u (inr p) (inl q) = absurd (p.1 q.1)
      once j k u (inr p) (inr q) = owes.once j k u p.0 q.0

      listed : (u : ℕ) → m'.owed u ≡ true → (j : ℕ) × (at (set T i (Some t)) j ≡ Some u)
      listed u e = go (ℕ_discrete u t)
        where
          go : Dec (u ≡ t) → (j : ℕ) × (at (set T i (Some t)) j ≡ Some u)
          go (yes same) = (i, get_or-set_same T i (Some t) None fits ∙ ap Some (sym same))
          go (no other) =
              let f = owes.listed u (sym (began_other began u other) ∙ e) in
              (f.0, get_or-set_other T i f.0 (Some t) None (λ e'. none_some (ap (at T) e' ∙ free) f.1) ∙ f.1)

-- the same tickets owed
pub owes_same : (m m' : Meaning) (T : List (Option ℕ)) → ((u : ℕ) → m'.owed u ≡ m.owed u) → Owes m T → Owes m' T
owes_same m m' T same owes = record {
  listed = λ u e. owes.listed u (sym (same u) ∙ e);
  owed = λ j u e. same u ∙ owes.owed j u e;
  once = owes.once;
}

pub owes_none : (m : Meaning) (n : ℕ) → Idle m → Owes m (replicate n None)
owes_none m n idle = record {
  listed = λ u e. absurd (true_false e (idle.owed u));
  owed = λ j u e. absurd (none_some (none_at n j) e);
  once = λ j k u p q. absurd (none_some (none_at n j) p);
}

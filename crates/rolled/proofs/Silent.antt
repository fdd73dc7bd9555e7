-- What a chain of hushes does to the meaning of the sink below.
use Rattle.std.proofs.Common.{◌≡◌, ℕ, Bool, true, false, cond, not, ◌&&◌, ◌||◌, eqb, List, [], ◌∷◌, ◌++◌, sym, refl, ap, ◌∙◌, subst, arith}
use mathlib.Core.Bool.{and-false}
use Rattle.std.proofs.lemmas.Bool.Decides.{nat_tests}
use Rattle.sink.specs.Faults.{Denial}
use Rattle.sink.specs.Calls.{Call, Hush, Answer, ticket, done, denied}
use Rattle.sink.specs.Meaning.{Meaning, Began, Quieter, Means}
use Rattle.sink.proofs.Bools.{clash, self_eq}
use Rattle.std.proofs.lemmas.Bool.{and_parts}
use Rattle.rolled.specs.Chains.{named, Hushes, no_hush, one_hush}
use Rattle.rolled.proofs.Below.{Lawful}
use Rattle.rolled.proofs.Gone.{named_append}

-- some tickets fall silent, and nothing else changes
pub record Silenced (m m' : Meaning) : Type 0 where
  pub ready : m'.ready ≡ m.ready
  pub owed : (u : ℕ) → m'.owed u ≡ m.owed u
  pub kept : (u : ℕ) → m'.kept u ≡ m.kept u
  pub sounding : (u : ℕ) → m'.sounding u ≡ true → m.sounding u ≡ true

pub silenced_none : (m : Meaning) → Silenced m m
silenced_none m = record { ready = refl; owed = λ u. refl; kept = λ u. refl; sounding = λ u e. e }

pub silenced_then : (a b c : Meaning) → Silenced a b → Silenced b c → Silenced a c
silenced_then a b c f g = record {
  ready = g.ready ∙ f.ready;
  owed = λ u. g.owed u ∙ f.owed u;
  kept = λ u. g.kept u ∙ f.kept u;
  sounding = λ u e. f.sounding u (g.sounding u e);
}

pub silenced_quieter : (m m' : Meaning) → Silenced m m' → Quieter m m'
silenced_quieter m m' f = record {
  ready = λ e. f.ready ∙ e;
  owed = f.owed;
  kept = λ u e. sym (f.kept u) ∙ e;
  sounding = f.sounding;
}

-- a start after hushes is a start at which others may have fallen silent
pub began_after : (m mid m' : Meaning) (t : ℕ) → Silenced m mid → Began mid t m' → Began m t m'
began_after m mid m' t h b = record {
  was_ready = sym h.ready ∙ b.was_ready;
  not_owed = sym (h.owed t) ∙ b.not_owed;
  not_kept = sym (h.kept t) ∙ b.not_kept;
  owed = λ u. b.owed u ∙ ap (λ x. eqb t u || x) (h.owed u);
  kept = λ u. b.kept u ∙ h.kept u;
  sounds = b.sounds;
  others = λ u e f. h.sounding u (b.others u e f);
}

module _ {S F : Type 0} {sees : F → Denial} {meaning : S → Meaning} {sound : S → Type 0} {does : S → Call → Answer F → S → Type 0} (law : Lawful sees meaning sound does) where
  hush_answer : (p k : ℕ) (a : Answer F) (s t : S) → Means sees meaning s (Hush p k) a t → Silenced (meaning s) (meaning t)
  hush_answer p k (ticket x) s t m = absurd m
  hush_answer p k done s t m = record {
    ready = m.ready;
    owed = m.owed;
    kept = m.kept;
    sounding = λ u e. (and_parts ((meaning s).sounding u) (not (eqb k u)) (sym (m.sounding u) ∙ e)).0;
  }
  hush_answer p k (denied d) s t m = subst (λ z. Silenced (meaning s) (meaning z)) (sym m.same) (silenced_none (meaning s))

  -- an owed ticket that is hushed is the one that falls silent
  pub hush_owed : (p k : ℕ) (a : Answer F) (s t : S) → Means sees meaning s (Hush p k) a t → (meaning s).owed k ≡ true → (u : ℕ) → (meaning t).sounding u ≡ ((meaning s).sounding u && not (eqb k u))
  hush_owed p k (ticket x) s t m o u = absurd m
  hush_owed p k done s t m o u = m.sounding u
  hush_owed p k (denied d) s t m o u = clash ((meaning s).owed k) o m.because.0

  pub hush_call : (p k : ℕ) (a : Answer F) (s t : S) → sound s → does s (Hush p k) a t → sound t × Silenced (meaning s) (meaning t)
  hush_call p k a s t h d = (law.stays s (Hush p k) a t h d, hush_answer p k a s t (law.means s (Hush p k) a t h d))

  hush_one_lem : (p k : ℕ) (s t : S) (b : Bool) → (meaning s).sounding k ≡ b → cond b ((a : Answer F) × does s (Hush p k) a t) (t ≡ s) → sound s → sound t × Silenced (meaning s) (meaning t) × ((meaning s).owed k ≡ true → (meaning t).sounding k ≡ false)
  hush_one_lem p k s t true e d h =
      let one = hush_call p k d.0 s t h d.1 in
      (one.0, one.1, λ o. hush_owed p k d.0 s t (law.means s (Hush p k) d.0 t h d.1) o k ∙ ap (λ b. (meaning s).sounding k && not b) (self_eq k) ∙ and-false ((meaning s).sounding k))
  hush_one_lem p k s t false e d h = (subst sound (sym d) h, subst (λ z. Silenced (meaning s) (meaning z)) (sym d) (silenced_none (meaning s)), λ o. ap (λ z. (meaning z).sounding k) d ∙ e)

  silent_step : (m m' : Meaning) (ks : List ℕ) (k : ℕ) → Silenced m m' → ((u : ℕ) → named ks u ≡ true → m.sounding u ≡ false) → m'.sounding k ≡ false → (u : ℕ) → named (ks ++ (k ∷ [])) u ≡ true → m'.sounding u ≡ false
  unfolding named
  silent_step m m' ks k w before last u e = grind (arith, nat_tests, w.sounding u, before u, named_append ks (k ∷ []) u)

  -- after a chain of hushes of owed tickets the sink is sound, and none of them sounds
  pub silenced : {p : ℕ} {ks : List ℕ} {s t : S} → Hushes meaning does p ks s t → sound s → ((u : ℕ) → named ks u ≡ true → (meaning s).owed u ≡ true) → sound t × Silenced (meaning s) (meaning t) × ((u : ℕ) → named ks u ≡ true → (meaning t).sounding u ≡ false)
  unfolding named
  silenced {p} {ks} {s} no_hush h o = (h, silenced_none (meaning s), λ u e. clash false e refl)
  silenced {p} (one_hush {s} {t} {u} {ks} k r d) h o =
      let before = silenced r h (λ v e. o v (grind (arith, nat_tests, named_append ks (k ∷ []) v))) in
      let one = hush_one_lem p k t u ((meaning t).sounding k) refl d before.0 in
      let last = one.2 (before.1.owed k ∙ o k (grind (arith, nat_tests, named_append ks (k ∷ []) k))) in
      (one.0, silenced_then (meaning s) (meaning t) (meaning u) before.1 one.1, silent_step (meaning t) (meaning u) ks k one.1 before.2 last)

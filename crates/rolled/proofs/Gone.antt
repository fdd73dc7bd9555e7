-- What a chain of releases does to the meaning of the sink below.
use Rattle.std.proofs.Common.{◌≡◌, ℕ, true, false, not, ◌&&◌, ◌||◌, List, [], ◌∷◌, ◌++◌, sym, refl, subst, arith}
use mathlib.Core.Bool.{and-true}
use Rattle.std.proofs.lemmas.Bool.Decides.{nat_tests}
use Rattle.sink.specs.Faults.{Denial}
use Rattle.sink.specs.Calls.{Call, Release, Answer, ticket, done, denied}
use Rattle.sink.specs.Meaning.{Meaning, is_ready, Ended, Means}
use Rattle.rolled.specs.Chains.{named, Releases, no_release, one_release}
use Rattle.rolled.proofs.Below.{Lawful}

-- the tickets ks are owed no more; every other ticket stands
pub record Gone (ks : List ℕ) (m m' : Meaning) : Type 0 where
  pub ready : m.ready ≡ is_ready → m'.ready ≡ is_ready
  pub owed : (u : ℕ) → m'.owed u ≡ (m.owed u && not (named ks u))
  pub kept : (u : ℕ) → named ks u ≡ false → m'.kept u ≡ m.kept u
  pub sounding : (u : ℕ) → named ks u ≡ false → m'.sounding u ≡ m.sounding u
  pub quiet : (u : ℕ) → m'.sounding u ≡ true → m.sounding u ≡ true

pub named_append : (ks js : List ℕ) (u : ℕ) → named (ks ++ js) u ≡ (named ks u || named js u)
unfolding named
named_append [] js u = refl
named_append (k ∷ ks) js u = grind (arith, nat_tests, named_append ks js u)

gone_none : (m : Meaning) → Gone [] m m
unfolding named
gone_none m = record {
  ready = λ e. e;
  owed = λ u. sym (and-true (m.owed u));
  kept = λ u e. refl;
  sounding = λ u e. refl;
  quiet = λ u e. e;
}

gone_join : (ks js : List ℕ) (m m' m'' : Meaning) → Gone ks m m' → Gone js m' m'' → Gone (ks ++ js) m m''
gone_join ks js m m' m'' g h = record {
  ready = λ e. h.ready (g.ready e);
  owed = λ u. grind (arith, nat_tests, g.owed u, h.owed u, named_append ks js u);
  kept = λ u e. grind (arith, nat_tests, g.kept u, h.kept u, named_append ks js u);
  sounding = λ u e. grind (arith, nat_tests, g.sounding u, h.sounding u, named_append ks js u);
  quiet = λ u e. g.quiet u (h.quiet u e);
}

-- one ticket released
one_ended : (k : ℕ) (m m' : Meaning) → Ended m k m' → Gone (k ∷ []) m m'
unfolding named
one_ended k m m' e = record {
  ready = e.ready;
  owed = λ u. grind (arith, nat_tests, e.owed u);
  kept = λ u f. grind (arith, nat_tests, e.kept u);
  sounding = λ u f. grind (arith, nat_tests, e.sounding u);
  quiet = λ u f. grind (arith, nat_tests, e.stays_silent, e.sounding u);
}

-- one that is not owed changes nothing
one_denied : (k : ℕ) (m : Meaning) → m.owed k ≡ false → Gone (k ∷ []) m m
unfolding named
one_denied k m not_owed = record {
  ready = λ e. e;
  owed = λ u. grind (arith, nat_tests);
  kept = λ u f. refl;
  sounding = λ u f. refl;
  quiet = λ u e. e;
}

module _ {S F : Type 0} {sees : F → Denial} {meaning : S → Meaning} {sound : S → Type 0} {does : S → Call → Answer F → S → Type 0} (law : Lawful sees meaning sound does) where
  one_gone : (p k : ℕ) (a : Answer F) (s t : S) → Means sees meaning s (Release p k 64) a t → Gone (k ∷ []) (meaning s) (meaning t)
  one_gone p k (ticket x) s t m = absurd m
  one_gone p k done s t m = one_ended k (meaning s) (meaning t) m.1
  one_gone p k (denied d) s t m = subst (λ z. Gone (k ∷ []) (meaning s) (meaning z)) (sym m.same) (one_denied k (meaning s) (m.because.1 refl).0)

  -- after a chain of releases the sink is sound, and just these tickets are owed no more
  pub gone : {p : ℕ} {ks : List ℕ} {s t : S} → Releases does p ks s t → sound s → sound t × Gone ks (meaning s) (meaning t)
  gone {p} {ks} {s} no_release h = (h, gone_none (meaning s))
  gone {p} (one_release {s} {t} {u} {a} {k} {ks} r d) h =
      let before = gone r h in
      (law.stays t (Release p k 64) a u before.0 d, gone_join ks (k ∷ []) (meaning s) (meaning t) (meaning u) before.1 (one_gone p k a t u (law.means t (Release p k 64) a u before.0 d)))

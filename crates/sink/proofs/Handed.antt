-- A layer that has made its own checks and hands a call on has its meaning, if the sink below has its own.
use Rattle.std.proofs.Common.{◌≡◌, ℕ, Bool, true, false, not, ◌&&◌, ◌||◌, eqb, leb, ℤ, sym, refl, ap, ◌∙◌, subst, ap₂, eqb-true}
use Rattle.std.proofs.lemmas.Bool.{and_parts, or_parts, or_from, not-true}
use Rattle.sink.specs.Faults.{Denial, here, deeper, layer_denial}
use Rattle.sink.specs.Calls.{Call, Start, Release, Hush, Tell, Set, Clear, Answer, ticket, done, denied, startable, tellable}
use Rattle.sink.specs.Meaning.{Meaning, Readiness, is_ready, refuses, Orderly, Began, Ended, Hushed, Quieter, Cleared, Denied, Means}
use Rattle.sink.specs.Layered.{passed, ready_over, layered, Refused}
use Rattle.sink.specs.declared.fault.Cause.TheVariants.{AllOut}
use Rattle.sink.proofs.Bools.{clash, refuted, without_swap, joined_without, covered, uncovered, or_steps}

-- A refusal has the meaning that it has where it leaves the state.
pub refused : {S F : Type 0} (sees : F → Denial) (meaning : S → Meaning) (c : Call) (f : F) (s : S) (a : Answer F) (t : S) → Refused f s a t → Means sees meaning s c (denied f) s → Means sees meaning s c a t
refused sees meaning c f s a t r m = subst (λ x. Means sees meaning s c x t) (sym r.answer) (subst (λ x. Means sees meaning s c (denied f) x) (sym r.same) m)

-- what leaves the meaning is a tell or a set that changes nothing
pub quieter_same : (m m' : Meaning) → m' ≡ m → Quieter m m'
quieter_same m m' e = subst (Quieter m) (sym e) record { ready = λ f. f; owed = λ u. refl; kept = λ u f. f; sounding = λ u f. f }

-- and a clear, where nothing is kept
pub cleared_same : (m m' : Meaning) → m' ≡ m → ((u : ℕ) → m.kept u ≡ false) → Cleared m m'
cleared_same m m' e none = subst (Cleared m) (sym e) record { ready = λ f. f; owed = λ u. refl; kept = none; sounding = λ u f. refl }

abbrev refusal : Readiness → Type 0
refusal is_ready = ⊥
refusal (refuses x) = Unit {0}

pub not_ready : (d : Denial) → refuses d ≡ is_ready → ⊥
not_ready d q = subst refusal q tt

-- a layer is ready only if below is and its roll has room
below_ready : (full : Bool) (r : Readiness) → ready_over full r ≡ is_ready → r ≡ is_ready
below_ready full is_ready e = refl
below_ready full (refuses d) e = absurd (not_ready (deeper d) e)

has_room : (full : Bool) → ready_over full is_ready ≡ is_ready → full ≡ false
has_room true e = absurd (not_ready (here AllOut) e)
has_room false e = refl

pub ready_steps : (full full' : Bool) (r r' : Readiness) → (full ≡ false → full' ≡ false) → (r ≡ is_ready → r' ≡ is_ready) → ready_over full r ≡ is_ready → ready_over full' r' ≡ is_ready
ready_steps full full' r r' room steps e =
    let was = below_ready full r e in
    let free = has_room full (sym (ap (ready_over full) was) ∙ e) in
    ap (ready_over full') (steps was) ∙ ap (λ b. ready_over b is_ready) (room free)

-- a layer's sets are in order
pub layer_orderly : (full : Bool) (own : ℕ → Bool) (m : Meaning) → ((u : ℕ) → own u ≡ true → m.owed u ≡ true) → Orderly m → Orderly (layered full own m)
layer_orderly full own m within o = record {
  apart = λ u e. or_from (m.kept u) (own u) (o.apart u (and_parts (m.owed u) (not (own u)) e).0) (not-true (own u) (and_parts (m.owed u) (not (own u)) e).1);
  sounding = λ u e. covered (m.owed u) (m.kept u) (own u) (o.sounding u e);
  small = λ u e. o.small u (uncovered (m.owed u) (m.kept u) (own u) (within u) e);
}

-- What a layer has looked at itself before it hands a call on: the ranges, that it does not keep the ticket itself;
-- and that its roll is no fuller after the call than before, where readiness is to stay.
abbrev pub Checked : Bool → Bool → (ℕ → Bool) → Call → Type 0
Checked full full' own (Start p c k v) = (startable c k v ≡ true) × (full ≡ false)
Checked full full' own (Release p t v) = (leb v 127 ≡ true) × (own t ≡ false) × (full ≡ false → full' ≡ false)
Checked full full' own (Hush p t) = (own t ≡ false) × (full' ≡ full)
Checked full full' own (Tell p c n v) = (tellable c n v ≡ true) × (full ≡ false → full' ≡ false)
Checked full full' own (Set p d i v) = full ≡ false → full' ≡ false
Checked full full' own (Clear p) = ((u : ℕ) → own u ≡ false) × (full ≡ false → full' ≡ false)

module _ (full full' : Bool) (own own' : ℕ → Bool) (m m' : Meaning) (same : (u : ℕ) → own' u ≡ own u) (within : (u : ℕ) → own u ≡ true → m.owed u ≡ true) where
  began : (t : ℕ) → full ≡ false → Began m t m' → Began (layered full own m) t (layered full' own' m')
  began t room b =
      let mine : own t ≡ false = refuted (own t) (m.owed t) (within t) b.not_owed in
      record {
        was_ready = ap (ready_over full) b.was_ready ∙ ap (λ f. ready_over f is_ready) room;
        not_owed = ap (λ x. x && not (own t)) b.not_owed;
        not_kept = or_from (m.kept t) (own t) b.not_kept mine;
        owed = λ u. ap₂ (λ x y. x && not y) (b.owed u) (same u) ∙ joined_without (eqb t u) (m.owed u) (own u) (λ e. ap own (sym (eqb-true t u e)) ∙ mine);
        kept = λ u. ap₂ ◌||◌ (b.kept u) (same u);
        sounds = b.sounds;
        others = b.others;
      }

  ended : (t : ℕ) → own t ≡ false → (full ≡ false → full' ≡ false) → Ended m t m' → Ended (layered full own m) t (layered full' own' m')
  ended t mine room b = record {
    was_owed = ap₂ (λ x y. x && not y) b.was_owed mine;
    owed = λ u. ap₂ (λ x y. x && not y) (b.owed u) (same u) ∙ without_swap (m.owed u) (eqb t u) (own u);
    kept = λ u e. ap₂ ◌||◌ (b.kept u e) (same u);
    sounding = b.sounding;
    falls_silent = λ e. b.falls_silent (or_parts (m'.kept t) (own' t) e).0;
    stays_silent = b.stays_silent;
    ready = ready_steps full full' m.ready m'.ready room b.ready;
  }

  hushed : (t : ℕ) → own t ≡ false → full' ≡ full → Hushed m t m' → Hushed (layered full own m) t (layered full' own' m')
  hushed t mine still b = record {
    was_owed = ap₂ (λ x y. x && not y) b.was_owed mine;
    ready = ap₂ ready_over still b.ready;
    owed = λ u. ap₂ (λ x y. x && not y) (b.owed u) (same u);
    kept = λ u. ap₂ ◌||◌ (b.kept u) (same u);
    sounding = b.sounding;
  }

  quieter : (full ≡ false → full' ≡ false) → Quieter m m' → Quieter (layered full own m) (layered full' own' m')
  quieter room b = record {
    ready = ready_steps full full' m.ready m'.ready room b.ready;
    owed = λ u. ap₂ (λ x y. x && not y) (b.owed u) (same u);
    kept = λ u. or_steps (m.kept u) (m'.kept u) (own u) (own' u) (b.kept u) (same u);
    sounding = b.sounding;
  }

  cleared : ((u : ℕ) → own u ≡ false) → (full ≡ false → full' ≡ false) → Cleared m m' → Cleared (layered full own m) (layered full' own' m')
  cleared mine room b = record {
    ready = ready_steps full full' m.ready m'.ready room b.ready;
    owed = λ u. ap₂ (λ x y. x && not y) (b.owed u) (same u);
    kept = λ u. or_from (m'.kept u) (own' u) (b.kept u) (same u ∙ mine u);
    sounding = λ u e. b.sounding u (and_parts (m.owed u) (not (own u)) e).0;
  }

-- what is asked where a call is denied only
abbrev pub IfDenied : {F : Type 0} → Answer F → Type 0 → Type 0
IfDenied (ticket t) P = Unit {0}
IfDenied done P = Unit {0}
IfDenied (denied f) P = P

-- A layer of states L over a sink of states S. Where below denies and is as before, so is the layer.
module _ {L S F : Type 0} (sees : F → Denial) (meaning : S → Meaning) (below : L → S) (full : L → Bool) (own : L → ℕ → Bool) (l l' : L) (same : (u : ℕ) → own l' u ≡ own l u) (within : (u : ℕ) → own l u ≡ true → (meaning (below l)).owed u ≡ true) where
  unchanged : {P Q : Type 0} → (below l' ≡ below l → l' ≡ l) → (P → Q) → Denied (below l) (below l') P → Denied l l' Q
  unchanged still f d = record { same = still d.same; because = f d.because }

  pub handed_if : (c : Call) (b : Answer F) → IfDenied b (below l' ≡ below l → l' ≡ l) → Checked (full l) (full l') (own l) c → Means sees meaning (below l) c b (below l') → Means (layer_denial sees) (λ x. layered (full x) (own x) (meaning (below x))) l c (passed b) l'
  handed_if (Start p c k v) (ticket t) still ch h = (ch.0, began (full l) (full l') (own l) (own l') (meaning (below l)) (meaning (below l')) same within t ch.1 h.1)
  handed_if (Start p c k v) done still ch h = h
  handed_if (Start p c k v) (denied f) still ch h = unchanged still (λ w. ((λ e. clash (startable c k v) ch.0 e), λ e. ap (ready_over (full l)) (w.1 e))) h
  handed_if (Release p t v) (ticket x) still ch h = h
  handed_if (Release p t v) done still ch h = (ch.0, ended (full l) (full l') (own l) (own l') (meaning (below l)) (meaning (below l')) same within t ch.1 ch.2 h.1)
  handed_if (Release p t v) (denied f) still ch h = unchanged still (λ w. ((λ e. clash (leb v 127) ch.0 e), λ e. (ap (λ x. x && not (own l t)) (w.1 e).0, (w.1 e).1))) h
  handed_if (Hush p t) (ticket x) still ch h = h
  handed_if (Hush p t) done still ch h = hushed (full l) (full l') (own l) (own l') (meaning (below l)) (meaning (below l')) same within t ch.0 ch.1 h
  handed_if (Hush p t) (denied f) still ch h = unchanged still (λ w. (ap (λ x. x && not (own l t)) w.0, w.1)) h
  handed_if (Tell p c n v) (ticket x) still ch h = h
  handed_if (Tell p c n v) done still ch h = (ch.0, quieter (full l) (full l') (own l) (own l') (meaning (below l)) (meaning (below l')) same within ch.1 h.1)
  handed_if (Tell p c n v) (denied f) still ch h = clash (tellable c n v) ch.0 h.because.0
  handed_if (Set p e i v) (ticket x) still ch h = h
  handed_if (Set p e i v) done still ch h = quieter (full l) (full l') (own l) (own l') (meaning (below l)) (meaning (below l')) same within ch h
  handed_if (Set p e i v) (denied f) still ch h = unchanged still (λ w. w) h
  handed_if (Clear p) (ticket x) still ch h = h
  handed_if (Clear p) done still ch h = cleared (full l) (full l') (own l) (own l') (meaning (below l)) (meaning (below l')) same within ch.0 ch.1 h
  handed_if (Clear p) (denied f) still ch h = h

  -- where the layer's own parts are as before, whatever the answer
  pub handed : (below l' ≡ below l → l' ≡ l) → (c : Call) (b : Answer F) → Checked (full l) (full l') (own l) c → Means sees meaning (below l) c b (below l') → Means (layer_denial sees) (λ x. layered (full x) (own x) (meaning (below x))) l c (passed b) l'
  handed still c b = handed_if c b (any b)
    where
      any : (b : Answer F) → IfDenied b (below l' ≡ below l → l' ≡ l)
      any (ticket t) = tt
      any done = tt
      any (denied f) = still

module _ {S F : Type 0} (sees : F → Denial) (meaning : S → Meaning) (s s' : S) where
  -- a start whose channel and key a layer changes, in range before and after
  pub rekeyed : (p c k c' k' v : ℕ) (b : Answer F) → startable c k v ≡ true → startable c' k' v ≡ true → Means sees meaning s (Start p c' k' v) b s' → Means sees meaning s (Start p c k v) b s'
  rekeyed p c k c' k' v (ticket t) ok ok' h = (ok, h.1)
  rekeyed p c k c' k' v done ok ok' h = h
  rekeyed p c k c' k' v (denied f) ok ok' h = record { same = h.same; because = (λ e. clash (startable c k v) ok e, λ e. h.because.1 ok') }

  -- a setting that a layer hands on with another depth
  pub redepthed : (p d d' i : ℕ) (v : ℤ) (b : Answer F) → Means sees meaning s (Set p d' i v) b s' → Means sees meaning s (Set p d i v) b s'
  redepthed p d d' i v (ticket t) h = h
  redepthed p d d' i v done h = h
  redepthed p d d' i v (denied f) h = h

  -- a tell that a layer sends to another channel
  pub retold : (p c c' n v : ℕ) (b : Answer F) → tellable c n v ≡ true → tellable c' n v ≡ true → Means sees meaning s (Tell p c' n v) b s' → Means sees meaning s (Tell p c n v) b s'
  retold p c c' n v (ticket t) ok ok' h = h
  retold p c c' n v done ok ok' h = (ok, h.1)
  retold p c c' n v (denied f) ok ok' h = clash (tellable c' n v) ok' h.because.0

pub quieter_then : (a b c : Meaning) → Quieter a b → Quieter b c → Quieter a c
quieter_then a b c f g = record {
  ready = λ e. g.ready (f.ready e);
  owed = λ u. g.owed u ∙ f.owed u;
  kept = λ u e. f.kept u (g.kept u e);
  sounding = λ u e. f.sounding u (g.sounding u e);
}

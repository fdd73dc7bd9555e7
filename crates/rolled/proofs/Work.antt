-- A layer's own work before it hands a call on: what it does to the layer's meaning.
use Rattle.std.proofs.Common.{◌≡◌, ℕ, Bool, true, false, not, ◌&&◌, ◌||◌, List, sym, refl, ap, ◌∙◌, subst, ap₂, arith}
use Rattle.std.proofs.lemmas.Bool.Decides.{nat_tests}
use Rattle.sink.specs.Faults.{Denial}
use Rattle.sink.specs.Calls.{Call, Start, Release, Hush, Tell, Set, Clear, Answer, ticket, done, denied, startable, tellable}
use Rattle.sink.specs.Meaning.{Meaning, Readiness, is_ready, refuses, Quieter, Means}
use Rattle.sink.specs.Layered.{ready_over, layered}
use Rattle.sink.proofs.Bools.{clash}
use Rattle.sink.proofs.Handed.{IfDenied, ready_steps, not_ready, refused, quieter_then}
use Rattle.roll.specs.declared.note.Note.{Note}
use Rattle.roll.specs.declared.note.Pick.{Pick}
use Rattle.roll.specs.Notes.{lists, left_out, picked, Distinct, full}
use Rattle.roll.specs.Rolls.{listed}
use Rattle.roll.proofs.Tickets.{full_left}
use Rattle.rolled.specs.declared.rolled.Rolled.{Rolled}
use Rattle.rolled.specs.Rolled.{notes_of, keeps, rolled_meaning, RollSound, NotReady, says_yes}
use Rattle.rolled.specs.Chains.{tickets_of, named, LetGo, Hushed}
use Rattle.rolled.proofs.Below.{Lawful}
use Rattle.rolled.proofs.Gone.{Gone, gone}
use Rattle.rolled.proofs.Silent.{Silenced, silenced, began_after}
use Rattle.rolled.proofs.Notes.{lists_left, distinct_left, keeps_left, named_listed}

-- readiness as a test
pub yes_ready : (r : Readiness) → says_yes r ≡ true → r ≡ is_ready
yes_ready is_ready e = refl
yes_ready (refuses d) e = clash false e refl

pub has_room : (full : Bool) (r : Readiness) → says_yes (ready_over full r) ≡ true → full ≡ false
has_room true is_ready e = clash false e refl
has_room false r e = refl
has_room true (refuses d) e = clash false e refl

pub unready : {L F : Type 0} (sees : F → Denial) (meaning : L → Meaning) (p c k v : ℕ) (s : L) (a : Answer F) (t : L) → startable c k v ≡ true → NotReady sees (meaning s) s a t → Means sees meaning s (Start p c k v) a t
unready sees meaning p c k v s a t ok d = refused sees meaning (Start p c k v) d.why s a t d.refused record { same = refl; because = (λ e. clash (startable c k v) ok e, λ e. d.because) }

-- A layer of states L has a part of states R that it hands calls to.
module _ {L R F : Type 0} (sees : F → Denial) (meaning : R → Meaning) (part : L → R) (l l' : L) where
  pub as_before : (a : Answer F) → (part l' ≡ part l → l' ≡ l) → IfDenied a (part l' ≡ part l → l' ≡ l)
  as_before (ticket t) e = tt
  as_before done e = tt
  as_before (denied f) e = e

  -- what the part has, the layer has, if its other parts are as before at a denial
  pub lifted : (c : Call) (a : Answer F) → IfDenied a (part l' ≡ part l → l' ≡ l) → Means sees meaning (part l) c a (part l') → Means sees (λ x. meaning (part x)) l c a l'
  lifted (Start p c k v) (ticket t) still m = m
  lifted (Start p c k v) done still m = m
  lifted (Start p c k v) (denied f) still m = record { same = still m.same; because = m.because }
  lifted (Release p t v) (ticket u) still m = m
  lifted (Release p t v) done still m = m
  lifted (Release p t v) (denied f) still m = record { same = still m.same; because = m.because }
  lifted (Hush p t) (ticket u) still m = m
  lifted (Hush p t) done still m = m
  lifted (Hush p t) (denied f) still m = record { same = still m.same; because = m.because }
  lifted (Tell p c n v) (ticket u) still m = m
  lifted (Tell p c n v) done still m = m
  lifted (Tell p c n v) (denied f) still m = record { same = still m.same; because = m.because }
  lifted (Set p d i v) (ticket u) still m = m
  lifted (Set p d i v) done still m = m
  lifted (Set p d i v) (denied f) still m = record { same = still m.same; because = m.because }
  lifted (Clear p) (ticket u) still m = m
  lifted (Clear p) done still m = m
  lifted (Clear p) (denied f) still m = m

  module _ (mid : R) where
    pub tell_after : (p c n v : ℕ) (a : Answer F) → tellable c n v ≡ true → Quieter (meaning (part l)) (meaning mid) → Means sees meaning mid (Tell p c n v) a (part l') → Means sees (λ x. meaning (part x)) l (Tell p c n v) a l'
    tell_after p c n v (ticket t) ok w m = m
    tell_after p c n v done ok w m = (ok, quieter_then (meaning (part l)) (meaning mid) (meaning (part l')) w m.1)
    tell_after p c n v (denied f) ok w m = clash (tellable c n v) ok m.because.0

    pub start_after : (p c k v : ℕ) (a : Answer F) → startable c k v ≡ true → (meaning (part l)).ready ≡ is_ready → Silenced (meaning (part l)) (meaning mid) → Means sees meaning mid (Start p c k v) a (part l') → Means sees (λ x. meaning (part x)) l (Start p c k v) a l'
    start_after p c k v (ticket t) ok free w m = (ok, began_after (meaning (part l)) (meaning mid) (meaning (part l')) t w m.1)
    start_after p c k v done ok free w m = m
    start_after p c k v (denied f) ok free w m = absurd (not_ready (sees f) (sym (m.because.1 ok) ∙ w.ready ∙ free))

    pub clear_after : (p : ℕ) (a : Answer F) → Quieter (meaning (part l)) (meaning mid) → ((u : ℕ) → (meaning (part l)).owed u ≡ true → (meaning mid).sounding u ≡ (meaning (part l)).sounding u) → Means sees meaning mid (Clear p) a (part l') → Means sees (λ x. meaning (part x)) l (Clear p) a l'
    clear_after p (ticket t) w s m = m
    clear_after p done w s m = record {
      ready = λ e. m.ready (w.ready e);
      owed = λ u. m.owed u ∙ w.owed u;
      kept = m.kept;
      sounding = λ u e. m.sounding u (w.owed u ∙ e) ∙ s u e;
    }
    clear_after p (denied f) w s m = m

-- some notes kept here are released below and leave the roll: they are kept no more, and all else stands
module _ (ns : List Note) (m m' : Meaning) (once : Distinct ns) (p : Note → Bool) (only_kept : (n : Note) → p n ≡ true → n.kept ≡ true) (g : Gone (tickets_of p ns) m m') where
  quieter : Quieter (layered (full ns) (keeps ns) m) (layered (full (left_out p ns)) (keeps (left_out p ns)) m')
  quieter = record {
    ready = ready_steps (full ns) (full (left_out p ns)) m.ready m'.ready (full_left p ns) g.ready;
    owed = λ u. grind (arith, nat_tests, g.owed u, keeps_left p ns u only_kept once);
    kept = λ u. grind (arith, nat_tests, g.kept u, keeps_left p ns u only_kept once);
    sounding = g.quiet;
  }

  owed_sounds : (u : ℕ) → (layered (full ns) (keeps ns) m).owed u ≡ true → m'.sounding u ≡ m.sounding u
  owed_sounds u e = grind (arith, nat_tests, g.sounding u, keeps_left p ns u only_kept once)

-- what a layer's own work leads to
pub record Worked {S : Type 0} (meaning : S → Meaning) (sound : S → Type 0) (r r' : Rolled S) : Type 0 where
  pub sound_after : RollSound meaning sound r'
  pub quieter : Quieter (rolled_meaning keeps meaning r) (rolled_meaning keeps meaning r')
  pub owed_sounds : (u : ℕ) → (rolled_meaning keeps meaning r).owed u ≡ true → (meaning r'.below).sounding u ≡ (meaning r.below).sounding u

pub worked_none : {S : Type 0} (meaning : S → Meaning) (sound : S → Type 0) (r r' : Rolled S) → r' ≡ r → RollSound meaning sound r → Worked meaning sound r r'
worked_none meaning sound r r' e h = subst (Worked meaning sound r) (sym e) record {
  sound_after = h;
  quieter = record { ready = λ f. f; owed = λ u. refl; kept = λ u f. f; sounding = λ u f. f };
  owed_sounds = λ u f. refl;
}

-- where notes below fall silent and the roll stays
pub hush_sound : {S : Type 0} (meaning : S → Meaning) (sound : S → Type 0) (r r' : Rolled S) → RollSound meaning sound r → sound r'.below → Silenced (meaning r.below) (meaning r'.below) → r'.roll ≡ r.roll → RollSound meaning sound r'
hush_sound meaning sound r r' h s w e = record {
  below = s;
  exact = λ u. w.owed u ∙ h.exact u ∙ ap (λ x. lists (listed x) u) (sym e);
  once = subst (λ x. Distinct (listed x)) (sym e) h.once;
}

pub hush_silenced : {S : Type 0} (meaning : S → Meaning) (own : List Note → ℕ → Bool) (r r' : Rolled S) → Silenced (meaning r.below) (meaning r'.below) → r'.roll ≡ r.roll → Silenced (rolled_meaning own meaning r) (rolled_meaning own meaning r')
hush_silenced meaning own r r' w e = record {
  ready = ap₂ (λ x y. ready_over (full (listed x)) y) e w.ready;
  owed = λ u. ap₂ (λ x y. x && not (own (listed y) u)) (w.owed u) e;
  kept = λ u. ap₂ (λ x y. x || own (listed y) u) (w.kept u) e;
  sounding = w.sounding;
}

module _ {S F : Type 0} {sees : F → Denial} {meaning : S → Meaning} {sound : S → Type 0} {does : S → Call → Answer F → S → Type 0} (law : Lawful sees meaning sound does) (r r' : Rolled S) (h : RollSound meaning sound r) (place : ℕ) (pick : Pick) where
  pub worked : ((n : Note) → picked pick n ≡ true → n.kept ≡ true) → LetGo does place pick r r' → Worked meaning sound r r'
  worked only_kept d =
      let g = gone law d.below h.below in
      let p = picked pick in
      let ns = notes_of r in
      let e = d.roll in
      record {
        sound_after = record {
          below = g.0;
          exact = λ u. g.1.owed u ∙ ap (λ b. b && not (named (tickets_of p ns) u)) (h.exact u) ∙ sym (ap (λ l. lists l u) e ∙ lists_left p ns u h.once);
          once = subst Distinct (sym e) (distinct_left p ns h.once);
        };
        quieter = subst (λ l. Quieter (layered (full ns) (keeps ns) (meaning r.below)) (layered (full l) (keeps l) (meaning r'.below))) (sym e) (quieter ns (meaning r.below) (meaning r'.below) h.once p only_kept g.1);
        owed_sounds = owed_sounds ns (meaning r.below) (meaning r'.below) h.once p only_kept g.1;
      }

  -- the notes picked are hushed: the roll is as it was, and none of them sounds
  pub hushed : (own : List Note → ℕ → Bool) → Hushed meaning does place pick r r' → RollSound meaning sound r' × Silenced (rolled_meaning own meaning r) (rolled_meaning own meaning r') × ((u : ℕ) → named (tickets_of (picked pick) (notes_of r)) u ≡ true → (meaning r'.below).sounding u ≡ false)
  hushed own d =
      let w = silenced law d.below h.below (λ u e. h.exact u ∙ named_listed (picked pick) (notes_of r) u e) in
      (hush_sound meaning sound r r' h w.0 w.1 d.roll, hush_silenced meaning own r r' w.1 d.roll, w.2)

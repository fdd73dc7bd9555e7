-- A hold has the meaning of a sink, if the sink below has it.
use Rattle.std.specs.Prelude.{◌≡◌, ℕ, ◌-◌, Bool, true, false, cond, not, ◌&&◌, ◌||◌, leb, List, [], ℤ, ◌==◌, nat_le, refl}
use Rattle.std.proofs.Common.{sym, ap, ap₂, subst, ◌∙◌}
use Rattle.std.proofs.Math.Bool.{and-false, or-false}
use Rattle.sink.specs.Faults.{Denial, layer_denial}
use Rattle.sink.specs.Calls.{Call, Start, Release, Hush, Tell, Set, Clear, Answer, startable, tellable}
use Rattle.sink.specs.Meaning.{Meaning, Means, Idle}
use Rattle.sink.specs.Layered.{Refused}
use Rattle.sink.specs.declared.fault.Cause.TheVariants.{OutOfRange, NotOwed, TellOutOfRange, NoSuchItem}
use Rattle.sink.specs.declared.fault.LayerFault.{LayerFault}
use Rattle.sink.specs.declared.fault.LayerFault.TheVariants.{Own}
use Rattle.sink.proofs.Bools.{clash, self_eq}
use Rattle.std.proofs.lemmas.Bool.{and_parts, or_parts}
use Rattle.sink.proofs.Handed.{ready_steps, redepthed}
use Rattle.sink.proofs.Refusals.{start_refused, release_refused, release_not_owed, hush_not_owed, tell_refused, item_refused}
use Rattle.roll.specs.declared.note.Note.{Note}
use Rattle.roll.specs.declared.note.Pick.TheVariants.{Kept, KeptOn}
use Rattle.roll.specs.Notes.{lists, left_out, picked, Distinct, full}
use Rattle.roll.specs.Rolls.{listed}
use Rattle.rolled.specs.declared.rolled.Rolled.{Rolled}
use Rattle.rolled.specs.Rolled.{notes_of, keeps, rolled_meaning, NotReady, says_yes}
use Rattle.rolled.specs.Chains.{LetGo}
use Rattle.rolled.proofs.Below.{Lawful}
use Rattle.rolled.proofs.Notes.{without_two, lists_marked, distinct_marked, length_marked, keeps_marked, keeps_cleared}
use Rattle.rolled.proofs.Onward.{Allowed, marked_owns, onward, new_sound}
use Rattle.rolled.proofs.Work.{has_room, unready, as_before, lifted, tell_after, clear_after, Worked, worked, worked_none}
use Rattle.hold.specs.declared.hold.Hold.{Hold}
use Rattle.hold.specs.Hold.{hold_meaning, HoldSound, Under, is_under_pedal, lifts, On, KeptHere, Told, ClearedAll, HoldDoes}
use Rattle.hold.specs.Pedals.{under_marked, under_listed, under_none, under_after, under_told}

same_state : {S : Type 0} (s t : Hold S) → t.pedals ≡ s.pedals → t.rolled ≡ s.rolled → t ≡ s
same_state s t q p = λ i. record { rolled = p i; pedals = q i }

kept_on_kept : (c : ℕ) (n : Note) → picked (KeptOn c) n ≡ true → n.kept ≡ true
kept_on_kept c n e = (and_parts n.kept (n.channel == c) e).0

module _ {S F : Type 0} {sees : F → Denial} {meaning : S → Meaning} {sound : S → Type 0} {does : S → Call → Answer F → S → Type 0} (law : Lawful sees meaning sound does) (s : Hold S) (a : Answer (LayerFault F)) (t : Hold S) (h : HoldSound meaning sound s) where
  abbrev D : LayerFault F → Denial
  D = layer_denial sees

  abbrev ns : List Note
  ns = notes_of s.rolled

  -- what is to show of a call: the state after is sound, and the call has its meaning
  abbrev Stands : Call → Type 0
  Stands c = HoldSound meaning sound t × Means D (hold_meaning meaning) s c a t

  unchanged : {f : LayerFault F} → Refused f s a t → HoldSound meaning sound t
  unchanged r = subst (HoldSound meaning sound) (sym r.same) h

  on : (c c' : Call) → Allowed (full ns) (keeps ns) c' → (Means D (rolled_meaning keeps meaning) s.rolled c' a t.rolled → Means D (rolled_meaning keeps meaning) s.rolled c a t.rolled) → On does c' s a t → Stands c
  on c c' ok shape d =
      let w = onward law marked_owns s.rolled t.rolled h.rolled c' a ok d.rolled in (
        record {
          rolled = w.0;
          under = subst (λ x. Under x.on (notes_of t.rolled)) (sym d.pedals) (under_after c' a s.pedals.on s.rolled.roll t.rolled.roll d.rolled.roll h.under);
        },
        lifted D (rolled_meaning keeps meaning) (λ (x : Hold S). x.rolled) s t c a (as_before D (rolled_meaning keeps meaning) (λ (x : Hold S). x.rolled) s t a (same_state s t d.pedals)) (shape w.1),
      )

  not_owed : (u : ℕ) → keeps ns u ≡ true → (hold_meaning meaning s).owed u ≡ false
  not_owed u e = ap (λ b. (meaning s.rolled.below).owed u && not b) e ∙ and-false ((meaning s.rolled.below).owed u)

  -- a release kept here
  kept_here : (p u v : ℕ) → nat_le v 127 ≡ true → keeps ns u ≡ false → is_under_pedal s.pedals.on ns u ≡ true → KeptHere u s a t → Stands (Release p u v)
  kept_here p u v ok unkept pedal r =
      let there = under_listed s.pedals.on ns u pedal in
      let e = r.below in
      let j = r.roll in
      let now-kept : (w : ℕ) → keeps (notes_of t.rolled) w ≡ (keeps ns w || u == w) = λ w. ap (λ l. keeps l w) j ∙ keeps_marked u ns w there in (
        record {
          rolled = record {
            below = subst sound (sym e) h.rolled.below;
            exact = λ w. ap (λ z. (meaning z).owed w) e ∙ h.rolled.exact w ∙ sym (ap (λ l. lists l w) j ∙ lists_marked u ns w);
            once = subst Distinct (sym j) (distinct_marked u ns h.rolled.once);
          };
          under = subst (λ x. Under x.on (notes_of t.rolled)) (sym r.pedals) (subst (Under s.pedals.on) (sym j) (under_marked u s.pedals.on ns pedal h.under));
        },
        subst (λ x. Means D (hold_meaning meaning) s (Release p u v) x t) (sym r.answer) (
          ok,
          record {
            was_owed = ap₂ (λ x y. x && not y) (h.rolled.exact u ∙ there) unkept;
            owed = λ w. ap₂ (λ x y. x && not y) (ap (λ z. (meaning z).owed w) e) (now-kept w) ∙ sym (without_two ((meaning s.rolled.below).owed w) (keeps ns w) (u == w));
            kept = λ w f. ap₂ ◌||◌ (ap (λ z. (meaning z).kept w) e) (now-kept w ∙ ap (λ b. keeps ns w || b) f ∙ or-false (keeps ns w));
            sounding = λ w f. ap (λ z. (meaning z).sounding w) e;
            falls_silent = λ f. clash (keeps (notes_of t.rolled) u) (now-kept u ∙ ap₂ ◌||◌ unkept (self_eq u)) (or_parts ((meaning t.rolled.below).kept u) (keeps (notes_of t.rolled) u) f).1;
            stays_silent = λ f. sym (ap (λ z. (meaning z).sounding u) e) ∙ f;
            ready = ready_steps (full ns) (full (notes_of t.rolled)) (meaning s.rolled.below).ready (meaning t.rolled.below).ready (λ f. ap full j ∙ ap (leb 128) (length_marked u ns) ∙ f) (λ f. ap (λ z. (meaning z).ready) e ∙ f);
          },
        ),
      )

  -- a tell's own work, and the tell handed on
  lift_work : (b : Bool) (p c : ℕ) (mid : Rolled S) → cond b (LetGo does p (KeptOn c) s.rolled mid) (mid ≡ s.rolled) → Worked meaning sound s.rolled mid × cond b (notes_of mid ≡ left_out (picked (KeptOn c)) ns) (notes_of mid ≡ ns)
  lift_work true p c mid d = (worked law s.rolled mid h.rolled p (KeptOn c) (kept_on_kept c) d, d.roll)
  lift_work false p c mid d = (worked_none meaning sound s.rolled mid d h.rolled, ap notes_of d)

  told : (p c n v : ℕ) → tellable c n v ≡ true → Told does p c n v s a t → Stands (Tell p c n v)
  told p c n v ok d =
      let w = lift_work (lifts n v) p c d.between d.lifted in
      let o = onward law marked_owns d.between t.rolled w.0.sound_after (Tell p c n v) a ok d.told in (
        record {
          rolled = o.0;
          under = subst (λ x. Under x (notes_of t.rolled)) (sym d.pedals) (subst (λ x. Under _ (listed x)) (sym d.told.roll) (under_told c n v s.pedals.on ns (notes_of d.between) w.1 h.under));
        },
        tell_after D (rolled_meaning keeps meaning) (λ (x : Hold S). x.rolled) s t d.between p c n v a ok w.0.quieter o.1,
      )

  cleared_all : (p : ℕ) → ClearedAll does p s a t → Stands (Clear p)
  cleared_all p d =
      let w = worked law s.rolled d.between h.rolled p Kept (λ n e. e) d.lifted in
      let none : (u : ℕ) → keeps (notes_of d.between) u ≡ false = λ u. ap (λ l. keeps l u) d.lifted.roll ∙ keeps_cleared ns u in
      let o = onward law marked_owns d.between t.rolled w.sound_after (Clear p) a none d.cleared in (
        record {
          rolled = o.0;
          under = subst (λ x. Under t.pedals.on (listed x)) (sym d.cleared.roll) (subst (Under t.pedals.on) (sym d.lifted.roll) (under_none t.pedals.on ns));
        },
        clear_after D (rolled_meaning keeps meaning) (λ (x : Hold S). x.rolled) s t d.between p a w.quieter w.owed_sounds o.1,
      )

  -- each call, by what the layer looks at first
  start_stands : (p c k v : ℕ) (x y : Bool) → startable c k v ≡ x → says_yes (hold_meaning meaning s).ready ≡ y → cond x (cond y (On does (Start p c k v) s a t) (NotReady D (hold_meaning meaning s) s a t)) (Refused (Own OutOfRange) s a t) → Stands (Start p c k v)
  start_stands p c k v true true e f d = on (Start p c k v) (Start p c k v) (e, has_room (full ns) (meaning s.rolled.below).ready f) (λ m. m) d
  start_stands p c k v true false e f d = (unchanged d.refused, unready D (hold_meaning meaning) p c k v s a t e d)
  start_stands p c k v false y e f d = (unchanged d, start_refused sees (hold_meaning meaning) s a t p c k v e d)

  release_stands : (p u v : ℕ) (x y z : Bool) → nat_le v 127 ≡ x → keeps ns u ≡ y → is_under_pedal s.pedals.on ns u ≡ z → cond x (cond y (Refused (Own NotOwed) s a t) (cond z (KeptHere u s a t) (On does (Release p u v) s a t))) (Refused (Own OutOfRange) s a t) → Stands (Release p u v)
  release_stands p u v true true z e f g d = (unchanged d, release_not_owed sees (hold_meaning meaning) s a t p u v e (not_owed u f) d)
  release_stands p u v true false true e f g d = kept_here p u v e f g d
  release_stands p u v true false false e f g d = on (Release p u v) (Release p u v) (e, f) (λ m. m) d
  release_stands p u v false y z e f g d = (unchanged d, release_refused sees (hold_meaning meaning) s a t p u v e d)

  hush_stands : (p u : ℕ) (x : Bool) → keeps ns u ≡ x → cond x (Refused (Own NotOwed) s a t) (On does (Hush p u) s a t) → Stands (Hush p u)
  hush_stands p u true e d = (unchanged d, hush_not_owed sees (hold_meaning meaning) s a t p u (not_owed u e) d)
  hush_stands p u false e d = on (Hush p u) (Hush p u) e (λ m. m) d

  tell_stands : (p c n v : ℕ) (x : Bool) → tellable c n v ≡ x → cond x (Told does p c n v s a t) (Refused (Own TellOutOfRange) s a t) → Stands (Tell p c n v)
  tell_stands p c n v true e d = told p c n v e d
  tell_stands p c n v false e d = (unchanged d, tell_refused sees (hold_meaning meaning) s a t p c n v e d)

  set_stands : (p e i : ℕ) (v : ℤ) (x : Bool) → cond x (Refused (Own NoSuchItem) s a t) (On does (Set p (e - 1) i v) s a t) → Stands (Set p e i v)
  set_stands p e i v true d = (unchanged d, item_refused sees (hold_meaning meaning) s a t p e i v d)
  set_stands p e i v false d = on (Set p e i v) (Set p (e - 1) i v) tt (redepthed D (rolled_meaning keeps meaning) s.rolled t.rolled p e (e - 1) i v a) d

  pub hold_stands : (c : Call) → HoldDoes sees meaning does s c a t → Stands c
  hold_stands (Start p c k v) d = start_stands p c k v (startable c k v) (says_yes (hold_meaning meaning s).ready) refl refl d
  hold_stands (Release p u v) d = release_stands p u v (nat_le v 127) (keeps ns u) (is_under_pedal s.pedals.on ns u) refl refl refl d
  hold_stands (Hush p u) d = hush_stands p u (keeps ns u) refl d
  hold_stands (Tell p c n v) d = tell_stands p c n v (tellable c n v) refl d
  hold_stands (Set p e i v) d = set_stands p e i v (e == 0) d
  hold_stands (Clear p) d = cleared_all p d

pub hold_new : {S : Type 0} (meaning : S → Meaning) (sound : S → Type 0) (s : Hold S) → notes_of s.rolled ≡ [] → Idle (meaning s.rolled.below) → sound s.rolled.below → HoldSound meaning sound s
unfolding Under
hold_new meaning sound s none idle h = record { rolled = new_sound meaning sound s.rolled none idle h; under = subst (Under s.pedals.on) (sym none) tt }

-- What sounds, and what is owed, once a ticket begins or stops.
use Rattle.std.proofs.Common.{◌≡◌, ℕ, ◌<◌, Bool, true, false, cond, not, ◌&&◌, ◌||◌, eqb, List, [], ◌∷◌, ◌++◌, length, set, replicate, is_some, Some, None, Option, Result, sym, refl, ap, ◌∙◌, subst, ap₂, arith}
use mathlib.Core.Bool.{and-true, and-false}
use Rattle.std.proofs.lemmas.Bool.{and_parts}
use Rattle.sink.specs.Meaning.{Idle}
use Rattle.sink.specs.declared.fault.Cause.{Cause}
use Rattle.sink.proofs.Bools.{clash, self_eq, same_or}
use Rattle.roll.specs.Notes.{found, lists, left_out, picked, Distinct}
use Rattle.roll.specs.Voices.{voice}
use Rattle.roll.specs.declared.note.Note.{Note}
use Rattle.roll.specs.declared.note.Pick.TheVariants.{Ticket}
use Rattle.roll.proofs.Tallies.{at_set, none_there}
use Rattle.roll.proofs.Tickets.{found_lists, lists_snoc, distinct_snoc, lists_drop, distinct_drop}
use Rattle.ends.specs.Ending.{end_meaning, InOrder}

is_some_cond : {V : Type 0} (b : Bool) (x y : Option V) → is_some (cond b x y) ≡ cond b (is_some x) (is_some y)
is_some_cond true x y = refl
is_some_cond false x y = refl

pub silenced : (b x : Bool) → cond b false x ≡ (x && not b)
silenced true x = sym (and-false x)
silenced false x = sym (and-true x)

pub is_none : {V : Type 0} (o : Option V) → is_some o ≡ false → o ≡ None
is_none None e = refl
is_none (Some v) e = clash true refl e

pub owed_note : (ns : List Note) (u : ℕ) (o : Option Note) → found u ns ≡ o → lists ns u ≡ is_some o
owed_note ns u o e = sym (found_lists u ns) ∙ ap is_some e

-- the voice of one ticket is written
module _ {V : Type 0} (xs ys : List (Option V)) (i : ℕ) (x : Option V) (long : length xs ≡ 128) (lt : i < 128) (e : ys ≡ set xs i x) where
  pub sounds_at : (u : ℕ) → is_some (voice ys u) ≡ cond (eqb i u) (is_some x) (is_some (voice xs u))
  sounds_at u = ap (λ l. is_some (voice l u)) e ∙ ap is_some (at_set xs i u x (omega arith)) ∙ is_some_cond (eqb i u) x (voice xs u)

  pub at_itself : is_some (voice ys i) ≡ is_some x
  at_itself = sounds_at i ∙ ap (λ b. cond b (is_some x) (is_some (voice xs i))) (self_eq i)

  pub at_another : (u : ℕ) → eqb i u ≡ false → is_some (voice ys u) ≡ is_some (voice xs u)
  at_another u ne = sounds_at u ∙ ap (λ b. cond b (is_some x) (is_some (voice xs u))) ne

-- a new end: nothing is owed, and nothing sounds
module _ {V : Type 0} (ns : List Note) (xs : List (Option V)) (empty : ns ≡ []) (silent : xs ≡ replicate 128 None) where
  none_owed : (u : ℕ) → lists ns u ≡ false
  unfolding lists
  none_owed u = ap (λ l. lists l u) empty

  none_sounds : (u : ℕ) → is_some (voice xs u) ≡ false
  none_sounds u = ap (λ l. is_some (voice l u)) silent ∙ ap is_some (none_there 128 u)

  pub new_order : InOrder ns xs
  unfolding Distinct
  new_order = record {
    once = subst Distinct (sym empty) tt;
    small = λ u e. clash (lists ns u) e (none_owed u);
    within = λ u e. clash (is_some (voice xs u)) e (none_sounds u);
  }

  pub new_idle : (r : Result (Unit {0}) Cause) → Idle (end_meaning r ns xs)
  new_idle r = record { owed = none_owed; kept = λ u. refl; sounding = none_sounds }

-- a new note, and its ticket sounds; others may have fallen silent first
pub begun_order : {V : Type 0} (ns : List Note) (xs zs ys : List (Option V)) (n : Note) (v : V) → InOrder ns xs → n.ticket < 128 → lists ns n.ticket ≡ false → length zs ≡ 128 → ((u : ℕ) → is_some (voice zs u) ≡ true → is_some (voice xs u) ≡ true) → ys ≡ set zs n.ticket (Some v) → InOrder (ns ++ (n ∷ [])) ys
begun_order ns xs zs ys n v o lt fresh long quieter e =
    let i = n.ticket in
    record {
      once = distinct_snoc ns n o.once fresh;
      small = λ u f. same_or (λ x. (eqb i x || lists ns x) ≡ true → x < 128) i u (λ _. lt) (λ ne g. o.small u (sym (ap (λ b. b || lists ns u) ne) ∙ g)) (sym (lists_snoc ns n u) ∙ f);
      within = λ u f. lists_snoc ns n u ∙ same_or (λ x. is_some (voice ys x) ≡ true → (eqb i x || lists ns x) ≡ true) i u (λ _. ap (λ b. b || lists ns i) (self_eq i)) (λ ne g. ap (λ b. b || lists ns u) ne ∙ o.within u (quieter u (sym (at_another zs ys i (Some v) long lt e u ne) ∙ g))) f;
    }

-- a ticket stops; what sounds after it is still in the roll
stop_within : {V : Type 0} (ns ms : List Note) (xs ys : List (Option V)) (u : ℕ) → InOrder ns xs → u < 128 → length xs ≡ 128 → ys ≡ set xs u None → ((w : ℕ) → eqb u w ≡ false → lists ns w ≡ true → lists ms w ≡ true) → (w : ℕ) → is_some (voice ys w) ≡ true → lists ms w ≡ true
stop_within ns ms xs ys u o lt long e stay w f = same_or (λ x. is_some (voice ys x) ≡ true → lists ms x ≡ true) u w (λ g. clash (is_some (voice ys u)) g (at_itself xs ys u None long lt e)) (λ ne g. stay w ne (o.within w (sym (at_another xs ys u None long lt e w ne) ∙ g))) f

pub hushed_order : {V : Type 0} (ns : List Note) (xs ys : List (Option V)) (u : ℕ) → InOrder ns xs → u < 128 → length xs ≡ 128 → ys ≡ set xs u None → InOrder ns ys
hushed_order ns xs ys u o lt long e = record { once = o.once; small = o.small; within = stop_within ns ns xs ys u o lt long e (λ w ne f. f) }

pub ended_order : {V : Type 0} (ns : List Note) (xs ys : List (Option V)) (u : ℕ) → InOrder ns xs → u < 128 → length xs ≡ 128 → ys ≡ set xs u None → InOrder (left_out (picked (Ticket u)) ns) ys
ended_order ns xs ys u o lt long e = record {
  once = distinct_drop u ns o.once;
  small = λ w f. o.small w (and_parts (lists ns w) (not (eqb u w)) (sym (lists_drop u ns w) ∙ f)).0;
  within = stop_within ns (left_out (picked (Ticket u)) ns) xs ys u o lt long e (λ w ne f. lists_drop u ns w ∙ ap₂ (λ x y. x && not y) f ne);
}

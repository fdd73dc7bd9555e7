-- No note is kept under a raised pedal: what becomes of this when a roll or the pedals change.
use Rattle.std.specs.Prelude.{◌≡◌, ℕ, zero, suc, Bool, true, false, cond, ◌&&◌, ◌||◌, List, [], ◌∷◌, ◌++◌, Some, Option, ◌==◌, nat_le, slice_index_or, slice_set, refl}
use Rattle.std.proofs.Common.{sym, ap, ap₂, subst, ◌∙◌, arith, eqb-true, eq-eqb, leb-false, le-leb}
use Rattle.std.proofs.lemmas.List.{get_or-set_other}
use Rattle.sink.specs.Calls.{Call, Start, Release, Hush, Tell, Set, Clear, Answer, ticket, done, denied}
use Rattle.sink.proofs.Bools.{clash}
use Rattle.std.proofs.lemmas.Bool.{and_parts}
use Rattle.roll.specs.declared.note.Note.{Note}
use Rattle.roll.specs.declared.note.Pick.TheVariants.{Ticket, Kept, KeptOn}
use Rattle.roll.specs.declared.roll.Roll.{Roll}
use Rattle.roll.specs.Notes.{found, lists, marked, mark_kept, left_out, picked, full}
use Rattle.roll.specs.Rolls.{listed}
use Rattle.rolled.specs.Rolled.{new_note, RollAfter}
use Rattle.rolled.specs.Chains.{tickets_of}
use Rattle.hold.specs.Hold.{Under, note_under, is_under_pedal, lifts, moved}

under_snoc : (down : List Bool) (ns : List Note) (n : Note) → n.kept ≡ false → Under down ns → Under down (ns ++ (n ∷ []))
unfolding Under
under_snoc down [] n e u = (λ k. clash n.kept k e, tt)
under_snoc down (m ∷ ns) n e u = (u.0, under_snoc down ns n e u.1)

under_added : (b : Bool) (down : List Bool) (ns : List Note) (n : Note) → n.kept ≡ false → Under down ns → Under down (cond b ns (ns ++ (n ∷ [])))
under_added true down ns n e u = u
under_added false down ns n e u = under_snoc down ns n e u

left_step : (b : Bool) (down : List Bool) (n : Note) (ms : List Note) → (n.kept ≡ true → slice_index_or down n.channel false ≡ true) → Under down ms → Under down (cond b ms (n ∷ ms))
unfolding Under
left_step true down n ms f u = u
left_step false down n ms f u = (f, u)

pub under_left : (p : Note → Bool) (down : List Bool) (ns : List Note) → Under down ns → Under down (left_out p ns)
unfolding Under left_out
under_left p down [] u = tt
under_left p down (n ∷ ns) u = left_step (p n) down n (left_out p ns) u.0 (under_left p down ns u.1)

mark_step : (b : Bool) (down : List Bool) (n : Note) (o : Option Note) (ns ms : List Note) → note_under down (cond b (Some n) o) ≡ true → (n.kept ≡ true → slice_index_or down n.channel false ≡ true) → Under down ns → (note_under down o ≡ true → Under down ms) → Under down (cond b (mark_kept n ∷ ns) (n ∷ ms))
unfolding Under
mark_step true down n o ns ms e f u g = (λ _. e, u)
mark_step false down n o ns ms e f u g = (f, g e)

pub under_marked : (t : ℕ) (down : List Bool) (ns : List Note) → is_under_pedal down ns t ≡ true → Under down ns → Under down (marked t ns)
unfolding Under found marked
under_marked t down [] e u = tt
under_marked t down (n ∷ ns) e u = mark_step (n.ticket == t) down n (found t ns) ns (marked t ns) e u.0 u.1 (λ f. under_marked t down ns f u.1)

-- a ticket under a pedal is among the notes
listed_step : (down : List Bool) (n : Note) (o : Option Note) (b l : Bool) → (note_under down o ≡ true → l ≡ true) → note_under down (cond b (Some n) o) ≡ true → (b || l) ≡ true
listed_step down n o true l f e = refl
listed_step down n o false l f e = f e

pub under_listed : (down : List Bool) (ns : List Note) (u : ℕ) → is_under_pedal down ns u ≡ true → lists ns u ≡ true
unfolding found lists
under_listed down [] u e = e
under_listed down (n ∷ ns) u e = listed_step down n (found u ns) (n.ticket == u) (lists ns u) (under_listed down ns u) e

-- a pedal pressed
pressed : (down : List Bool) (c x : ℕ) → slice_index_or down x false ≡ true → slice_index_or (slice_set down c true) x false ≡ true
pressed [] c x e = e
pressed (d ∷ down) zero zero e = refl
pressed (d ∷ down) zero (suc x) e = e
pressed (d ∷ down) (suc c) zero e = e
pressed (d ∷ down) (suc c) (suc x) e = pressed down c x e

under_pressed : (c : ℕ) (down : List Bool) (ns : List Note) → Under down ns → Under (slice_set down c true) ns
unfolding Under
under_pressed c down [] u = tt
under_pressed c down (n ∷ ns) u = (λ k. pressed down c n.channel (u.0 k), under_pressed c down ns u.1)

-- a pedal raised, and what was kept there gone
raised_step : (b : Bool) (c : ℕ) (down : List Bool) (n : Note) (ms : List Note) → (n.kept && n.channel == c) ≡ b → (n.kept ≡ true → slice_index_or down n.channel false ≡ true) → Under (slice_set down c false) ms → Under (slice_set down c false) (cond b ms (n ∷ ms))
unfolding Under
raised_step true c down n ms e f u = u
raised_step false c down n ms e f u = (λ k. get_or-set_other down c n.channel false false (λ q. clash (n.kept && n.channel == c) (ap₂ ◌&&◌ k (eq-eqb n.channel c q)) e) ∙ f k, u)

under_raised : (c : ℕ) (down : List Bool) (ns : List Note) → Under down ns → Under (slice_set down c false) (left_out (picked (KeptOn c)) ns)
unfolding Under left_out
under_raised c down [] u = tt
under_raised c down (n ∷ ns) u = raised_step (picked (KeptOn c) n) c down n (left_out (picked (KeptOn c)) ns) refl u.0 (under_raised c down ns u.1)

-- nothing kept
none_step : (b : Bool) (down : List Bool) (n : Note) (ms : List Note) → n.kept ≡ b → Under down ms → Under down (cond b ms (n ∷ ms))
unfolding Under
none_step true down n ms e u = u
none_step false down n ms e u = (λ k. clash n.kept k e, u)

pub under_none : (down : List Bool) (ns : List Note) → Under down (left_out (picked Kept) ns)
unfolding Under left_out
under_none down [] = tt
under_none down (n ∷ ns) = none_step n.kept down n (left_out (picked Kept) ns) refl (under_none down ns)

-- a call handed on
pub under_after : {F : Type 0} (c : Call) (a : Answer F) (down : List Bool) (r r' : Roll) → RollAfter c a r r' → Under down (listed r) → Under down (listed r')
under_after (Start p c k v) (ticket t) down r r' j u = subst (Under down) (sym j) (under_added (full (listed r)) down (listed r) (new_note t c k v) refl u)
under_after (Start p c k v) done down r r' j u = subst (λ x. Under down (listed x)) (sym j) u
under_after (Start p c k v) (denied f) down r r' j u = subst (λ x. Under down (listed x)) (sym j) u
under_after (Release p t v) (ticket x) down r r' j u = subst (λ x. Under down (listed x)) (sym j) u
under_after (Release p t v) done down r r' j u = subst (Under down) (sym j) (under_left (picked (Ticket t)) down (listed r) u)
under_after (Release p t v) (denied f) down r r' j u = subst (λ x. Under down (listed x)) (sym j) u
under_after (Hush p t) a down r r' j u = subst (λ x. Under down (listed x)) (sym j) u
under_after (Tell p c n v) a down r r' j u = subst (λ x. Under down (listed x)) (sym j) u
under_after (Set p d i v) a down r r' j u = subst (λ x. Under down (listed x)) (sym j) u
under_after (Clear p) a down r r' j u = subst (λ x. Under down (listed x)) (sym j) u

-- a tell's own work
or_last : (a b : Bool) → (a || (b || true)) ≡ true
or_last true b = refl
or_last false true = refl
or_last false false = refl

module _ (c n v : ℕ) (down : List Bool) (ns nb : List Note) (work : cond (lifts n v) (nb ≡ left_out (picked (KeptOn c)) ns) (nb ≡ ns)) (u : Under down ns) where
  fewer : (b : Bool) → cond b (nb ≡ left_out (picked (KeptOn c)) ns) (nb ≡ ns) → Under down nb
  fewer true e = subst (Under down) (sym e) (under_left (picked (KeptOn c)) down ns u)
  fewer false e = subst (Under down) (sym e) u

  gone : lifts n v ≡ true → Under (slice_set down c false) nb
  gone e = subst (Under (slice_set down c false)) (sym (subst (λ b. cond b (nb ≡ left_out (picked (KeptOn c)) ns) (nb ≡ ns)) e work)) (under_raised c down ns u)

  by_cases : (x y z : Bool) → (n == 64) ≡ x → (n == 121) ≡ y → nat_le 64 v ≡ z → Under (cond x (slice_set down c z) (cond y (slice_set down c false) down)) nb
  by_cases true y true p q r = under_pressed c down nb (fewer (lifts n v) work)
  by_cases true y false p q r = let lt = leb-false 64 v r in gone (ap₂ (λ a b. (a && b) || (n == 120 || n == 121)) p (le-leb v 63 (omega arith)))
  by_cases false true z p q r = gone (ap (λ b. (n == 64 && nat_le v 63) || (n == 120 || b)) q ∙ or_last (n == 64 && nat_le v 63) (n == 120))
  by_cases false false z p q r = fewer (lifts n v) work

  pub under_told : Under (moved c n v down) nb
  under_told = by_cases (n == 64) (n == 121) (nat_le 64 v) refl refl refl

-- under a raised pedal no note is kept
kept_step : (b : Bool) (down : List Bool) (c : ℕ) (n : Note) (ks : List ℕ) → (n.kept && n.channel == c) ≡ b → slice_index_or down c false ≡ false → (n.kept ≡ true → slice_index_or down n.channel false ≡ true) → ks ≡ [] → cond b (n.ticket ∷ ks) ks ≡ []
kept_step true down c n ks e up f h = clash (slice_index_or down c false) (subst (λ x. slice_index_or down x false ≡ true) (eqb-true n.channel c (and_parts n.kept (n.channel == c) e).1) (f (and_parts n.kept (n.channel == c) e).0)) up
kept_step false down c n ks e up f h = h

pub none_under_raised : (down : List Bool) (c : ℕ) (ns : List Note) → slice_index_or down c false ≡ false → Under down ns → tickets_of (picked (KeptOn c)) ns ≡ []
unfolding Under tickets_of
none_under_raised down c [] up u = refl
none_under_raised down c (n ∷ ns) up u = kept_step (picked (KeptOn c) n) down c n (tickets_of (picked (KeptOn c)) ns) refl up u.0 (none_under_raised down c ns up u.1)

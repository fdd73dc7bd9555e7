-- A layer with a roll that hands a call on has the meaning of a sink, if the sink below has it.
use Rattle.std.proofs.Common.{◌≡◌, ℕ, Bool, true, false, cond, not, ◌&&◌, ◌||◌, eqb, leb, List, [], ◌∷◌, ◌++◌, sym, refl, ap, ◌∙◌, subst}
use Rattle.sink.specs.Faults.{Denial, layer_denial}
use Rattle.sink.specs.Calls.{Call, Start, Release, Hush, Tell, Set, Clear, Answer, ticket, done, denied, startable, tellable}
use Rattle.sink.specs.Meaning.{Meaning, Means, Orderly, Idle}
use Rattle.sink.specs.Layered.{passed}
use Rattle.sink.specs.declared.fault.LayerFault.{LayerFault}
use Rattle.sink.proofs.Bools.{clash}
use Rattle.sink.proofs.Handed.{Checked, IfDenied, handed_if, layer_orderly}
use Rattle.roll.specs.declared.note.Note.{Note}
use Rattle.roll.specs.declared.note.Pick.TheVariants.{Ticket}
use Rattle.roll.specs.Notes.{lists, added, left_out, picked, Distinct, full}
use Rattle.roll.specs.Rolls.{listed}
use Rattle.roll.proofs.Tickets.{lists_snoc, distinct_snoc, lists_drop, full_left}
use Rattle.rolled.specs.declared.rolled.Rolled.{Rolled}
use Rattle.rolled.specs.Rolled.{notes_of, keeps, keeps_none, rolled_meaning, RollSound, new_note, RollAfter, Onward}
use Rattle.rolled.proofs.Below.{Lawful}
use Rattle.rolled.proofs.Notes.{keeps_listed, keeps_snoc, keeps_drop, distinct_left}

-- Which tickets a layer keeps itself: some of its roll, and a note that joins or leaves the roll changes nothing of it.
pub record Owns (own : List Note → ℕ → Bool) : Type 0 where
  pub within : (ns : List Note) (u : ℕ) → own ns u ≡ true → lists ns u ≡ true
  pub joined : (ns : List Note) (n : Note) (u : ℕ) → n.kept ≡ false → own (ns ++ (n ∷ [])) u ≡ own ns u
  pub left : (t : ℕ) (ns : List Note) (u : ℕ) → Distinct ns → own ns t ≡ false → own (left_out (picked (Ticket t)) ns) u ≡ own ns u

pub marked_owns : Owns keeps
marked_owns = record { within = keeps_listed; joined = keeps_snoc; left = keeps_drop }

pub none_owns : Owns keeps_none
none_owns = record { within = λ ns u e. clash false e refl; joined = λ ns n u e. refl; left = λ t ns u d e. refl }

-- what a layer has looked at itself before it hands a call on
abbrev pub Allowed : Bool → (ℕ → Bool) → Call → Type 0
Allowed full own (Start p c k v) = (startable c k v ≡ true) × (full ≡ false)
Allowed full own (Release p t v) = (leb v 127 ≡ true) × (own t ≡ false)
Allowed full own (Hush p t) = own t ≡ false
Allowed full own (Tell p c n v) = tellable c n v ≡ true
Allowed full own (Set p d i v) = Unit {0}
Allowed full own (Clear p) = (u : ℕ) → own u ≡ false

joins : (n : Note) (ns ns' : List Note) → full ns ≡ false → ns' ≡ added n ns → ns' ≡ ns ++ (n ∷ [])
joins n ns ns' room e = e ∙ ap (λ b. cond b ns (ns ++ (n ∷ []))) room

same_rolled : {S : Type 0} (r r' : Rolled S) → r'.roll ≡ r.roll → r'.below ≡ r.below → r' ≡ r
same_rolled r r' q p = λ i. record { below = p i; roll = q i }

module _ {S F : Type 0} (r r' : Rolled S) where
  as_before : (b : Answer F) → r'.roll ≡ r.roll → IfDenied b (r'.below ≡ r.below → r' ≡ r)
  as_before (ticket t) e = tt
  as_before done e = tt
  as_before (denied f) e = same_rolled r r' e

  still : (c : Call) (b : Answer F) → RollAfter c (passed b) r.roll r'.roll → IfDenied b (r'.below ≡ r.below → r' ≡ r)
  still (Start p c k v) (ticket t) j = tt
  still (Start p c k v) done j = tt
  still (Start p c k v) (denied f) j = same_rolled r r' j
  still (Release p t v) (ticket u) j = tt
  still (Release p t v) done j = tt
  still (Release p t v) (denied f) j = same_rolled r r' j
  still (Hush p t) b j = as_before b j
  still (Tell p c n v) b j = as_before b j
  still (Set p d i v) b j = as_before b j
  still (Clear p) b j = as_before b j

module _ {S F : Type 0} {sees : F → Denial} {meaning : S → Meaning} {sound : S → Type 0} {does : S → Call → Answer F → S → Type 0} (law : Lawful sees meaning sound does) {own : List Note → ℕ → Bool} (o : Owns own) (r r' : Rolled S) (h : RollSound meaning sound r) where
  -- the roll after a call lists again what is owed below
  record After (c : Call) : Type 0 where
    exact : (u : ℕ) → (meaning r'.below).owed u ≡ lists (notes_of r') u
    once : Distinct (notes_of r')
    same : (u : ℕ) → own (notes_of r') u ≡ own (notes_of r) u
    checked : Checked (full (notes_of r)) (full (notes_of r')) (own (notes_of r)) c

  roll_stays : (c : Call) → r'.roll ≡ r.roll → ((u : ℕ) → (meaning r'.below).owed u ≡ (meaning r.below).owed u) → Checked (full (notes_of r)) (full (notes_of r)) (own (notes_of r)) c → After c
  roll_stays c e f ch = record {
    exact = λ u. f u ∙ h.exact u ∙ ap (λ x. lists (listed x) u) (sym e);
    once = subst (λ x. Distinct (listed x)) (sym e) h.once;
    same = λ u. ap (λ x. own (listed x) u) e;
    checked = subst (λ x. Checked (full (notes_of r)) (full (listed x)) (own (notes_of r)) c) (sym e) ch;
  }

  owed_same : r'.below ≡ r.below → (u : ℕ) → (meaning r'.below).owed u ≡ (meaning r.below).owed u
  owed_same e u = ap (λ z. (meaning z).owed u) e

  after : (c : Call) (b : Answer F) → Allowed (full (notes_of r)) (own (notes_of r)) c → Means sees meaning r.below c b r'.below → RollAfter c (passed b) r.roll r'.roll → After c
  after (Start p c k v) (ticket t) ok m j =
      let n = new_note t c k v in
      let e = joins n (notes_of r) (notes_of r') ok.1 j in
      record {
        exact = λ u. m.1.owed u ∙ ap (λ b. eqb t u || b) (h.exact u) ∙ sym (ap (λ l. lists l u) e ∙ lists_snoc (notes_of r) n u);
        once = subst Distinct (sym e) (distinct_snoc (notes_of r) n h.once (sym (h.exact t) ∙ m.1.not_owed));
        same = λ u. ap (λ l. own l u) e ∙ o.joined (notes_of r) n u refl;
        checked = ok;
      }
  after (Start p c k v) done ok m j = absurd m
  after (Start p c k v) (denied f) ok m j = roll_stays (Start p c k v) j (owed_same m.same) ok
  after (Release p t v) (ticket x) ok m j = absurd m
  after (Release p t v) done ok m j = record {
    exact = λ u. m.1.owed u ∙ ap (λ b. b && not (eqb t u)) (h.exact u) ∙ sym (ap (λ l. lists l u) j ∙ lists_drop t (notes_of r) u);
    once = subst Distinct (sym j) (distinct_left (picked (Ticket t)) (notes_of r) h.once);
    same = λ u. ap (λ l. own l u) j ∙ o.left t (notes_of r) u h.once ok.1;
    checked = (ok.0, ok.1, λ f. ap full j ∙ full_left (picked (Ticket t)) (notes_of r) f);
  }
  after (Release p t v) (denied f) ok m j = roll_stays (Release p t v) j (owed_same m.same) (ok.0, ok.1, λ e. e)
  after (Hush p t) (ticket x) ok m j = absurd m
  after (Hush p t) done ok m j = roll_stays (Hush p t) j m.owed (ok, refl)
  after (Hush p t) (denied f) ok m j = roll_stays (Hush p t) j (owed_same m.same) (ok, refl)
  after (Tell p c n v) (ticket x) ok m j = absurd m
  after (Tell p c n v) done ok m j = roll_stays (Tell p c n v) j m.1.owed (ok, λ e. e)
  after (Tell p c n v) (denied f) ok m j = roll_stays (Tell p c n v) j (owed_same m.same) (ok, λ e. e)
  after (Set p d i v) (ticket x) ok m j = absurd m
  after (Set p d i v) done ok m j = roll_stays (Set p d i v) j m.owed (λ e. e)
  after (Set p d i v) (denied f) ok m j = roll_stays (Set p d i v) j (owed_same m.same) (λ e. e)
  after (Clear p) (ticket x) ok m j = absurd m
  after (Clear p) done ok m j = roll_stays (Clear p) j m.owed (ok, λ e. e)
  after (Clear p) (denied f) ok m j = absurd m

  pub onward : (c : Call) (a : Answer (LayerFault F)) → Allowed (full (notes_of r)) (own (notes_of r)) c → Onward does c r a r' → RollSound meaning sound r' × Means (layer_denial sees) (rolled_meaning own meaning) r c a r'
  onward c a ok d =
      let b = d.handed.below in
      let m = law.means r.below c b r'.below h.below d.handed.call in
      let j = subst (λ x. RollAfter c x r.roll r'.roll) d.handed.up d.roll in
      let af = after c b ok m j in (
        record { below = law.stays r.below c b r'.below h.below d.handed.call; exact = af.exact; once = af.once },
        subst (λ x. Means (layer_denial sees) (rolled_meaning own meaning) r c x r') (sym d.handed.up)
            (handed_if sees meaning (λ (x : Rolled S). x.below) (λ x. full (notes_of x)) (λ x. own (notes_of x)) r r' af.same (λ u e. h.exact u ∙ o.within (notes_of r) u e) c b (still r r' c b j) af.checked m),
      )

module _ {S F : Type 0} {sees : F → Denial} {meaning : S → Meaning} {sound : S → Type 0} {does : S → Call → Answer F → S → Type 0} (law : Lawful sees meaning sound does) {own : List Note → ℕ → Bool} (o : Owns own) (r : Rolled S) where
  pub rolled_orderly : RollSound meaning sound r → Orderly (rolled_meaning own meaning r)
  rolled_orderly h = layer_orderly (full (notes_of r)) (own (notes_of r)) (meaning r.below) (λ u e. h.exact u ∙ o.within (notes_of r) u e) (law.orderly r.below h.below)

-- over an idle sink, an empty roll lists exactly what is owed
module _ {S : Type 0} (meaning : S → Meaning) (sound : S → Type 0) (r : Rolled S) (none : notes_of r ≡ []) (idle : Idle (meaning r.below)) where
  pub new_sound : sound r.below → RollSound meaning sound r
  unfolding lists Distinct
  new_sound h = record { below = h; exact = λ u. idle.owed u ∙ sym (ap (λ l. lists l u) none); once = subst Distinct (sym none) tt }

  pub new_idle : {own : List Note → ℕ → Bool} → Owns own → Idle (rolled_meaning own meaning r)
  unfolding lists
  new_idle {own} o = record {
    owed = λ u. ap (λ b. b && not (own (notes_of r) u)) (idle.owed u);
    kept = λ u. ap (λ b. b || own (notes_of r) u) (idle.kept u) ∙ unowned u (own (notes_of r) u) refl;
    sounding = idle.sounding;
  }
    where
      unowned : (u : ℕ) (b : Bool) → own (notes_of r) u ≡ b → b ≡ false
      unowned u true e = clash false (sym (ap (λ l. lists l u) none) ∙ o.within (notes_of r) u e) refl
      unowned u false e = refl

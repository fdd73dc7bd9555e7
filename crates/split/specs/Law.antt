-- A split has the meaning of a sink, if the sink below has it.
use Rattle.std.specs.Prelude.{◌≡◌, ℕ, ◌-◌, ◌≤◌, Bool, true, false, cond, ◌&&◌, ℤ, ◌==◌, nat_le, nat_lt, refl}
use Rattle.std.proofs.Common.{sym, ap, ap₂, subst, le-leb}
use Rattle.sink.specs.Faults.{Denial, layer_denial}
use Rattle.sink.specs.Calls.{Call, Start, Release, Hush, Tell, Set, Clear, Answer, ticket, done, denied, startable, tellable, heard}
use Rattle.sink.specs.Meaning.{Meaning, Means, Orderly}
use Rattle.sink.specs.Layered.{passed, Refused}
use Rattle.sink.specs.declared.fault.Cause.TheVariants.{OutOfRange, TellOutOfRange, NoSuchItem, ValueOutOfRange}
use Rattle.sink.specs.declared.fault.LayerFault.{LayerFault}
use Rattle.sink.specs.declared.fault.LayerFault.TheVariants.{Own}
use Rattle.sink.proofs.Bools.{clash}
use Rattle.std.proofs.lemmas.Bool.{and_parts}
use Rattle.sink.proofs.Handed.{Checked, handed, rekeyed, redepthed, retold, layer_orderly, quieter_same, quieter_then}
use Rattle.sink.proofs.Refusals.{start_refused, release_refused, tell_refused, item_refused, value_refused}
use Rattle.split.specs.declared.split.Split.{Split}
use Rattle.split.specs.declared.zones.Zones.{Zones}
use Rattle.split.specs.Zones.{side, sent_to, is_value}
use Rattle.split.specs.Split.{no_roll, keeps_none, split_meaning, On, HighTold, Both, Tells, Zoned, SplitDoes}

same_state : {S : Type 0} (s t : Split S) → t.zones ≡ s.zones → t.below ≡ s.below → t ≡ s
same_state s t q p = λ i. record { below = p i; zones = q i }

-- a start or a tell on a channel of the split is in range
a_channel : (c c' k v : ℕ) → c' ≤ 15 → startable c k v ≡ true → startable c' k v ≡ true
a_channel c c' k v h e = ap₂ ◌&&◌ (le-leb c' 15 h) (and_parts (nat_le c 15) (nat_le k 127 && (nat_le 1 v && nat_le v 127)) e).1

told_channel : (c c' n v : ℕ) → c' ≤ 15 → tellable c n v ≡ true → tellable c' n v ≡ true
told_channel c c' n v h e = ap₂ ◌&&◌ (le-leb c' 15 h) (and_parts (nat_le c 15) (nat_le v 127 && heard n) e).1

on_side : (z : Zones) (b : Bool) → cond b z.low z.high ≤ 15
on_side z true = z.bass
on_side z false = z.treble

sent_fits : (z : Zones) (b : Bool) (c k v : ℕ) → startable c k v ≡ true → startable (cond b (side z k) c) k v ≡ true
sent_fits z true c k v e = a_channel c (side z k) k v (on_side z (nat_lt k z.key)) e
sent_fits z false c k v e = e

module _ {S F : Type 0} (sees : F → Denial) (meaning : S → Meaning) (sound : S → Type 0) (does : S → Call → Answer F → S → Type 0)
    (below_stays : (s : S) (c : Call) (a : Answer F) (t : S) → sound s → does s c a t → sound t)
    (below-means : (s : S) (c : Call) (a : Answer F) (t : S) → sound s → does s c a t → Means sees meaning s c a t)
    (s : Split S) (a : Answer (LayerFault F)) (t : Split S) (h : sound s.below) where
  -- what is to show of a call: the state after is sound, and the call has its meaning
  abbrev Stands : Call → Type 0
  Stands c = sound t.below × Means (layer_denial sees) (split_meaning meaning) s c a t

  layer_means : (c : Call) (b : Answer F) → t.zones ≡ s.zones → Checked false false (keeps_none s) c → Means sees meaning s.below c b t.below → Means (layer_denial sees) (split_meaning meaning) s c (passed b) t
  layer_means c b q = handed sees meaning (λ (x : Split S). x.below) no_roll keeps_none s t (λ u. refl) (λ u e. clash false e refl) (same_state s t q) c b

  on : (c c' : Call) → Checked false false (keeps_none s) c → ((b : Answer F) → Means sees meaning s.below c' b t.below → Means sees meaning s.below c b t.below) → On does c' s a t → Stands c
  on c c' checked shape o =
      let b = o.handed.below in (
        below_stays s.below c' b t.below h o.handed.call,
        subst (λ x. Means (layer_denial sees) (split_meaning meaning) s c x t) (sym o.handed.up) (layer_means c b o.zones checked (shape b (below-means s.below c' b t.below h o.handed.call))),
      )

  unchanged : {f : LayerFault F} → Refused f s a t → sound t.below
  unchanged r = subst (λ (x : Split S). sound x.below) (sym r.same) h

  -- both sides told: a tell in range is denied at neither
  high_means : (p c n v : ℕ) (mid : S) (b : Answer F) → tellable c n v ≡ true → tellable s.zones.high n v ≡ true → t.zones ≡ s.zones → Means sees meaning s.below (Tell p s.zones.low n v) done mid → Means sees meaning mid (Tell p s.zones.high n v) b t.below → Means (layer_denial sees) (split_meaning meaning) s (Tell p c n v) (passed b) t
  high_means p c n v mid (ticket x) ok ok' q m m' = m'
  high_means p c n v mid done ok ok' q m m' = layer_means (Tell p c n v) done q (ok, λ f. f) (ok, quieter_then (meaning s.below) (meaning mid) (meaning t.below) m.1 m'.1)
  high_means p c n v mid (denied f) ok ok' q m m' = clash (tellable s.zones.high n v) ok' m'.because.0

  both : (p c n v : ℕ) (mid : S) (first : Answer F) → tellable c n v ≡ true → t.zones ≡ s.zones → does s.below (Tell p s.zones.low n v) first mid → HighTold does p n v s.zones.high first mid a t.below → Stands (Tell p c n v)
  both p c n v mid (ticket x) ok q d e = absurd e
  both p c n v mid done ok q d e =
      let low = Tell p s.zones.low n v in
      let high = Tell p s.zones.high n v in
      let h' = below_stays s.below low done mid h d in (
        below_stays mid high e.below t.below h' e.call,
        subst (λ x. Means (layer_denial sees) (split_meaning meaning) s (Tell p c n v) x t) (sym e.up)
            (high_means p c n v mid e.below ok (told_channel c s.zones.high n v s.zones.treble ok) q (below-means s.below low done mid h d) (below-means mid high e.below t.below h' e.call)),
      )
  both p c n v mid (denied f) ok q d e =
      clash (tellable s.zones.low n v) (told_channel c s.zones.low n v s.zones.bass ok) (below-means s.below (Tell p s.zones.low n v) (denied f) mid h d).because.0

  -- each call, by what the layer looks at first
  start_stands : (p c k v : ℕ) (x : Bool) → startable c k v ≡ x → cond x (On does (Start p (sent_to s.zones c k) k v) s a t) (Refused (Own OutOfRange) s a t) → Stands (Start p c k v)
  start_stands p c k v true e d = on (Start p c k v) (Start p (sent_to s.zones c k) k v) (e, refl) (λ b. rekeyed sees meaning s.below t.below p c k (sent_to s.zones c k) k v b e (sent_fits s.zones (c == s.zones.channel) c k v e)) d
  start_stands p c k v false e d = (unchanged d, start_refused sees (split_meaning meaning) s a t p c k v e d)

  release_stands : (p u v : ℕ) (x : Bool) → nat_le v 127 ≡ x → cond x (On does (Release p u v) s a t) (Refused (Own OutOfRange) s a t) → Stands (Release p u v)
  release_stands p u v true e d = on (Release p u v) (Release p u v) (e, refl, λ f. f) (λ b m. m) d
  release_stands p u v false e d = (unchanged d, release_refused sees (split_meaning meaning) s a t p u v e d)

  sides_stand : (p c n v : ℕ) (x y : Bool) → tellable c n v ≡ true → cond x (cond y (On does (Tell p s.zones.low n v) s a t) (Both does p s.zones.low s.zones.high n v s a t)) (On does (Tell p c n v) s a t) → Stands (Tell p c n v)
  sides_stand p c n v true true e d = on (Tell p c n v) (Tell p s.zones.low n v) (e, λ f. f) (λ b. retold sees meaning s.below t.below p c s.zones.low n v b e (told_channel c s.zones.low n v s.zones.bass e)) d
  sides_stand p c n v true false e d = both p c n v d.between d.first e d.zones d.low d.high
  sides_stand p c n v false y e d = on (Tell p c n v) (Tell p c n v) (e, λ f. f) (λ b m. m) d

  tell_stands : (p c n v : ℕ) (x : Bool) → tellable c n v ≡ x → cond x (Tells does p c n v s a t) (Refused (Own TellOutOfRange) s a t) → Stands (Tell p c n v)
  tell_stands p c n v true e d = sides_stand p c n v (c == s.zones.channel) (s.zones.low == s.zones.high) e d
  tell_stands p c n v false e d = (unchanged d, tell_refused sees (split_meaning meaning) s a t p c n v e d)

  set_stands : (p e i : ℕ) (v : ℤ) (x y z : Bool) → cond x (cond y (cond z (Zoned i v s a t) (Refused (Own ValueOutOfRange) s a t)) (Refused (Own NoSuchItem) s a t)) (On does (Set p (e - 1) i v) s a t) → Stands (Set p e i v)
  set_stands p e i v true true true d = (
    subst sound (sym d.below) h,
    subst (λ x. Means (layer_denial sees) (split_meaning meaning) s (Set p e i v) x t) (sym d.answer) (quieter_same (split_meaning meaning s) (split_meaning meaning t) (ap (λ x. split_meaning (λ _. meaning x) s) d.below)),
  )
  set_stands p e i v true true false d = (unchanged d, value_refused sees (split_meaning meaning) s a t p e i v d)
  set_stands p e i v true false z d = (unchanged d, item_refused sees (split_meaning meaning) s a t p e i v d)
  set_stands p e i v false y z d = on (Set p e i v) (Set p (e - 1) i v) (λ f. f) (λ b. redepthed sees meaning s.below t.below p e (e - 1) i v b) d

  pub split_stands : (c : Call) → SplitDoes does s c a t → Stands c
  split_stands (Start p c k v) d = start_stands p c k v (startable c k v) refl d
  split_stands (Release p u v) d = release_stands p u v (nat_le v 127) refl d
  split_stands (Hush p u) d = on (Hush p u) (Hush p u) (refl, refl) (λ b m. m) d
  split_stands (Tell p c n v) d = tell_stands p c n v (tellable c n v) refl d
  split_stands (Set p e i v) d = set_stands p e i v (e == 0) (nat_le i 3) (is_value i v) d
  split_stands (Clear p) d = on (Clear p) (Clear p) (λ u. refl, λ f. f) (λ b m. m) d

pub split_orderly : {S : Type 0} (m : Meaning) (s : Split S) → Orderly m → Orderly (split_meaning (λ _. m) s)
split_orderly m s o = layer_orderly false (keeps_none s) m (λ u e. clash false e refl) o

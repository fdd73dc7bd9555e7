-- What a quota means, what its states have, and what each call does.
use Rattle.std.specs.Prelude.{◌≡◌, ℕ, ◌-◌, ◌≤◌, Bool, true, false, cond, ◌&&◌, List, [], ◌∷◌, length, ℤ, pos, ◌==◌, nat_le}
use Rattle.sink.specs.Faults.{Denial, layer_denial}
use Rattle.sink.specs.Calls.{Call, Start, Release, Hush, Tell, Set, Clear, Answer, done, startable, tellable, within}
use Rattle.sink.specs.Meaning.{Meaning}
use Rattle.sink.specs.Layered.{Refused}
use Rattle.sink.specs.declared.fault.Cause.TheVariants.{OutOfRange, TellOutOfRange, NoSuchItem, ValueOutOfRange}
use Rattle.sink.specs.declared.fault.LayerFault.{LayerFault}
use Rattle.sink.specs.declared.fault.LayerFault.TheVariants.{Own}
use Rattle.roll.specs.declared.note.Note.{Note}
use Rattle.rolled.specs.declared.rolled.Rolled.{Rolled}
use Rattle.rolled.specs.Rolled.{notes_of, keeps_none, rolled_meaning, RollSound, Onward, NotReady, says_yes}
use Rattle.rolled.specs.Chains.{named}
use Rattle.quota.specs.declared.quota.Quota.{Quota}
use Rattle.quota.specs.Hushing.{HushedDown, sounding_count}

-- it keeps no ticket itself
abbrev pub quota_meaning : {S O : Type 0} → (S → Meaning) → Quota S O → Meaning
quota_meaning meaning s = rolled_meaning keeps_none meaning s.rolled

-- no more notes of the roll sound than the limit
pub record QuotaSound {S O : Type 0} (meaning : S → Meaning) (sound : S → Type 0) (s : Quota S O) : Type 0 where
  pub rolled : RollSound meaning sound s.rolled
  pub few : sounding_count meaning (notes_of s.rolled) s.rolled.below ≤ s.limit.notes

unfoldable pub EachOnce : List ℕ → Type 0
EachOnce [] = Unit {0}
EachOnce (k ∷ ks) = (named ks k ≡ false) × EachOnce ks

-- at most so many owed tickets sound
abbrev pub AtMost : ℕ → Meaning → Type 0
AtMost k m = (ks : List ℕ) → EachOnce ks → ((u : ℕ) → named ks u ≡ true → (m.owed u && m.sounding u) ≡ true) → length ks ≤ k

module _ {S O F : Type 0} (sees : F → Denial) (meaning : S → Meaning) (does : S → Call → Answer F → S → Type 0) (before : O → Note → Note → Bool) where
  -- a call handed on, the limit and the order as they were
  pub record On (c : Call) (s : Quota S O) (a : Answer (LayerFault F)) (t : Quota S O) : Type 0 where
    pub rolled : Onward does c s.rolled a t.rolled
    pub limit : t.limit ≡ s.limit
    pub order : t.order ≡ s.order

  -- notes are hushed until fewer than the limit sound, and the start is handed on
  pub record Started (p c k v : ℕ) (s : Quota S O) (a : Answer (LayerFault F)) (t : Quota S O) : Type 0 where
    pub between : Rolled S
    pub hushed : HushedDown meaning does (before s.order) p (s.limit.notes - 1) s.rolled between
    pub started : Onward does (Start p c k v) between a t.rolled
    pub limit : t.limit ≡ s.limit
    pub order : t.order ≡ s.order

  -- a new limit, and notes hushed down to it
  pub record Limited (p : ℕ) (value : ℤ) (s : Quota S O) (a : Answer (LayerFault F)) (t : Quota S O) : Type 0 where
    pub answer : a ≡ done
    pub limit : pos t.limit.notes ≡ value
    pub hushed : HushedDown meaning does (before s.order) p t.limit.notes s.rolled t.rolled
    pub order : t.order ≡ s.order

  abbrev pub sets : (p item : ℕ) (value : ℤ) → Quota S O → Answer (LayerFault F) → Quota S O → Type 0
  sets p item value s a t =
      cond (item == 0) (cond (within 1 64 value) (Limited p value s a t) (Refused (Own ValueOutOfRange) s a t)) (Refused (Own NoSuchItem) s a t)

  abbrev pub QuotaDoes : Quota S O → Call → Answer (LayerFault F) → Quota S O → Type 0
  QuotaDoes s (Start p c k v) a t =
      cond (startable c k v)
      (cond (says_yes (quota_meaning meaning s).ready) (Started p c k v s a t) (NotReady (layer_denial sees) (quota_meaning meaning s) s a t))
      (Refused (Own OutOfRange) s a t)
  QuotaDoes s (Release p u v) a t = cond (nat_le v 127) (On (Release p u v) s a t) (Refused (Own OutOfRange) s a t)
  QuotaDoes s (Hush p u) a t = On (Hush p u) s a t
  QuotaDoes s (Tell p c n v) a t = cond (tellable c n v) (On (Tell p c n v) s a t) (Refused (Own TellOutOfRange) s a t)
  QuotaDoes s (Set p d i v) a t = cond (d == 0) (sets p i v s a t) (On (Set p (d - 1) i v) s a t)
  QuotaDoes s (Clear p) a t = On (Clear p) s a t

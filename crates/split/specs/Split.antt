-- What a split means, and what each call does to it and asks of the sink below.
use Rattle.std.specs.Prelude.{◌≡◌, ℕ, ◌-◌, Bool, false, cond, ℤ, ◌==◌, nat_le}
use Rattle.sink.specs.Calls.{Call, Start, Release, Hush, Tell, Set, Clear, Answer, ticket, done, denied, startable, tellable}
use Rattle.sink.specs.Meaning.{Meaning}
use Rattle.sink.specs.Layered.{passed, layered, Refused, Handed}
use Rattle.sink.specs.declared.fault.Cause.TheVariants.{OutOfRange, TellOutOfRange, NoSuchItem, ValueOutOfRange}
use Rattle.sink.specs.declared.fault.LayerFault.{LayerFault}
use Rattle.sink.specs.declared.fault.LayerFault.TheVariants.{Own}
use Rattle.split.specs.declared.split.Split.{Split}
use Rattle.split.specs.Zones.{sent_to, is_value, Changed}

-- it has no roll to fill
abbrev pub no_roll : {S : Type 0} → Split S → Bool
no_roll s = false

-- it keeps no ticket itself
abbrev pub keeps_none : {S : Type 0} → Split S → ℕ → Bool
keeps_none s u = false

abbrev pub split_meaning : {S : Type 0} → (S → Meaning) → Split S → Meaning
split_meaning meaning s = layered (no_roll s) (keeps_none s) (meaning s.below)

abbrev pub SplitSound : {S : Type 0} → (S → Type 0) → Split S → Type 0
SplitSound sound s = sound s.below

module _ {S F : Type 0} (does : S → Call → Answer F → S → Type 0) where
  -- the call below, and the zones as they were
  pub record On (c : Call) (s : Split S) (a : Answer (LayerFault F)) (t : Split S) : Type 0 where
    pub handed : Handed does c s.below a t.below
    pub zones : t.zones ≡ s.zones

  -- the high side is told once the low side has been; a denial is passed up at once
  abbrev pub HighTold : (p n v high : ℕ) → Answer F → S → Answer (LayerFault F) → S → Type 0
  HighTold p n v high (ticket x) s a t = ⊥
  HighTold p n v high done s a t = Handed does (Tell p high n v) s a t
  HighTold p n v high (denied f) s a t = (a ≡ passed (denied f)) × (t ≡ s)

  -- a tell to a low channel, then to a high one
  pub record Both (p low-side high-side n v : ℕ) (s : Split S) (a : Answer (LayerFault F)) (t : Split S) : Type 0 where
    pub first : Answer F
    pub between : S
    pub low : does s.below (Tell p low-side n v) first between
    pub high : HighTold p n v high-side first between a t.below
    pub zones : t.zones ≡ s.zones

  -- on its channel both sides are told, once if they are one
  abbrev pub Tells : (p c n v : ℕ) → Split S → Answer (LayerFault F) → Split S → Type 0
  Tells p c n v s a t =
      cond (c == s.zones.channel)
      (cond (s.zones.low == s.zones.high) (On (Tell p s.zones.low n v) s a t) (Both p s.zones.low s.zones.high n v s a t))
      (On (Tell p c n v) s a t)

-- an item set, and nothing called below
pub record Zoned {S F : Type 0} (item : ℕ) (value : ℤ) (s : Split S) (a : Answer (LayerFault F)) (t : Split S) : Type 0 where
  pub answer : a ≡ done
  pub below : t.below ≡ s.below
  pub zones : Changed item value s.zones t.zones

abbrev pub sets : {S F : Type 0} → (item : ℕ) (value : ℤ) → Split S → Answer (LayerFault F) → Split S → Type 0
sets item value s a t =
    cond (nat_le item 3) (cond (is_value item value) (Zoned item value s a t) (Refused (Own ValueOutOfRange) s a t)) (Refused (Own NoSuchItem) s a t)

abbrev pub SplitDoes : {S F : Type 0} → (S → Call → Answer F → S → Type 0) → Split S → Call → Answer (LayerFault F) → Split S → Type 0
SplitDoes does s (Start p c k v) a t = cond (startable c k v) (On does (Start p (sent_to s.zones c k) k v) s a t) (Refused (Own OutOfRange) s a t)
SplitDoes does s (Release p u v) a t = cond (nat_le v 127) (On does (Release p u v) s a t) (Refused (Own OutOfRange) s a t)
SplitDoes does s (Hush p u) a t = On does (Hush p u) s a t
SplitDoes does s (Tell p c n v) a t = cond (tellable c n v) (Tells does p c n v s a t) (Refused (Own TellOutOfRange) s a t)
SplitDoes does s (Set p d i v) a t = cond (d == 0) (sets i v s a t) (On does (Set p (d - 1) i v) s a t)
SplitDoes does s (Clear p) a t = On does (Clear p) s a t

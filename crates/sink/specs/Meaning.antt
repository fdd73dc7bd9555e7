-- What a sink means: readiness and three sets of tickets, and what each call does to them.
use Rattle.std.specs.Prelude.{◌≡◌, ℕ, ◌<◌, ◌≤◌, Bool, true, false, not, ◌&&◌, ◌||◌, Ok, Err, Result, ◌==◌, nat_le}
use Rattle.sink.specs.Faults.{Denial, here}
use Rattle.sink.specs.Calls.{Call, Start, Release, Hush, Tell, Set, Clear, Answer, ticket, done, denied, startable, tellable}
use Rattle.sink.specs.declared.fault.Cause.TheVariants.{OutOfRange, TellOutOfRange}

pub data Readiness : Type 0 where
  is_ready : Readiness
  refuses : Denial → Readiness

abbrev pub whether : {F : Type 0} → (F → Denial) → Result (Unit {0}) F → Readiness
whether sees (Ok _) = is_ready
whether sees (Err f) = refuses (sees f)

-- A ticket stands for a started note. It is owed until its release is accepted;
-- then it may be kept by a sink for a while. It sounds until it is hushed, released or cleared.
pub record Meaning : Type 0 where
  pub ready : Readiness
  pub owed : ℕ → Bool
  pub kept : ℕ → Bool
  pub sounding : ℕ → Bool

-- In every sound state owed and kept have no ticket in common, only their tickets sound, and all are below 65,536.
pub record Orderly (m : Meaning) : Type 0 where
  pub apart : (u : ℕ) → m.owed u ≡ true → m.kept u ≡ false
  pub sounding : (u : ℕ) → m.sounding u ≡ true → (m.owed u || m.kept u) ≡ true
  pub small : (u : ℕ) → (m.owed u || m.kept u) ≡ true → u < 65536

pub record Idle (m : Meaning) : Type 0 where
  pub owed : (u : ℕ) → m.owed u ≡ false
  pub kept : (u : ℕ) → m.kept u ≡ false
  pub sounding : (u : ℕ) → m.sounding u ≡ false

-- A start answers a new ticket, which is owed and sounds. Others may fall silent.
pub record Began (m : Meaning) (t : ℕ) (m' : Meaning) : Type 0 where
  pub was_ready : m.ready ≡ is_ready
  pub not_owed : m.owed t ≡ false
  pub not_kept : m.kept t ≡ false
  pub owed : (u : ℕ) → m'.owed u ≡ (t == u || m.owed u)
  pub kept : (u : ℕ) → m'.kept u ≡ m.kept u
  pub sounds : m'.sounding t ≡ true
  pub others : (u : ℕ) → (t == u) ≡ false → m'.sounding u ≡ true → m.sounding u ≡ true

-- A released ticket is owed no more, and is kept or falls silent. It never begins to sound. Every other ticket stands.
pub record Ended (m : Meaning) (t : ℕ) (m' : Meaning) : Type 0 where
  pub was_owed : m.owed t ≡ true
  pub owed : (u : ℕ) → m'.owed u ≡ (m.owed u && not (t == u))
  pub kept : (u : ℕ) → (t == u) ≡ false → m'.kept u ≡ m.kept u
  pub sounding : (u : ℕ) → (t == u) ≡ false → m'.sounding u ≡ m.sounding u
  pub falls_silent : m'.kept t ≡ false → m'.sounding t ≡ false
  pub stays_silent : m'.sounding t ≡ true → m.sounding t ≡ true
  pub ready : m.ready ≡ is_ready → m'.ready ≡ is_ready

-- A hushed ticket falls silent; nothing else changes.
pub record Hushed (m : Meaning) (t : ℕ) (m' : Meaning) : Type 0 where
  pub was_owed : m.owed t ≡ true
  pub ready : m'.ready ≡ m.ready
  pub owed : (u : ℕ) → m'.owed u ≡ m.owed u
  pub kept : (u : ℕ) → m'.kept u ≡ m.kept u
  pub sounding : (u : ℕ) → m'.sounding u ≡ (m.sounding u && not (t == u))

-- A tell or a set leaves what is owed; nothing joins what is kept or sounds.
pub record Quieter (m m' : Meaning) : Type 0 where
  pub ready : m.ready ≡ is_ready → m'.ready ≡ is_ready
  pub owed : (u : ℕ) → m'.owed u ≡ m.owed u
  pub kept : (u : ℕ) → m'.kept u ≡ true → m.kept u ≡ true
  pub sounding : (u : ℕ) → m'.sounding u ≡ true → m.sounding u ≡ true

-- A clear ends what is kept; what is owed stays, and sounds as before.
pub record Cleared (m m' : Meaning) : Type 0 where
  pub ready : m.ready ≡ is_ready → m'.ready ≡ is_ready
  pub owed : (u : ℕ) → m'.owed u ≡ m.owed u
  pub kept : (u : ℕ) → m'.kept u ≡ false
  pub sounding : (u : ℕ) → m.owed u ≡ true → m'.sounding u ≡ m.sounding u

-- Why a call was denied. A denied call leaves the very same state.
pub record Denied {S : Type 0} (s s' : S) (why : Type 0) : Type 0 where
  pub same : s' ≡ s
  pub because : why

-- The sentences, by call and answer.
abbrev pub Means : {S F : Type 0} → (F → Denial) → (S → Meaning) → S → Call → Answer F → S → Type 0
Means sees meaning s (Start place channel key velocity) (ticket t) s' = (startable channel key velocity ≡ true) × Began (meaning s) t (meaning s')
Means sees meaning s (Start place channel key velocity) done s' = ⊥
Means sees meaning s (Start place channel key velocity) (denied f) s' = Denied s s' ((startable channel key velocity ≡ false → sees f ≡ here OutOfRange) × (startable channel key velocity ≡ true → (meaning s).ready ≡ refuses (sees f)))
Means sees meaning s (Release place t velocity) (ticket u) s' = ⊥
Means sees meaning s (Release place t velocity) done s' = (nat_le velocity 127 ≡ true) × Ended (meaning s) t (meaning s')
Means sees meaning s (Release place t velocity) (denied f) s' = Denied s s' ((nat_le velocity 127 ≡ false → sees f ≡ here OutOfRange) × (nat_le velocity 127 ≡ true → ((meaning s).owed t ≡ false) × ((sees f).number ≡ 4)))
Means sees meaning s (Hush place t) (ticket u) s' = ⊥
Means sees meaning s (Hush place t) done s' = Hushed (meaning s) t (meaning s')
Means sees meaning s (Hush place t) (denied f) s' = Denied s s' (((meaning s).owed t ≡ false) × ((sees f).number ≡ 4))
Means sees meaning s (Tell place channel controller value) (ticket u) s' = ⊥
Means sees meaning s (Tell place channel controller value) done s' = (tellable channel controller value ≡ true) × Quieter (meaning s) (meaning s')
Means sees meaning s (Tell place channel controller value) (denied f) s' = Denied s s' ((tellable channel controller value ≡ false) × (sees f ≡ here TellOutOfRange))
Means sees meaning s (Set place depth item value) (ticket u) s' = ⊥
Means sees meaning s (Set place depth item value) done s' = Quieter (meaning s) (meaning s')
Means sees meaning s (Set place depth item value) (denied f) s' = Denied s s' ((6 ≤ (sees f).number) × ((sees f).number ≤ 8))
Means sees meaning s (Clear place) (ticket u) s' = ⊥
Means sees meaning s (Clear place) done s' = Cleared (meaning s) (meaning s')
Means sees meaning s (Clear place) (denied f) s' = ⊥

-- What a sink may say of its calls where it states no more than the meaning: the sentences, and that the state after is sound.
pub record Meant {S F : Type 0} (sees : F → Denial) (meaning : S → Meaning) (sound : S → Type 0) (s : S) (c : Call) (a : Answer F) (t : S) : Type 0 where
  pub means : Means sees meaning s c a t
  pub after : sound t

-- A sink below with the roll of the notes that are owed there.
use Rattle.std.specs.Prelude.{◌≡◌, ℕ, Bool, true, false, List, Some, None, Option}
use Rattle.sink.specs.Faults.{Denial}
use Rattle.sink.specs.Calls.{Call, Start, Release, Hush, Tell, Set, Clear, Answer, ticket, done, denied}
use Rattle.sink.specs.Meaning.{Meaning, Readiness, is_ready, refuses}
use Rattle.sink.specs.Layered.{layered, Refused, Handed}
use Rattle.sink.specs.declared.fault.LayerFault.{LayerFault}
use Rattle.roll.specs.Notes.{found, lists, added, left_out, picked, Distinct, full}
use Rattle.roll.specs.Rolls.{listed}
use Rattle.roll.specs.declared.note.Note.{Note}
use Rattle.roll.specs.declared.note.Pick.TheVariants.{Ticket}
use Rattle.roll.specs.declared.roll.Roll.{Roll}
use Rattle.rolled.specs.declared.rolled.Rolled.{Rolled}

abbrev pub notes_of : {S : Type 0} → Rolled S → List Note
notes_of r = listed r.roll

abbrev pub kept_note : Option Note → Bool
kept_note None = false
kept_note (Some n) = n.kept

-- whether a ticket's note is marked as kept
abbrev pub keeps : List Note → ℕ → Bool
keeps ns u = kept_note (found u ns)

-- nothing is kept
abbrev pub keeps_none : List Note → ℕ → Bool
keeps_none ns u = false

-- What a layer over it means, where `own` says which tickets the layer keeps itself.
abbrev pub rolled_meaning : {S : Type 0} → (List Note → ℕ → Bool) → (S → Meaning) → Rolled S → Meaning
rolled_meaning own meaning r = layered (full (notes_of r)) (own (notes_of r)) (meaning r.below)

-- The sink below is sound, and the roll lists exactly the tickets owed there, each once.
pub record RollSound {S : Type 0} (meaning : S → Meaning) (sound : S → Type 0) (r : Rolled S) : Type 0 where
  pub below : sound r.below
  pub exact : (u : ℕ) → (meaning r.below).owed u ≡ lists (notes_of r) u
  pub once : Distinct (notes_of r)

abbrev pub new_note : (ticket channel key velocity : ℕ) → Note
new_note t c k v = record { ticket = t; channel = c; key = k; velocity = v; kept = false }

-- The roll after a call: a started note joins it, a released one leaves it.
abbrev pub RollAfter : {F : Type 0} → Call → Answer F → Roll → Roll → Type 0
RollAfter (Start p c k v) (ticket t) r r' = listed r' ≡ added (new_note t c k v) (listed r)
RollAfter (Start p c k v) done r r' = r' ≡ r
RollAfter (Start p c k v) (denied f) r r' = r' ≡ r
RollAfter (Release p t v) (ticket u) r r' = r' ≡ r
RollAfter (Release p t v) done r r' = listed r' ≡ left_out (picked (Ticket t)) (listed r)
RollAfter (Release p t v) (denied f) r r' = r' ≡ r
RollAfter (Hush p t) a r r' = r' ≡ r
RollAfter (Tell p c n v) a r r' = r' ≡ r
RollAfter (Set p d i v) a r r' = r' ≡ r
RollAfter (Clear p) a r r' = r' ≡ r

-- A call is made below, its answer passed up, and the roll follows.
pub record Onward {S F : Type 0} (does : S → Call → Answer F → S → Type 0) (c : Call) (r : Rolled S) (a : Answer (LayerFault F)) (r' : Rolled S) : Type 0 where
  pub handed : Handed does c r.below a r'.below
  pub roll : RollAfter c a r.roll r'.roll

-- A start is refused since the layer is not ready.
pub record NotReady {L F : Type 0} (sees : F → Denial) (m : Meaning) (s : L) (a : Answer F) (t : L) : Type 0 where
  pub why : F
  pub because : m.ready ≡ refuses (sees why)
  pub refused : Refused why s a t

abbrev pub says_yes : Readiness → Bool
says_yes is_ready = true
says_yes (refuses d) = false

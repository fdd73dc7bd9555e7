-- Notes of a roll released or hushed one after the other.
use Rattle.std.specs.Prelude.{◌≡◌, ℕ, Bool, false, cond, ◌||◌, List, [], ◌∷◌, ◌++◌, ◌==◌}
use Rattle.sink.specs.Calls.{Call, Release, Hush, Answer}
use Rattle.sink.specs.Meaning.{Meaning}
use Rattle.roll.specs.Notes.{left_out, picked}
use Rattle.roll.specs.declared.note.Note.{Note}
use Rattle.roll.specs.declared.note.Pick.{Pick}
use Rattle.rolled.specs.declared.rolled.Rolled.{Rolled}
use Rattle.rolled.specs.Rolled.{notes_of}

-- the tickets of the notes picked, the oldest first
unfoldable pub tickets_of : (Note → Bool) → List Note → List ℕ
tickets_of p [] = []
tickets_of p (n ∷ ns) = cond (p n) (n.ticket ∷ tickets_of p ns) (tickets_of p ns)

-- whether a ticket is among some
unfoldable pub named : List ℕ → ℕ → Bool
named [] u = false
named (k ∷ ks) u = k == u || named ks u

-- tickets released in turn, with velocity 64
pub data Releases {S F : Type 0} (does : S → Call → Answer F → S → Type 0) (place : ℕ) : List ℕ → S → S → Type 0 where
  no_release : {s : S} → Releases does place [] s s
  one_release : {s t u : S} {a : Answer F} {k : ℕ} {ks : List ℕ} → Releases does place ks s t → does t (Release place k 64) a u → Releases does place (ks ++ (k ∷ [])) s u

-- a note is released if it is meant
abbrev pub ReleaseOne : {S F : Type 0} → (S → Call → Answer F → S → Type 0) → ℕ → Pick → Note → S → S → Type 0
ReleaseOne {S} {F} does place pick n s t = cond (picked pick n) ((a : Answer F) × does s (Release place n.ticket 64) a t) (t ≡ s)

-- a ticket is hushed if it sounds
abbrev pub HushOne : {S F : Type 0} → (S → Meaning) → (S → Call → Answer F → S → Type 0) → ℕ → ℕ → S → S → Type 0
HushOne {S} {F} meaning does place k s t = cond ((meaning s).sounding k) ((a : Answer F) × does s (Hush place k) a t) (t ≡ s)

-- a note is hushed if it is meant and sounds
abbrev pub HushNote : {S F : Type 0} → (S → Meaning) → (S → Call → Answer F → S → Type 0) → ℕ → Pick → Note → S → S → Type 0
HushNote meaning does place pick n s t = cond (picked pick n) (HushOne meaning does place n.ticket s t) (t ≡ s)

-- those of some tickets that sound hushed in turn
pub data Hushes {S F : Type 0} (meaning : S → Meaning) (does : S → Call → Answer F → S → Type 0) (place : ℕ) : List ℕ → S → S → Type 0 where
  no_hush : {s : S} → Hushes meaning does place [] s s
  one_hush : {s t u : S} {ks : List ℕ} (k : ℕ) → Hushes meaning does place ks s t → HushOne meaning does place k t u → Hushes meaning does place (ks ++ (k ∷ [])) s u

-- the notes picked are released below, the oldest first, and leave the roll
pub record LetGo {S F : Type 0} (does : S → Call → Answer F → S → Type 0) (place : ℕ) (pick : Pick) (r r' : Rolled S) : Type 0 where
  pub below : Releases does place (tickets_of (picked pick) (notes_of r)) r.below r'.below
  pub roll : notes_of r' ≡ left_out (picked pick) (notes_of r)

-- the notes picked that sound are hushed below, the oldest first
pub record Hushed {S F : Type 0} (meaning : S → Meaning) (does : S → Call → Answer F → S → Type 0) (place : ℕ) (pick : Pick) (r r' : Rolled S) : Type 0 where
  pub below : Hushes meaning does place (tickets_of (picked pick) (notes_of r)) r.below r'.below
  pub roll : r'.roll ≡ r.roll

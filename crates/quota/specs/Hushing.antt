-- Notes hushed one after the other, each the foremost of those that sound then.
use Rattle.std.specs.Prelude.{◌≡◌, ℕ, zero, suc, ◌-◌, Bool, List, length, Some, None, Option}
use Rattle.sink.specs.Calls.{Call, Hush, Answer}
use Rattle.sink.specs.Meaning.{Meaning}
use Rattle.roll.specs.declared.note.Note.{Note}
use Rattle.rolled.specs.declared.rolled.Rolled.{Rolled}
use Rattle.rolled.specs.Rolled.{notes_of}
use Rattle.quota.specs.Orders.{Chosen, sounding_among}

-- how many notes of a roll sound
abbrev pub sounding_count : {S : Type 0} → (S → Meaning) → List Note → S → ℕ
sounding_count meaning ns s = length (sounding_among (meaning s).sounding ns)

module _ {S F : Type 0} (meaning : S → Meaning) (does : S → Call → Answer F → S → Type 0) (before : Note → Note → Bool) (place : ℕ) where
  abbrev pub HushIt : Option Note → S → S → Type 0
  HushIt None s t = t ≡ s
  HushIt (Some n) s t = (a : Answer F) × does s (Hush place n.ticket) a t

  -- the foremost of the notes that sound is hushed
  pub record HushNext (ns : List Note) (s t : S) : Type 0 where
    pub chosen : Option Note
    pub choice : Chosen before (sounding_among (meaning s).sounding ns) chosen
    pub hush : HushIt chosen s t

  -- so many times
  pub data HushTimes (ns : List Note) : ℕ → S → S → Type 0 where
    enough : {s : S} → HushTimes ns zero s s
    another : {k : ℕ} {s t u : S} → HushTimes ns k s t → HushNext ns t u → HushTimes ns (suc k) s u

  -- notes are hushed until at most so many sound
  pub record HushedDown (most : ℕ) (r r' : Rolled S) : Type 0 where
    pub below : HushTimes (notes_of r) (sounding_count meaning (notes_of r) r.below - most) r.below r'.below
    pub roll : r'.roll ≡ r.roll

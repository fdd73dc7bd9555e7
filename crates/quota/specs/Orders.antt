-- Orders of notes, and which note of some is the foremost.
use Rattle.std.specs.Prelude.{◌≡◌, ℕ, Bool, true, false, cond, not, ◌&&◌, List, [], ◌∷◌, ◌++◌, Some, None, Option, nat_le}
use Rattle.roll.specs.declared.note.Note.{Note}
use Rattle.roll.specs.Notes.{left_out}

abbrev pub all_level : Note → Note → Bool
all_level m n = true

abbrev pub softer : Note → Note → Bool
softer m n = nat_le m.velocity n.velocity

-- whether a note goes before or level with each of some
unfoldable pub leads : (Note → Note → Bool) → Note → List Note → Bool
leads before n [] = true
leads before n (m ∷ ms) = before n m && leads before n ms

-- none of these notes goes before or level with each of some
unfoldable pub NoneLeads : (Note → Note → Bool) → List Note → List Note → Type 0
NoneLeads before [] all = Unit {0}
NoneLeads before (m ∷ ms) all = (leads before m all ≡ false) × NoneLeads before ms all

-- the oldest among the notes that go before or level with all the rest
pub record Foremost (before : Note → Note → Bool) (ns : List Note) (n : Note) : Type 0 where
  pub older : List Note
  pub younger : List Note
  pub place : ns ≡ older ++ (n ∷ younger)
  pub leads_all : leads before n ns ≡ true
  pub oldest : NoneLeads before older ns

-- the foremost, if there is a note at all
abbrev pub Chosen : (Note → Note → Bool) → List Note → Option Note → Type 0
Chosen before ns None = ns ≡ []
Chosen before ns (Some n) = Foremost before ns n

-- the better of the best so far and a younger note
abbrev pub better : (Note → Note → Bool) → Option Note → Note → Note
better before None n = n
better before (Some m) n = cond (before m n) m n

-- the notes of some that sound
abbrev pub sounding_among : (ℕ → Bool) → List Note → List Note
sounding_among sounds ns = left_out (λ n. not (sounds n.ticket)) ns

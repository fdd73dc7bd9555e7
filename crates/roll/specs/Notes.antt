-- Lists of notes, the oldest first.
use Rattle.std.specs.Prelude.{◌≡◌, ℕ, Bool, true, false, cond, ◌&&◌, ◌||◌, List, [], ◌∷◌, ◌++◌, length, Some, None, Option, ◌==◌, nat_le, slice_index_or, slice_set}
use Rattle.roll.specs.declared.note.Note.{Note}
use Rattle.roll.specs.declared.note.Pick.{Pick}
use Rattle.roll.specs.declared.note.Pick.TheVariants.{Ticket, On, Kept, KeptOn}

abbrev pub picked : Pick → Note → Bool
picked (Ticket t) n = n.ticket == t
picked (On c) n = n.channel == c
picked Kept n = n.kept
picked (KeptOn c) n = n.kept && n.channel == c

-- the note of a ticket
unfoldable pub found : ℕ → List Note → Option Note
found u [] = None
found u (n ∷ ns) = cond (n.ticket == u) (Some n) (found u ns)

-- whether a ticket is among the notes
unfoldable pub lists : List Note → ℕ → Bool
lists [] u = false
lists (n ∷ ns) u = n.ticket == u || lists ns u

-- a roll of 128 notes takes no more
abbrev pub full : List Note → Bool
full ns = nat_le 128 (length ns)

abbrev pub added : Note → List Note → List Note
added n ns = cond (full ns) ns (ns ++ (n ∷ []))

abbrev pub mark_kept : Note → Note
mark_kept n = record { ticket = n.ticket; channel = n.channel; key = n.key; velocity = n.velocity; kept = true }

abbrev pub blank : Note
blank = record { ticket = 0; channel = 0; key = 0; velocity = 0; kept = false }

-- the note at a place marked as kept, the others as they are
abbrev pub marked_at : ℕ → List Note → List Note
marked_at i ns = slice_set ns i (mark_kept (slice_index_or ns i blank))

-- the note of a ticket marked as kept, the others as they are
unfoldable pub marked : ℕ → List Note → List Note
marked u [] = []
marked u (n ∷ ns) = cond (n.ticket == u) (mark_kept n ∷ ns) (n ∷ marked u ns)

-- the notes without those picked, in their order
unfoldable pub left_out : (Note → Bool) → List Note → List Note
left_out p [] = []
left_out p (n ∷ ns) = cond (p n) (left_out p ns) (n ∷ left_out p ns)

-- each ticket once
unfoldable pub Distinct : List Note → Type 0
Distinct [] = Unit {0}
Distinct (n ∷ ns) = (lists ns n.ticket ≡ false) × Distinct ns

-- A roll as a list of notes.
use Rattle.std.specs.Prelude.{List, take}
use Rattle.roll.specs.declared.note.Note.{Note}
use Rattle.roll.specs.declared.roll.Roll.{Roll}

abbrev pub listed : Roll → List Note
listed r = take r.count r.notes

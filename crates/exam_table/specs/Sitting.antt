-- The rows played through the unit, into these lines.
use Rattle.std.specs.Prelude.{◌≡◌, ℕ, List, [], ◌∷◌, vec_items}
use Rattle.sink.specs.declared.fault.refusal.Refusal
use Rattle.sink.specs.declared.sink.Sink
use Rattle.voice_log.specs.declared.line.Kind.TheVariants.{Begun, Ended}
use Rattle.voice_log.specs.declared.line.Line.{Line}
use Rattle.exam_table.specs.Rows.{Plays}
use Rattle.exam_table.specs.Stack.{ExamStack, ExamFault, log_of, New}

-- the rows are played through a new stack over these lines, and the log's lines are then those handed back
pub record Logs (gs : Sink.Ghosts ExamStack ExamFault) (gf : Refusal.Ghosts ExamFault) (lines : List Line) (written : ℕ) (lines' : List Line) : Type 0 where
  pub stack : ExamStack
  pub left : ExamStack
  pub new : New lines stack
  pub plays : Plays gs gf stack left
  pub written_is : written ≡ (log_of left).lines.written
  pub lines_are : lines' ≡ vec_items (log_of left).lines.items

-- key 60 begins with the first row, and ends with the last
abbrev pub the_log : List Line
the_log =
    record { place = 2; kind = Begun; serial = 0; channel = 0; key = 60; velocity = 100 }
    ∷ record { place = 11; kind = Ended; serial = 0; channel = 0; key = 60; velocity = 64 }
    ∷ []

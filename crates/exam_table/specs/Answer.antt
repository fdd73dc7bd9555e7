-- Which pipes speak after each row.
use Rattle.std.specs.Prelude.{◌≡◌, ℕ, ◌≤◌, false, List, [], length, replicate, pos, Some, ◌==◌}
use Rattle.sink.specs.declared.fault.refusal.Refusal
use Rattle.sink.specs.declared.sink.Sink
use Rattle.sink.specs.Calls.{Start, Release, Tell, Set, Answer, ticket}
use Rattle.sink.specs.Meaning.{Idle}
use Rattle.roll.specs.Notes.{found}
use Rattle.roll.specs.declared.note.Note.{Note}
use Rattle.rolled.specs.Rolled.{notes_of}
use Rattle.voice_log.specs.Log.{notes}
use Rattle.voice_log.specs.declared.line.Line.{Line}
use Rattle.exam_table.specs.Rows.{Plays}
use Rattle.exam_table.specs.Stack.{ExamStack, ExamFault, New, log_of, stack_meaning, StackSound, StackDoes}

-- no key down, no pedal down, no shift
pub record Rests (s : ExamStack) : Type 0 where
  pub sound : StackSound s
  pub idle : Idle (stack_meaning s)
  pub shift : s.shift.semitones ≡ pos 0
  pub pedals : s.below.pedals.on ≡ replicate 16 false
  pub held : notes_of s.below.rolled ≡ []

-- the calls of the rows, at whatever places and with whatever answers, but that the start is answered by the ticket t
pub record Rows (t : ℕ) (s₀ s₁ s₂ s₃ s₄ s₅ : ExamStack) : Type 0 where
  pub p₁ : ℕ
  pub p₂ : ℕ
  pub p₃ : ℕ
  pub p₄ : ℕ
  pub p₅ : ℕ
  pub a₂ : Answer ExamFault
  pub a₃ : Answer ExamFault
  pub a₄ : Answer ExamFault
  pub a₅ : Answer ExamFault
  pub key_down : StackDoes s₀ (Start p₁ 0 60 100) (ticket t) s₁
  pub transpose : StackDoes s₁ (Set p₂ 0 0 (pos 12)) a₂ s₂
  pub pedal_down : StackDoes s₂ (Tell p₃ 0 64 127) a₃ s₃
  pub key_up : StackDoes s₃ (Release p₄ t 64) a₄ s₄
  pub pedal_up : StackDoes s₄ (Tell p₅ 0 64 0) a₅ s₅

-- just the ticket t sounds, and at the log it is key 60 of channel 0
pub record Speaks60 (t : ℕ) (s : ExamStack) : Type 0 where
  pub only : (u : ℕ) → (stack_meaning s).sounding u ≡ (t == u)
  pub note : Note
  pub logged : found t (notes (log_of s)) ≡ Some note
  pub channel : note.channel ≡ 0
  pub key : note.key ≡ 60

abbrev pub NoneSpeaks : ExamStack → Type 0
NoneSpeaks s = (u : ℕ) → (stack_meaning s).sounding u ≡ false

-- the pipe of key 60 speaks after each row but the last, and after that none
abbrev pub AnswersStand : Type 0
AnswersStand =
    (t : ℕ) (s₀ s₁ s₂ s₃ s₄ s₅ : ExamStack) → Rests s₀ → Rows t s₀ s₁ s₂ s₃ s₄ s₅ →
    Speaks60 t s₁ × Speaks60 t s₂ × Speaks60 t s₃ × Speaks60 t s₄ × NoneSpeaks s₅

-- and so it is in every run of the rows over a new stack with two lines or more
abbrev pub RunsStand : (gs : Sink.Ghosts ExamStack ExamFault) (gf : Refusal.Ghosts ExamFault) → Type 0
RunsStand gs gf =
    (lines : List Line) (stack left : ExamStack) → New lines stack → Rests stack → 2 ≤ length lines →
    (p : Plays gs gf stack left) →
    (t : ℕ) × Speaks60 t p.r₁.player.stack × Speaks60 t p.r₂.player.stack × Speaks60 t p.r₃.player.stack × Speaks60 t p.r₄.player.stack × NoneSpeaks p.r₅.player.stack

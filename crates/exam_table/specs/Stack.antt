-- The unit in question: a transposer over a hold over a voice log.
use Rattle.std.specs.Prelude.{◌≡◌, min, false, List, [], length, replicate, pos, None, vec_items}
use Rattle.sink.specs.Calls.{Call, Answer}
use Rattle.sink.specs.Ends.{End}
use Rattle.sink.specs.Faults.{Denial, here, layer_denial}
use Rattle.sink.specs.Meaning.{Meaning}
use Rattle.sink.specs.declared.fault.Cause.{Cause}
use Rattle.sink.specs.declared.fault.LayerFault.{LayerFault}
use Rattle.rolled.specs.Rolled.{notes_of}
use Rattle.transposer.specs.Transposer.{transposer_meaning, TransposerSound, TransposerDoes}
use Rattle.transposer.specs.declared.transposer.Transposer.{Transposer}
use Rattle.hold.specs.Hold.{hold_meaning, HoldSound, HoldDoes}
use Rattle.hold.specs.declared.hold.Hold.{Hold}
use Rattle.voice_log.specs.Log.{notes, log_meaning, LogDoes, log_ends, LogSound}
use Rattle.voice_log.specs.declared.line.Line.{Line}
use Rattle.voice_log.specs.declared.log.VoiceLog.{VoiceLog}

abbrev pub ExamStack : Type 0
ExamStack = Transposer (Hold VoiceLog)

abbrev pub ExamFault : Type 0
ExamFault = LayerFault (LayerFault Cause)

abbrev pub log_of : ExamStack → VoiceLog
log_of s = s.below.rolled.below

abbrev pub held_meaning : Hold VoiceLog → Meaning
held_meaning s = hold_meaning log_meaning s

abbrev pub HeldDoes : Hold VoiceLog → Call → Answer (LayerFault Cause) → Hold VoiceLog → Type 0
HeldDoes s c a t = HoldDoes here log_meaning LogDoes s c a t

abbrev pub stack_sees : ExamFault → Denial
stack_sees f = layer_denial (layer_denial here) f

abbrev pub stack_meaning : ExamStack → Meaning
stack_meaning s = transposer_meaning held_meaning s

abbrev pub StackSound : ExamStack → Type 0
StackSound s = TransposerSound (λ h. HoldSound log_meaning LogSound h) s

abbrev pub StackDoes : ExamStack → Call → Answer ExamFault → ExamStack → Type 0
StackDoes s c a t = TransposerDoes HeldDoes s c a t

abbrev pub stack_ends : ExamStack → List End
stack_ends s = log_ends (log_of s)

-- a new stack over these lines: no shift, every pedal up, and nothing written
pub record New (items : List Line) (s : ExamStack) : Type 0 where
  pub shift : s.shift.semitones ≡ pos 0
  pub pedals : s.below.pedals.on ≡ replicate 16 false
  pub held : notes_of s.below.rolled ≡ []
  pub logged : notes (log_of s) ≡ []
  pub silent : (log_of s).sounding.voices ≡ replicate 128 None
  pub written : (log_of s).lines.written ≡ 0
  pub lines : vec_items (log_of s).lines.items ≡ items
  pub room : (log_of s).lines.room ≡ min (length items) 1000000000

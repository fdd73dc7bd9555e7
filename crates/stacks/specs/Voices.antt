-- The stack of a voice log: transposer over hold over mono over quota, the oldest note hushed first, over the log.
use Rattle.std.specs.Prelude.{◌≡◌, min, false, List, [], length, replicate, pos, None, vec_items}
use Rattle.sink.specs.declared.fault.Cause.{Cause}
use Rattle.sink.specs.declared.fault.LayerFault.{LayerFault}
use Rattle.rolled.specs.Rolled.{notes_of}
use Rattle.transposer.specs.declared.transposer.Transposer.{Transposer}
use Rattle.hold.specs.declared.hold.Hold.{Hold}
use Rattle.mono.specs.declared.mono.Mono.{Mono}
use Rattle.quota.specs.Orders.{all_level}
use Rattle.quota.specs.declared.order.ours.Oldest.{Oldest}
use Rattle.quota.specs.declared.quota.Quota.{Quota}
use Rattle.voice_log.specs.Log.{notes}
use Rattle.voice_log.specs.declared.line.Line.{Line}
use Rattle.voice_log.specs.declared.log.VoiceLog.{VoiceLog}
use Rattle.stacks.specs.Kinds.{Kind, log_kind, transposed, held, single, limited}

abbrev pub VoiceStack : Type 0
VoiceStack = Transposer (Hold (Mono (Quota VoiceLog Oldest)))

abbrev pub VoiceFault : Type 0
VoiceFault = LayerFault (LayerFault (LayerFault (LayerFault Cause)))

abbrev pub voice_kind : Kind VoiceStack VoiceFault
voice_kind = transposed (held (single (limited log_kind (λ o m n. all_level m n))))

abbrev pub log_of : VoiceStack → VoiceLog
log_of s = s.below.rolled.below.rolled.below.rolled.below

-- new over these lines: no shift, every pedal up, every channel poly, the highest limit, and nothing written
pub record NewVoices (items : List Line) (s : VoiceStack) : Type 0 where
  pub shift : s.shift.semitones ≡ pos 0
  pub pedals : s.below.pedals.on ≡ replicate 16 false
  pub modes : s.below.rolled.below.modes.on ≡ replicate 16 false
  pub limit : s.below.rolled.below.rolled.below.limit.notes ≡ 64
  pub held : notes_of s.below.rolled ≡ []
  pub single : notes_of s.below.rolled.below.rolled ≡ []
  pub limited : notes_of s.below.rolled.below.rolled.below.rolled ≡ []
  pub logged : notes (log_of s) ≡ []
  pub silent : (log_of s).sounding.voices ≡ replicate 128 None
  pub written : (log_of s).lines.written ≡ 0
  pub lines : vec_items (log_of s).lines.items ≡ items
  pub room : (log_of s).lines.room ≡ min (length items) 1000000000

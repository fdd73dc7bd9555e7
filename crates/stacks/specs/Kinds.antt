-- What a stack of layers means and does, put together from its end up.
use Rattle.std.specs.Prelude.{Bool, List}
use Rattle.sink.specs.Calls.{Call, Answer}
use Rattle.sink.specs.Ends.{End}
use Rattle.sink.specs.Faults.{Denial, here, layer_denial}
use Rattle.sink.specs.Meaning.{Meaning}
use Rattle.sink.specs.declared.fault.Cause.{Cause}
use Rattle.sink.specs.declared.fault.LayerFault.{LayerFault}
use Rattle.roll.specs.declared.note.Note.{Note}
use Rattle.transposer.specs.Transposer.{transposer_meaning, TransposerSound, TransposerDoes}
use Rattle.transposer.specs.declared.transposer.Transposer.{Transposer}
use Rattle.split.specs.Split.{split_meaning, SplitSound, SplitDoes}
use Rattle.split.specs.declared.split.Split.{Split}
use Rattle.hold.specs.Hold.{hold_meaning, HoldSound, HoldDoes}
use Rattle.hold.specs.declared.hold.Hold.{Hold}
use Rattle.mono.specs.Mono.{mono_meaning, MonoSound, MonoDoes}
use Rattle.mono.specs.declared.mono.Mono.{Mono}
use Rattle.quota.specs.Quota.{quota_meaning, QuotaSound, QuotaDoes}
use Rattle.quota.specs.declared.quota.Quota.{Quota}
use Rattle.voice_log.specs.Log.{log_meaning, LogDoes, log_ends, LogSound}
use Rattle.voice_log.specs.declared.log.VoiceLog.{VoiceLog}
use Rattle.byte_writer.specs.Writer.{writer_meaning, WriterDoes, writer_ends, WriterSound}
use Rattle.byte_writer.specs.declared.writer.ByteWriter.{ByteWriter}

-- the ghost members of a sink
pub record Kind (S F : Type 0) : Type 1 where
  pub sees : F → Denial
  pub meaning : S → Meaning
  pub sound : S → Type 0
  pub does : S → Call → Answer F → S → Type 0
  pub ends : S → List End

abbrev pub log_kind : Kind VoiceLog Cause
log_kind = record { sees = here; meaning = log_meaning; sound = LogSound; does = LogDoes; ends = log_ends }

abbrev pub writer_kind : Kind ByteWriter Cause
writer_kind = record { sees = here; meaning = writer_meaning; sound = WriterSound; does = WriterDoes; ends = writer_ends }

module _ {S F : Type 0} (k : Kind S F) where
  abbrev pub transposed : Kind (Transposer S) (LayerFault F)
  transposed = record {
    sees = layer_denial k.sees;
    meaning = λ s. transposer_meaning k.meaning s;
    sound = λ s. TransposerSound k.sound s;
    does = λ s c a t. TransposerDoes k.does s c a t;
    ends = λ s. k.ends s.below;
  }

  abbrev pub divided : Kind (Split S) (LayerFault F)
  divided = record {
    sees = layer_denial k.sees;
    meaning = λ s. split_meaning k.meaning s;
    sound = λ s. SplitSound k.sound s;
    does = λ s c a t. SplitDoes k.does s c a t;
    ends = λ s. k.ends s.below;
  }

  abbrev pub held : Kind (Hold S) (LayerFault F)
  held = record {
    sees = layer_denial k.sees;
    meaning = λ s. hold_meaning k.meaning s;
    sound = λ s. HoldSound k.meaning k.sound s;
    does = λ s c a t. HoldDoes k.sees k.meaning k.does s c a t;
    ends = λ s. k.ends s.rolled.below;
  }

  abbrev pub single : Kind (Mono S) (LayerFault F)
  single = record {
    sees = layer_denial k.sees;
    meaning = λ s. mono_meaning k.meaning s;
    sound = λ s. MonoSound k.meaning k.sound s;
    does = λ s c a t. MonoDoes k.sees k.meaning k.does s c a t;
    ends = λ s. k.ends s.rolled.below;
  }

  abbrev pub limited : {O : Type 0} → (O → Note → Note → Bool) → Kind (Quota S O) (LayerFault F)
  limited before = record {
    sees = layer_denial k.sees;
    meaning = λ s. quota_meaning k.meaning s;
    sound = λ s. QuotaSound k.meaning k.sound s;
    does = λ s c a t. QuotaDoes k.sees k.meaning k.does before s c a t;
    ends = λ s. k.ends s.rolled.below;
  }

-- The console's stack: transposer over split over hold over mono over quota, the softest note hushed first, over a byte writer.
use Rattle.std.specs.Prelude.{◌≡◌, ℕ, min, false, List, [], length, replicate, pos, None, vec_items}
use Rattle.sink.specs.declared.fault.Cause.{Cause}
use Rattle.sink.specs.declared.fault.LayerFault.{LayerFault}
use Rattle.rolled.specs.Rolled.{notes_of}
use Rattle.transposer.specs.declared.transposer.Transposer.{Transposer}
use Rattle.split.specs.Zones.{AllZero}
use Rattle.split.specs.declared.split.Split.{Split}
use Rattle.hold.specs.declared.hold.Hold.{Hold}
use Rattle.mono.specs.declared.mono.Mono.{Mono}
use Rattle.quota.specs.Orders.{softer}
use Rattle.quota.specs.declared.order.ours.Softest.{Softest}
use Rattle.quota.specs.declared.quota.Quota.{Quota}
use Rattle.byte_writer.specs.Writer.{notes, voices}
use Rattle.byte_writer.specs.declared.writer.ByteWriter.{ByteWriter}
use Rattle.stacks.specs.Kinds.{Kind, writer_kind, transposed, divided, held, single, limited}

abbrev pub ConsoleStack : Type 0
ConsoleStack = Transposer (Split (Hold (Mono (Quota ByteWriter Softest))))

abbrev pub ConsoleFault : Type 0
ConsoleFault = LayerFault (LayerFault (LayerFault (LayerFault (LayerFault Cause))))

abbrev pub console_kind : Kind ConsoleStack ConsoleFault
console_kind = transposed (divided (held (single (limited writer_kind (λ o m n. softer m n)))))

abbrev pub writer_of : ConsoleStack → ByteWriter
writer_of s = s.below.below.rolled.below.rolled.below.rolled.below

-- new over these bytes: no shift, no split, every pedal up, every channel poly, the highest limit, and nothing written
pub record NewConsole (items : List ℕ) (s : ConsoleStack) : Type 0 where
  pub shift : s.shift.semitones ≡ pos 0
  pub zones : AllZero s.below.zones
  pub pedals : s.below.below.pedals.on ≡ replicate 16 false
  pub modes : s.below.below.rolled.below.modes.on ≡ replicate 16 false
  pub limit : s.below.below.rolled.below.rolled.below.limit.notes ≡ 64
  pub held : notes_of s.below.below.rolled ≡ []
  pub single : notes_of s.below.below.rolled.below.rolled ≡ []
  pub limited : notes_of s.below.below.rolled.below.rolled.below.rolled ≡ []
  pub owed : notes (writer_of s) ≡ []
  pub silent : voices (writer_of s) ≡ replicate 128 None
  pub written : (writer_of s).bytes.written ≡ 0
  pub bytes : vec_items (writer_of s).bytes.items ≡ items
  pub room : (writer_of s).bytes.room ≡ min (length items) 1000000000

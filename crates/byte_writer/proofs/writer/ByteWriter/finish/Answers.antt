use Rattle.std.proofs.Common.{take, vec_items, sym, subst, ap₂}
use Rattle.byte_writer.specs.Receiver.{Clean}
use Rattle.byte_writer.specs.Writer.{written_bytes, voices}
use Rattle.byte_writer.specs.Received.{told_clean}
use Rattle.byte_writer.proofs.Laws.{heard, sound_read_back, all_read_back}
use Rattle.byte_writer.proofs.writer.ByteWriter.finish.Goals as goal

pub returns-clause-clean : goal.returns-clause-clean
returns-clause-clean c = λ h. subst Clean (ap₂ (λ w v. take w (vec_items v)) (sym c.finish.ensures.written) (sym c.finish.ensures.items)) (told_clean (written_bytes c.args.self) (voices c.args.self) h.told)

pub returns-clause-heard : goal.returns-clause-heard
returns-clause-heard c = heard c.args.self

pub returns-clause-messages : goal.returns-clause-messages
returns-clause-messages c = sound_read_back c.args.self

pub returns-clause-read_back : goal.returns-clause-read_back
returns-clause-read_back c = all_read_back c.args.self

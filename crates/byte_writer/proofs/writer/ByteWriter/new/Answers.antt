use Rattle.ends.proofs.Tickets.{new_idle}
use Rattle.byte_writer.specs.Laws.{made}
use Rattle.byte_writer.proofs.Laws.{new_sound}
use Rattle.byte_writer.proofs.writer.ByteWriter.new.Goals as goal

pub returns-clause-since : goal.returns-clause-since
returns-clause-since c = made record { written = c.new.ensures.written; notes = c.new-2.ensures; silent = c.new-3.ensures.voices }

pub returns-clause-sound : goal.returns-clause-sound
returns-clause-sound c = new_sound _ record { written = c.new.ensures.written; notes = c.new-2.ensures; silent = c.new-3.ensures.voices }

pub returns-clause-idle : goal.returns-clause-idle
returns-clause-idle c = new_idle _ _ c.new-2.ensures c.new-3.ensures.voices _

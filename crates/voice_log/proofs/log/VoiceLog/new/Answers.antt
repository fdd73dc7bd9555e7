use Rattle.std.proofs.Common.{[], take, vec_items, sym, ap, subst, arith}
use Rattle.ends.proofs.Tickets.{new_order, new_idle}
use Rattle.voice_log.specs.Lines.{begun_count}
use Rattle.voice_log.specs.Serials.{Told}
use Rattle.voice_log.specs.Written.{told_none}
use Rattle.voice_log.proofs.log.VoiceLog.new.Goals as goal

pub invariant_of-result : goal.invariant_of-result
unfolding begun_count
invariant_of-result c = record { most = omega arith; counted = sym (ap (λ w. begun_count (take w (vec_items c.new.result.items))) c.new.ensures.written); reserved = omega arith }

pub returns-clause-sound : goal.returns-clause-sound
returns-clause-sound c = record {
  order = new_order _ _ c.new-2.ensures c.new-3.ensures.voices;
  told = subst (λ ls. Told ls c.new-3.result.voices) (sym (ap (λ w. take w (vec_items c.new.result.items)) c.new.ensures.written)) (subst (Told []) (sym c.new-3.ensures.voices) (told_none 128));
}

pub returns-clause-idle : goal.returns-clause-idle
returns-clause-idle c = new_idle _ _ c.new-2.ensures c.new-3.ensures.voices _

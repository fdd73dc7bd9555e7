use Rattle.std.proofs.Common.{arith}
use Rattle.roll.proofs.Tallies.{one_le}
use Rattle.voice_log.specs.Lines.{is_begun}
use Rattle.voice_log.specs.Written.{front_within, front_next}
use Rattle.voice_log.proofs.log.VoiceLog.write.Goals as goal

pub overflow_add-self : goal.overflow_add-self
overflow_add-self c =
    let m = c.args.self.now.most in
    let b = front_within c.args.self.now.lines in
    let o = one_le (is_begun c.args.line.kind) in
    omega arith

pub invariant_of-self : goal.invariant_of-self
invariant_of-self c =
    let p = c.push.ensures.free (omega arith) in
    let b = front_next c.args.line c.args.self.now.lines c.push.new.self p in
    record { most = omega arith; counted = omega arith; reserved = omega arith }

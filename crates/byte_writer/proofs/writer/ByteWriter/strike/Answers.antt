use Rattle.std.proofs.Common.{subst}
use Rattle.byte_writer.specs.Keys.{is_key}
use Rattle.byte_writer.specs.Writer.{voices, holder, HushedFirst}
use Rattle.byte_writer.specs.Holders.{holds_so}
use Rattle.byte_writer.specs.Wrote.{struck}
use Rattle.byte_writer.proofs.writer.ByteWriter.strike.Goals as goal

pub returns-clause-wrote : goal.returns-clause-wrote
returns-clause-wrote c =
    let s = c.args.self.now in
    let x = c.args.strike.key in
    let m = c.hush_first.new.self in
    let first : HushedFirst (holder x.channel x.number s) s m = subst (λ o. HushedFirst o s m) c.holder-holder.ensures c.hush_first.ensures.hushed in
    struck s m c.write.new.bytes x.channel x.number c.args.strike.velocity c.write.ensures (holder x.channel x.number s) (holds_so (is_key x.channel x.number) (voices s)) first

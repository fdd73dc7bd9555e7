use Rattle.std.proofs.Common.{◌≡◌, true, false, rules, tests}
use Rattle.std.proofs.lemmas.Iterator.{first_from_Range}
use Rattle.roll.specs.Voices.{voice, passes}
use Rattle.byte_writer.specs.Keys.{is_key}
use Rattle.byte_writer.specs.Writer.{voices}
use Rattle.byte_writer.specs.Holders.{found_first}
use Rattle.byte_writer.proofs.writer.ByteWriter.holder.Goals as goal

pub returns : goal.returns
returns c =
    let p = is_key c.args.key.channel c.args.key.number in
    let xs = voices c.args.self.now in
    found_first p xs c.find.result c.args.self.now.sounding.long
    (first_from_Range _ _ _ c.find.result (λ i. passes p (voice xs i) ≡ true) (λ i. passes p (voice xs i) ≡ false) c.find.ensures.ran
    (λ x q k. search (rules, tests))
    (λ x q k. (search rules, search (rules, tests))))

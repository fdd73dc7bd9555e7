use Rattle.std.proofs.Common.{refl}
use Rattle.script.proofs.Skips.{comments_skipped, blanks_skipped}
use Rattle.script.proofs.Returns.{bytes_return}
use Rattle.script.proofs.Decimals.{numbers_return}
use Rattle.script.proofs.theorems.laws.Goals as goal

pub returns : goal.returns
returns c = record {
  comments = comments_skipped;
  blanks = blanks_skipped;
  bytes = bytes_return;
  numbers = numbers_return;
  examples = (refl, refl, refl);
}

use Rattle.std.proofs.Common.{refl}
use Rattle.reader.proofs.Joins.{two_pieces_join, pieces_join, note_ons_join, real_time_apart}
use Rattle.reader.proofs.Places.{places_rise}
use Rattle.reader.proofs.theorems.laws.Goals as goal

pub returns : goal.returns
returns c = record {
  two_pieces = two_pieces_join;
  pieces = pieces_join;
  note_ons = note_ons_join;
  real_time = real_time_apart;
  places = places_rise;
  examples = (refl, refl, refl);
}

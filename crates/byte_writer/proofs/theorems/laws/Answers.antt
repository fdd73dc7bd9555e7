use Rattle.byte_writer.proofs.Laws.{messages_read_back, calls_read_back, all_read_back, six_bytes_a_start, first_starts}
use Rattle.byte_writer.proofs.theorems.laws.Goals as goal

pub returns : goal.returns
returns c = record {
  messages = messages_read_back;
  calls = calls_read_back;
  all = all_read_back;
  space = six_bytes_a_start;
  examples = first_starts;
}

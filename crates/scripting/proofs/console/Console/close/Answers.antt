use mathlib.Core.Logic.{∥∥₁_elim}
use Rattle.std.proofs.Common.{ℕ, List, take, vec_items, sym, ap, subst}
use Rattle.sink.specs.Ends.{Each, clean}
use Rattle.byte_writer.specs.Receiver.{Clean, Complete}
use Rattle.stacks.specs.Consoles.{console_kind}
use Rattle.scripting.proofs.Received.{clean_prop, complete_prop}
use Rattle.scripting.proofs.console.Console.close.Goals as goal

pub returns : goal.returns
returns c =
    let parts = c.into_bytes-bytes.ensures in
    let past = c.args.self.played in
    let out : List ℕ = take c.into_bytes-bytes.result.1 (vec_items c.into_bytes-bytes.result.0) in
    record {
      closes = record {
        left = c.close-stack.result.1;
        closes = c.close-stack.ensures.closed;
        written_is = parts.written;
        bytes_are = ap vec_items parts.bytes;
      };
      within = parts.within;
      clean = ∥∥₁_elim {P = Clean out} past (clean_prop out) (λ p. let end = c.close-stack.ensures.rests p.0 p.1 p.2 in parts.clean (subst (λ s. Each clean (console_kind.ends s)) (sym end.2.stack) end.3.stands.clean));
      complete = ∥∥₁_elim {P = Complete out} past (complete_prop out) (λ p. parts.complete (c.close-stack.ensures.rests p.0 p.1 p.2).3.rests.complete);
    }

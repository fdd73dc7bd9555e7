use Rattle.std.proofs.Common.{◌≡◌, ◌<◌, ◌≤◌, ℕ, List, true, false, length, Some, None, Option, unwrap_or, sym, ◌∙◌, arith, below_more, leb-false, rules, tests}
use Rattle.std.specs.Option.{MatchOption}
use Rattle.std.proofs.lemmas.Bool.{false_from_ne_true}
use Rattle.std.proofs.lemmas.Iterator.{first_from_Range}
use Rattle.roll.specs.declared.note.Note.{Note}
use Rattle.roll.specs.Notes.{lists, full}
use Rattle.roll.specs.Rolls.{listed}
use Rattle.roll.proofs.Tickets.{all_listed, found_lists}
use Rattle.roll.proofs.roll.Roll.free_ticket.Goals as goal

record Free (ns : List Note) (t : ℕ) : Type 0 where
  fresh : full ns ≡ false → lists ns t ≡ false
  least : (u : ℕ) → u < t → lists ns u ≡ true

-- the first of 127 tickets that is not listed, or 127
free : (ns : List Note) (r : Option ℕ) → MatchOption r ((k : ℕ) → 0 ≤ k → k < 127 → lists ns k ≡ true) (λ i. (0 ≤ i) × (i < 127) × (lists ns i ≡ false) × ((k : ℕ) → 0 ≤ k → k < i → lists ns k ≡ true)) → Free ns (unwrap_or r 127)
free ns (Some i) h = record { fresh = λ _. h.2; least = λ u lt. h.3 u (omega arith) lt }
free ns None h = record {
  fresh = λ room. false_from_ne_true (lists ns 127) (λ e. let all = all_listed 128 ns (below_more (λ u. lists ns u ≡ true) 127 (λ u lt. h u (omega arith) lt) e) in absurd (omega (arith, leb-false 128 (length ns) room)));
  least = λ u lt. h u (omega arith) lt;
}

found_free : (c : goal.After-unwrap_or) → Free (listed c.args.self.now) (unwrap_or c.find.result 127)
found_free c =
    let ns = listed c.args.self.now in
    free ns c.find.result (first_from_Range _ _ _ c.find.result (λ t. lists ns t ≡ false) (λ t. lists ns t ≡ true) c.find.ensures.ran (λ x q k. sym (found_lists x ns) ∙ search (rules, tests)) (λ x q k. (search rules, sym (found_lists x ns) ∙ search (rules, tests))))

pub returns-clause-fresh : goal.returns-clause-fresh
returns-clause-fresh c = rw c.unwrap_or.ensures (found_free c).fresh

pub returns-clause-least : goal.returns-clause-least
returns-clause-least c = rw c.unwrap_or.ensures (found_free c).least

use Rattle.std.proofs.Common.{◌≡◌, sym, subst, rules, ◌∙◌, ap}
use Rattle.std.specs.List.{filter, reduce}
use Rattle.rolled.specs.Rolled.{notes_of}
use Rattle.quota.specs.Orders.{Chosen, sounding_among}
use Rattle.quota.proofs.Choice.{kept_by, first_of, chosen}
use Rattle.roll.specs.declared.note.Note.{Note}
use Rattle.quota.proofs.quota.Quota.foremost.Goals as goal

pub returns : goal.returns
returns g c =
    let before = g.O.Order.before c.args.self.now.order in
    let sounds = λ (n : Note). (g.S.Sink.meaning c.args.self.now.rolled.below).sounding n.ticket in
    let ns = notes_of c.args.self.now.rolled in
    let reduced : c.reduce.result ≡ reduce (first_of before) (filter sounds ns) = search rules in
    subst (Chosen before (sounding_among (g.S.Sink.meaning c.args.self.now.rolled.below).sounding ns)) (sym (reduced ∙ ap (reduce (first_of before)) (kept_by sounds ns)))
    (chosen before (g.met.O.Order.total c.args.self.now.order) (g.met.O.Order.carries c.args.self.now.order) _)

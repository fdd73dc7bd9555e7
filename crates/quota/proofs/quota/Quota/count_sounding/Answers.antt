use Rattle.std.proofs.Common.{◌≡◌, length, ap, ◌∙◌, rules}
use Rattle.std.specs.List.{filter}
use Rattle.rolled.specs.Rolled.{notes_of}
use Rattle.roll.specs.declared.note.Note.{Note}
use Rattle.quota.proofs.Choice.{kept_by}
use Rattle.quota.proofs.quota.Quota.count_sounding.Goals as goal

pub returns : goal.returns
returns g c =
    let sounds = λ (n : Note). (g.S.Sink.meaning c.args.self.now.rolled.below).sounding n.ticket in
    let ns = notes_of c.args.self.now.rolled in
    let counted : c.count.result ≡ length (filter sounds ns) = search rules in
    counted ∙ ap length (kept_by sounds ns)

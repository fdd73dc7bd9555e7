use Rattle.exam_table.proofs.row.acts.send.Goals as goal

pub returns : goal.returns
returns g c = record { answer = c.feed.result; feeds = c.feed.ensures }

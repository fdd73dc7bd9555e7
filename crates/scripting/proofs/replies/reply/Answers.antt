use Rattle.std.proofs.Common.{rules, vec_items, subst}
use Rattle.run.specs.Past.{Feeds}
use Rattle.scripting.specs.Consoles.{FeedsIt}
use Rattle.scripting.proofs.replies.reply.Goals as goal

pub returns-in-Act-Feed : goal.returns-in-Act-Feed
returns-in-Act-Feed c =
    let fed : FeedsIt (vec_items c.in-Act-Feed.bytes) c.args.console.now.run c.from.result c.feed.new.self.run = record {
      taken = c.feed.result;
      feeds = subst (λ bytes. Feeds bytes c.args.console.now.run c.feed.result c.feed.new.self.run) c.deref.ensures.value c.feed.ensures;
      answer = c.from.ensures;
    } in
    record { ok = search rules; err = search rules }

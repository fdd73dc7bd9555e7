use Rattle.mono.proofs.Alone.{alone}
use Rattle.mono.proofs.mono.Mono.is_mono.Goals as goal

pub returns-clause-alone : goal.returns-clause-alone
returns-clause-alone g c =
    λ h e. alone record { orderly = g.met.S.Sink.orderly; stays = g.met.S.Sink.stays; means = g.met.S.Sink.means } c.args.self.now h c.args.channel cc

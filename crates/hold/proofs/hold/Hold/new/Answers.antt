use Rattle.rolled.proofs.Onward.{marked_owns, new_idle}
use Rattle.hold.specs.Law.{hold_new}
use Rattle.hold.proofs.hold.Hold.new.Goals as goal

pub returns-clause-sound : goal.returns-clause-sound
returns-clause-sound g c =
    λ h i. hold_new g.S.Sink.meaning g.S.Sink.sound _ c.new.ensures.roll (rw c.new.ensures.below i) (rw c.new.ensures.below h)

pub returns-clause-idle : goal.returns-clause-idle
returns-clause-idle g c =
    λ i. new_idle g.S.Sink.meaning g.S.Sink.sound c.new.result c.new.ensures.roll (rw c.new.ensures.below i) marked_owns

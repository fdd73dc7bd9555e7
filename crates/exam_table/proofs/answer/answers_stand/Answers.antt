use Rattle.exam_table.proofs.Steps.{answers_stand_lem}
use Rattle.exam_table.proofs.Written.{runs_stand}
use Rattle.exam_table.proofs.answer.answers_stand.Goals as goal

pub returns : goal.returns
returns c = record { calls = answers_stand_lem; runs = runs_stand _ _ (λ _ _ _ _ d. d) }

-- What is printed of an answer.
use Rattle.std.specs.Prelude.{ℕ, List, ◌++◌, Some, None, codes, decimal, Option}
use Rattle.sink.specs.Faults.{Denial}
use Rattle.run.specs.declared.counts.DeniedStart.{DeniedStart}
use Rattle.run.specs.declared.counts.Tally.{Tally}
use Rattle.scripting.specs.declared.answers.Answer.{Answer}
use Rattle.scripting.specs.declared.answers.Answer.TheVariants.{Done, TooManyBytes, Denied, Counted}

abbrev pub starts_text : {F : Type 0} → Tally F → List ℕ
starts_text t = codes "count=" ++ (decimal t.count ++ (codes " note_ons=" ++ (decimal t.note_ons ++ (codes " taken=" ++ (decimal t.taken ++ (codes " denied=" ++ decimal t.denied))))))

module _ {F : Type 0} (sees : F → Denial) where
  -- number, depth, place, channel and key of the first denied start
  abbrev pub first_text : Option (DeniedStart F) → List ℕ
  first_text None = codes "none"
  first_text (Some d) =
      decimal (sees d.fault).number ++ (codes "," ++ (decimal (sees d.fault).depth ++ (codes "," ++
      (decimal d.place ++ (codes "," ++ (decimal d.channel ++ (codes "," ++ decimal d.key)))))))

  abbrev pub others_text : Tally F → List ℕ
  others_text t = codes "returned=" ++ (decimal t.returned ++ (codes " stray=" ++ (decimal t.stray ++ (codes " passed=" ++ (decimal t.passed ++ (codes " first=" ++ first_text t.first))))))

  abbrev pub answer_text : Answer F → List ℕ
  answer_text Done = codes "ok"
  answer_text TooManyBytes = codes "denied 9"
  answer_text (Denied f) = codes "denied " ++ (decimal (sees f).number ++ (codes " " ++ decimal (sees f).depth))
  answer_text (Counted t) = codes "tally " ++ (starts_text t ++ (codes " " ++ others_text t))

-- What a layer may use of the sink below it.
use Rattle.sink.specs.Faults.{Denial}
use Rattle.sink.specs.Calls.{Call, Answer}
use Rattle.sink.specs.Meaning.{Meaning, Means, Orderly}

pub record Lawful {S F : Type 0} (sees : F → Denial) (meaning : S → Meaning) (sound : S → Type 0) (does : S → Call → Answer F → S → Type 0) : Type 0 where
  pub orderly : (s : S) → sound s → Orderly (meaning s)
  pub stays : (s : S) (c : Call) (a : Answer F) (t : S) → sound s → does s c a t → sound t
  pub means : (s : S) (c : Call) (a : Answer F) (t : S) → sound s → does s c a t → Means sees meaning s c a t

-- What an act does to a run, and what it is answered.
use Rattle.std.specs.Prelude.{◌≡◌, ℕ, List, ℤ, Ok, Err, Result}
use Rattle.sink.specs.Calls.{done, denied}
use Rattle.sink.specs.Calls as calls
use Rattle.sink.specs.declared.fault.refusal.Refusal
use Rattle.sink.specs.declared.sink.Sink
use Rattle.run.specs.declared.counts.TooManyBytes.{TooManyBytes as TooMany}
use Rattle.run.specs.declared.runs.Run.{Run}
use Rattle.run.specs.Counting.{tally_of}
use Rattle.run.specs.Past.{Feeds, Sets}
use Rattle.scripting.specs.declared.answers.Answer.{Answer}
use Rattle.scripting.specs.declared.answers.Answer.TheVariants.{Done, TooManyBytes, Denied, Counted}

-- whether a piece was taken
abbrev pub fed_answer : {F : Type 0} → Result (Unit {0}) TooMany → Answer F
fed_answer (Ok x) = Done
fed_answer (Err e) = TooManyBytes

-- whether the stack took a setting
abbrev pub set_answer : {F : Type 0} → calls.Answer F → Answer F
set_answer (calls.ticket t) = Done
set_answer done = Done
set_answer (denied f) = Denied f

module _ {S F : Type 0} {gs : Sink.Ghosts S F} {gf : Refusal.Ghosts F} where
  pub record FeedActs (bytes : List ℕ) (r : Run S F gs gf) (a : Answer F) (r' : Run S F gs gf) : Type 0 where
    pub taken : Result (Unit {0}) TooMany
    pub feeds : Feeds bytes r taken r'
    pub answer : a ≡ fed_answer taken

  pub record SetActs (depth item : ℕ) (value : ℤ) (r : Run S F gs gf) (a : Answer F) (r' : Run S F gs gf) : Type 0 where
    pub taken : calls.Answer F
    pub sets : Sets depth item value r taken r'
    pub answer : a ≡ set_answer taken

  -- the counts, with nothing changed
  pub record TallyActs (r : Run S F gs gf) (a : Answer F) (r' : Run S F gs gf) : Type 0 where
    pub same : r' ≡ r
    pub answer : a ≡ Counted (tally_of r.count r.player.counts)

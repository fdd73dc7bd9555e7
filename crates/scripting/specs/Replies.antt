-- What is printed for a line, and what it does to the run.
use Rattle.std.specs.Prelude.{◌≡◌, ℕ, List, [], ◌∷◌, ◌++◌, ℤ, codes, decimal}
use Rattle.sink.specs.declared.fault.refusal.Refusal
use Rattle.sink.specs.declared.sink.Sink
use Rattle.run.specs.Counting.{tally_of}
use Rattle.script.specs.Meanings.{Meant, nothing, feeds, sets, tallies, closes, unreadable}
use Rattle.stacks.specs.Consoles.{ConsoleStack, ConsoleFault, console_kind}
use Rattle.scripting.specs.Answers.{answer_text}
use Rattle.scripting.specs.Consoles.{ConsoleRun, FeedsIt, SetsIt}
use Rattle.scripting.specs.declared.answers.Answer.{Answer}
use Rattle.scripting.specs.declared.answers.Answer.TheVariants.{Counted}

abbrev pub console_text : Answer ConsoleFault → List ℕ
console_text a = answer_text console_kind.sees a

-- an answer on a line of its own, behind what was printed before
abbrev pub with_answer : List ℕ → Answer ConsoleFault → List ℕ
with_answer text a = text ++ (console_text a ++ (10 ∷ []))

module _ {gs : Sink.Ghosts ConsoleStack ConsoleFault} {gf : Refusal.Ghosts ConsoleFault} where
  -- nothing is done, and this is printed
  pub record Says (words : List ℕ) (r : ConsoleRun gs gf) (text : List ℕ) (r' : ConsoleRun gs gf) (text' : List ℕ) : Type 0 where
    pub same : r' ≡ r
    pub printed : text' ≡ text ++ words

  pub record FeedsAndSays (bytes : List ℕ) (r : ConsoleRun gs gf) (text : List ℕ) (r' : ConsoleRun gs gf) (text' : List ℕ) : Type 0 where
    pub answer : Answer ConsoleFault
    pub feeds : FeedsIt bytes r answer r'
    pub printed : text' ≡ with_answer text answer

  pub record SetsAndSays (depth item : ℕ) (value : ℤ) (r : ConsoleRun gs gf) (text : List ℕ) (r' : ConsoleRun gs gf) (text' : List ℕ) : Type 0 where
    pub answer : Answer ConsoleFault
    pub sets : SetsIt depth item value r answer r'
    pub printed : text' ≡ with_answer text answer

  pub record CountsAndSays (r : ConsoleRun gs gf) (text : List ℕ) (r' : ConsoleRun gs gf) (text' : List ℕ) : Type 0 where
    pub answer : Answer ConsoleFault
    pub counted : answer ≡ Counted (tally_of r.count r.player.counts)
    pub same : r' ≡ r
    pub printed : text' ≡ with_answer text answer

  abbrev pub Replies : ℕ → Meant → ConsoleRun gs gf → List ℕ → ConsoleRun gs gf → List ℕ → Type 0
  Replies n nothing r text r' text' = Says [] r text r' text'
  Replies n closes r text r' text' = Says [] r text r' text'
  Replies n unreadable r text r' text' = Says (codes "error line " ++ (decimal n ++ codes ": cannot be read\n")) r text r' text'
  Replies n (feeds bytes) r text r' text' = FeedsAndSays bytes r text r' text'
  Replies n (sets depth item value) r text r' text' = SetsAndSays depth item value r text r' text'
  Replies n tallies r text r' text' = CountsAndSays r text r' text'

  -- what an error leaves, which is want of memory for the answer: what the line says is done all the same, and a line that is not answered does not fail
  abbrev pub Leaves : Meant → ConsoleRun gs gf → ConsoleRun gs gf → Type 0
  Leaves nothing r r' = ⊥
  Leaves closes r r' = ⊥
  Leaves unreadable r r' = r' ≡ r
  Leaves (feeds bytes) r r' = (a : Answer ConsoleFault) × FeedsIt bytes r a r'
  Leaves (sets depth item value) r r' = (a : Answer ConsoleFault) × SetsIt depth item value r a r'
  Leaves tallies r r' = r' ≡ r

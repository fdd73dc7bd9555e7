-- A console: a run over the console's stack, from its opening on.
use Rattle.std.specs.Prelude.{◌≡◌, ℕ, List, ℤ, vec_items}
use Rattle.sink.specs.declared.fault.refusal.Refusal
use Rattle.sink.specs.declared.sink.Sink
use Rattle.run.specs.declared.counts.Tally.{Tally}
use Rattle.run.specs.declared.runs.Run.{Run}
use Rattle.run.specs.Steps.{Event}
use Rattle.run.specs.Past.{Opened, Past, ClosesBy}
use Rattle.stacks.specs.Consoles.{ConsoleStack, ConsoleFault, writer_of, NewConsole}
use Rattle.scripting.specs.Acting.{FeedActs, SetActs}
use Rattle.scripting.specs.declared.answers.Answer.{Answer}

abbrev pub ConsoleRun : Sink.Ghosts ConsoleStack ConsoleFault → Refusal.Ghosts ConsoleFault → Type 0
ConsoleRun gs gf = Run ConsoleStack ConsoleFault gs gf

module _ {gs : Sink.Ghosts ConsoleStack ConsoleFault} {gf : Refusal.Ghosts ConsoleFault} where
  abbrev pub ConsolePast : ConsoleRun gs gf → List ℕ → List (Event ConsoleFault) → Type 0
  ConsolePast r bytes es = Past r bytes es

  -- the run was opened over a new stack, and since then only fed, set and asked for its tally
  abbrev pub HasPast : ConsoleRun gs gf → Type 0
  HasPast r = ∥ ((bytes : List ℕ) × (es : List (Event ConsoleFault)) × ConsolePast r bytes es) ∥₁

  -- opened over a new stack with these bytes
  pub record Opens (items : List ℕ) (r : ConsoleRun gs gf) : Type 0 where
    pub stack : ConsoleStack
    pub new : NewConsole items stack
    pub opened : Opened stack r

  abbrev pub FeedsIt : (bytes : List ℕ) → ConsoleRun gs gf → Answer ConsoleFault → ConsoleRun gs gf → Type 0
  FeedsIt bytes r a r' = FeedActs bytes r a r'

  abbrev pub SetsIt : (depth item : ℕ) (value : ℤ) → ConsoleRun gs gf → Answer ConsoleFault → ConsoleRun gs gf → Type 0
  SetsIt depth item value r a r' = SetActs depth item value r a r'

  -- closed: the writer's bytes are those handed back
  pub record ClosesIt (r : ConsoleRun gs gf) (tally : Tally ConsoleFault) (written : ℕ) (items : List ℕ) : Type 0 where
    pub left : ConsoleStack
    pub closes : ClosesBy r tally left
    pub written_is : written ≡ (writer_of left).bytes.written
    pub bytes_are : items ≡ vec_items (writer_of left).bytes.items

-- What is done with a console stays within the pasts of its run.
use Rattle.std.proofs.Common.{ℕ, List, ◌++◌, ℤ, Ok, Err, Result}
use mathlib.Core.Logic.{∥∥₁_map}
use Rattle.sink.specs.Calls.{Answer}
use Rattle.sink.specs.declared.fault.refusal.Refusal
use Rattle.sink.specs.declared.sink.Sink
use Rattle.run.specs.declared.counts.TooManyBytes.{TooManyBytes}
use Rattle.run.specs.Past.{Feeds, Sets, fed, fed_denied, set}
use Rattle.stacks.specs.Consoles.{ConsoleStack, ConsoleFault}
use Rattle.scripting.specs.Consoles.{ConsoleRun, HasPast}

module _ {gs : Sink.Ghosts ConsoleStack ConsoleFault} {gf : Refusal.Ghosts ConsoleFault} where
  pub fed_past : (r r' : ConsoleRun gs gf) (bytes : List ℕ) (a : Result (Unit {0}) TooManyBytes) → Feeds bytes r a r' → HasPast r → HasPast r'
  fed_past r r' bytes (Ok x) f h = ∥∥₁_map h (λ p. (p.0 ++ bytes, p.1 ++ f.0, fed bytes p.2 f.1))
  fed_past r r' bytes (Err e) f h = ∥∥₁_map h (λ p. (p.0, p.1, fed_denied e bytes p.2 f))

  pub set_past : (r r' : ConsoleRun gs gf) (depth item : ℕ) (value : ℤ) (a : Answer ConsoleFault) → Sets depth item value r a r' → HasPast r → HasPast r'
  set_past r r' depth item value a f h = ∥∥₁_map h (λ p. (p.0, p.1, set depth item value p.2 f))

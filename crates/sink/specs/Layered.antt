-- What a layer means over the sink below, and how it hands a call on.
use Rattle.std.specs.Prelude.{◌≡◌, ℕ, Bool, cond, not, ◌&&◌, ◌||◌}
use Rattle.sink.specs.Faults.{here, deeper}
use Rattle.sink.specs.Calls.{Call, Answer, ticket, done, denied}
use Rattle.sink.specs.Meaning.{Readiness, is_ready, refuses, Meaning}
use Rattle.sink.specs.declared.fault.Cause.TheVariants.{AllOut}
use Rattle.sink.specs.declared.fault.LayerFault.{LayerFault}
use Rattle.sink.specs.declared.fault.LayerFault.TheVariants.{Below}

-- an answer of below, its fault carried up whole
abbrev pub passed : {F : Type 0} → Answer F → Answer (LayerFault F)
passed (ticket t) = ticket t
passed done = done
passed (denied f) = denied (Below f)

-- below answers first; where it is ready, a full roll is the layer's own reason to refuse
abbrev pub ready_over : Bool → Readiness → Readiness
ready_over full (refuses d) = refuses (deeper d)
ready_over full is_ready = cond full (refuses (here AllOut)) is_ready

-- A ticket that the layer keeps back itself is owed below and counts as kept here; every other is owed, kept and sounding as below.
abbrev pub layered : Bool → (ℕ → Bool) → Meaning → Meaning
layered full own m = record {
  ready = ready_over full m.ready;
  owed = λ u. m.owed u && not (own u);
  kept = λ u. m.kept u || own u;
  sounding = m.sounding;
}

-- A call is refused with this fault, and changes nothing.
pub record Refused {S F : Type 0} (f : F) (s : S) (a : Answer F) (t : S) : Type 0 where
  pub answer : a ≡ denied f
  pub same : t ≡ s

-- A call is made below, and its answer passed up.
pub record Handed {S F : Type 0} (does : S → Call → Answer F → S → Type 0) (c : Call) (s : S) (a : Answer (LayerFault F)) (t : S) : Type 0 where
  pub below : Answer F
  pub call : does s c below t
  pub up : a ≡ passed below

-- Two transposers, one over the other.
use Rattle.std.specs.Prelude.{◌≡◌, ℕ, ◌≤◌, true, ℤ, pos, ◌+ℤ◌}
use Rattle.sink.specs.Calls.{Call, Start, Answer, startable}
use Rattle.sink.specs.Layered.{passed}
use Rattle.sink.specs.declared.fault.LayerFault.{LayerFault}
use Rattle.transposer.specs.Transposer.{TransposerDoes}
use Rattle.transposer.specs.declared.transposer.Transposer.{Transposer}

module _ {S F : Type 0} (does : S → Call → Answer F → S → Type 0) where
  -- the start that reaches the sink below both, and its answer passed up twice
  pub record Reaches (place channel key velocity : ℕ) (s : Transposer (Transposer S)) (a : Answer (LayerFault (LayerFault F))) (t : Transposer (Transposer S)) : Type 0 where
    pub below : Answer F
    pub call : does s.below.below (Start place channel key velocity) below t.below.below
    pub up : a ≡ passed (passed below)

  -- Where neither of the two has to fold, a start reaches the sink below both with its key moved by the sum.
  abbrev pub ShiftsAdd : (sum : ℤ) → Transposer (Transposer S) → Type 0
  ShiftsAdd sum s =
      (place channel key velocity between to : ℕ) (a : Answer (LayerFault (LayerFault F))) (t : Transposer (Transposer S)) →
      startable channel key velocity ≡ true →
      pos key +ℤ s.shift.semitones ≡ pos between → between ≤ 127 →
      pos key +ℤ sum ≡ pos to → to ≤ 127 →
      TransposerDoes (TransposerDoes does) s (Start place channel key velocity) a t →
      Reaches place channel to velocity s a t

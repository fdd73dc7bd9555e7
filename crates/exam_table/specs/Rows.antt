-- The rows of the question: what is done at each, and a run of all five.
use Rattle.std.specs.Prelude.{ℕ, List, [], ◌∷◌, pos, Result}
use Rattle.sink.specs.declared.fault.refusal.Refusal
use Rattle.sink.specs.declared.sink.Sink
use Rattle.sink.specs.Calls.{Answer}
use Rattle.run.specs.declared.counts.Tally.{Tally}
use Rattle.run.specs.declared.counts.TooManyBytes.{TooManyBytes}
use Rattle.run.specs.declared.runs.Run.{Run}
use Rattle.run.specs.Past.{Opened, Feeds, Sets, ClosesBy}
use Rattle.exam_table.specs.declared.row.Row.{Row}
use Rattle.exam_table.specs.declared.row.Row.TheVariants.{KeyDown, Transpose, PedalDown, KeyUp, PedalUp}

-- how many bytes have been read once the row is played
abbrev pub end_of : Row → ℕ
end_of KeyDown = 3
end_of Transpose = 3
end_of PedalDown = 6
end_of KeyUp = 9
end_of PedalUp = 12

module _ {S F : Type 0} {gs : Sink.Ghosts S F} {gf : Refusal.Ghosts F} where
  -- the run is fed these bytes
  pub record Fed (bytes : List ℕ) (r r' : Run S F gs gf) : Type 0 where
    pub answer : Result (Unit {0}) TooManyBytes
    pub feeds : Feeds bytes r answer r'

  -- key 60 with velocity 100, the transposer 12 up, the hold pedal, the key up, the pedal up
  abbrev pub Acts : Row → Run S F gs gf → Run S F gs gf → Type 0
  Acts KeyDown r r' = Fed (0x90 ∷ 60 ∷ 100 ∷ []) r r'
  Acts Transpose r r' = (a : Answer F) × Sets 0 0 (pos 12) r a r'
  Acts PedalDown r r' = Fed (0xB0 ∷ 64 ∷ 127 ∷ []) r r'
  Acts KeyUp r r' = Fed (0x80 ∷ 60 ∷ 64 ∷ []) r r'
  Acts PedalUp r r' = Fed (0xB0 ∷ 64 ∷ 0 ∷ []) r r'

module _ {S F : Type 0} (gs : Sink.Ghosts S F) (gf : Refusal.Ghosts F) where
  -- a run is opened over the stack, the rows are played in their order, and it is closed
  pub record Plays (stack left : S) : Type 0 where
    pub r₀ : Run S F gs gf
    pub r₁ : Run S F gs gf
    pub r₂ : Run S F gs gf
    pub r₃ : Run S F gs gf
    pub r₄ : Run S F gs gf
    pub r₅ : Run S F gs gf
    pub tally : Tally F
    pub opens : Opened stack r₀
    pub key_down : Acts KeyDown r₀ r₁
    pub transpose : Acts Transpose r₁ r₂
    pub pedal_down : Acts PedalDown r₂ r₃
    pub key_up : Acts KeyUp r₃ r₄
    pub pedal_up : Acts PedalUp r₄ r₅
    pub closes : ClosesBy r₅ tally left

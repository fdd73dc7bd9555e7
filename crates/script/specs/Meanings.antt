-- What a line means.
use Rattle.std.specs.Prelude.{ℕ, cond, List, [], ◌∷◌, ℤ, Some, None, codes, Option}
use Rattle.std.specs.Str.{bytes_eq}
use Rattle.script.specs.Words.{uncommented, words_of}
use Rattle.script.specs.Numbers.{all_bytes, number_of, signed_of}

pub data Meant : Type 0 where
  nothing : Meant
  feeds : List ℕ → Meant
  sets : ℕ → ℕ → ℤ → Meant
  tallies : Meant
  closes : Meant
  unreadable : Meant

abbrev pub feeds_all : Option (List ℕ) → Meant
feeds_all None = unreadable
feeds_all (Some bs) = feeds bs

abbrev pub sets_all : Option ℕ → Option ℕ → Option ℤ → Meant
sets_all None i v = unreadable
sets_all (Some d) None v = unreadable
sets_all (Some d) (Some i) None = unreadable
sets_all (Some d) (Some i) (Some v) = sets d i v

-- exactly three words
abbrev pub sets_by : List (List ℕ) → Meant
sets_by [] = unreadable
sets_by (d ∷ []) = unreadable
sets_by (d ∷ i ∷ []) = unreadable
sets_by (d ∷ i ∷ v ∷ []) = sets_all (number_of d) (number_of i) (signed_of v)
sets_by (d ∷ i ∷ v ∷ w ∷ ws) = unreadable

-- no word
abbrev pub by_itself : Meant → List (List ℕ) → Meant
by_itself m [] = m
by_itself m (w ∷ ws) = unreadable

-- a first word with those that follow it
abbrev pub command : List ℕ → List (List ℕ) → Meant
command name ws =
    cond (bytes_eq name (codes "feed")) (feeds_all (all_bytes ws)) (
    cond (bytes_eq name (codes "set")) (sets_by ws) (
    cond (bytes_eq name (codes "tally")) (by_itself tallies ws) (
    cond (bytes_eq name (codes "close")) (by_itself closes ws) unreadable)))

abbrev pub meaning : List (List ℕ) → Meant
meaning [] = nothing
meaning (name ∷ ws) = command name ws

abbrev pub meant : List ℕ → Meant
meant cs = meaning (words_of (uncommented cs))

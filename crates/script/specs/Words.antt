-- The words of a line.
use Rattle.std.specs.Prelude.{ℕ, Bool, cond, ◌||◌, List, [], ◌∷◌, ◌++◌, ◌==◌}

-- what stands before a comment
abbrev pub uncommented : List ℕ → List ℕ
uncommented [] = []
uncommented (c ∷ cs) = cond (c == 35) [] (c ∷ uncommented cs)

-- a space, a tab or a carriage return
abbrev pub blank : ℕ → Bool
blank c = c == 32 || (c == 9 || c == 13)

-- a word that has ended, before those behind it; without a byte it is none
abbrev pub ended : List ℕ → List (List ℕ) → List (List ℕ)
ended [] ws = ws
ended (c ∷ cs) ws = (c ∷ cs) ∷ ws

-- the words of a text behind the bytes of a word that has begun
abbrev pub words_after : List ℕ → List ℕ → List (List ℕ)
words_after w [] = ended w []
words_after w (c ∷ cs) = cond (blank c) (ended w (words_after [] cs)) (words_after (w ++ (c ∷ [])) cs)

abbrev pub words_of : List ℕ → List (List ℕ)
words_of cs = words_after [] cs

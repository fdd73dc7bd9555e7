-- A log's lines as text.
use Rattle.std.specs.Prelude.{ℕ, List, [], ◌∷◌, ◌++◌}
use Rattle.voice_log.specs.declared.line.Line.{Line}
use Rattle.voice_log.specs.Text.{line_text_of}

-- a line's end after each
abbrev pub lines_text : List Line → List ℕ
lines_text [] = []
lines_text (l ∷ ls) = line_text_of l ++ (10 ∷ lines_text ls)

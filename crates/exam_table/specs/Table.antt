-- The table as text.
use Rattle.std.specs.Prelude.{ℕ, List, [], ◌∷◌, ◌++◌, codes, decimal}
use Rattle.voice_log.specs.declared.line.Line.{Line}
use Rattle.exam_table.specs.declared.row.Row.{Row}
use Rattle.exam_table.specs.declared.row.Row.TheVariants.{KeyDown, Transpose, PedalDown, KeyUp, PedalUp}
use Rattle.exam_table.specs.Rows.{end_of}
use Rattle.exam_table.specs.Speaking.{speaking}

abbrev pub label_of : Row → List ℕ
label_of KeyDown = codes "key 60 down      "
label_of Transpose = codes "transposer +12   "
label_of PedalDown = codes "pedal down       "
label_of KeyUp = codes "key 60 up        "
label_of PedalUp = codes "pedal up         "

abbrev pub keys_text : List ℕ → List ℕ
keys_text [] = []
keys_text (k ∷ ks) = codes " " ++ (decimal k ++ keys_text ks)

abbrev pub pipes_text : List ℕ → List ℕ
pipes_text [] = codes "none"
pipes_text (k ∷ ks) = codes "pipe" ++ keys_text (k ∷ ks)

-- what is done at a row, which pipes then speak, and the line's end
unfoldable pub row_text : List Line → Row → List ℕ
row_text ls row = label_of row ++ (pipes_text (speaking (end_of row) ls) ++ (10 ∷ []))

abbrev pub table_text : List Line → List ℕ
table_text ls = row_text ls KeyDown ++ (row_text ls Transpose ++ (row_text ls PedalDown ++ (row_text ls KeyUp ++ row_text ls PedalUp)))

-- the pipe of key 60 speaks after each row but the last, and after that none
abbrev pub right_answers : List ℕ
right_answers =
    codes "key 60 down      pipe 60" ++ (10 ∷ (
    codes "transposer +12   pipe 60" ++ (10 ∷ (
    codes "pedal down       pipe 60" ++ (10 ∷ (
    codes "key 60 up        pipe 60" ++ (10 ∷ (
    codes "pedal up         none" ++ (10 ∷ [])))))))))

-- A line as it is printed: six decimal numbers, one space between.
use Rattle.std.specs.Prelude.{ℕ, List, ◌++◌, codes, decimal}
use Rattle.voice_log.specs.Lines.{kind_number}
use Rattle.voice_log.specs.declared.line.Line.{Line}

abbrev pub spaced : ℕ → List ℕ → List ℕ
spaced n rest = decimal n ++ (codes " " ++ rest)

abbrev pub line_text_of : Line → List ℕ
line_text_of l = spaced l.place (spaced (kind_number l.kind) (spaced l.serial (spaced l.channel (spaced l.key (decimal l.velocity)))))

-- The text of an item.
use Rattle.std.specs.Prelude.{ℕ, ◌/◌, ◌%◌, true, cond, List, [], ◌∷◌, ◌++◌, codes, decimal}
use Rattle.std.specs.Fmt.{signed_decimal, digit_glyph}
use Rattle.reader.specs.declared.items.Message.{Message}
use Rattle.reader.specs.declared.items.Message.TheVariants as m
use Rattle.reader.specs.Rules.{Reading, message, part}

-- a message: its kind, and then its fields, one space between
abbrev pub message_text : Message → List ℕ
message_text (m.NoteOff c k v) = codes "Note-off " ++ (decimal c ++ (codes " " ++ (decimal k ++ (codes " " ++ decimal v))))
message_text (m.NoteOn c k v) = codes "Note-on " ++ (decimal c ++ (codes " " ++ (decimal k ++ (codes " " ++ decimal v))))
message_text (m.KeyPressure c k v) = codes "Key-pressure " ++ (decimal c ++ (codes " " ++ (decimal k ++ (codes " " ++ decimal v))))
message_text (m.Control c n v) = codes "Control " ++ (decimal c ++ (codes " " ++ (decimal n ++ (codes " " ++ decimal v))))
message_text (m.Program c v) = codes "Program " ++ (decimal c ++ (codes " " ++ decimal v))
message_text (m.ChannelPressure c v) = codes "Channel-pressure " ++ (decimal c ++ (codes " " ++ decimal v))
message_text (m.Bend c v) = codes "Bend " ++ (decimal c ++ (codes " " ++ signed_decimal v))
message_text (m.QuarterFrame v) = codes "Quarter-frame " ++ decimal v
message_text (m.SongPosition v) = codes "Song-position " ++ decimal v
message_text (m.SongSelect v) = codes "Song-select " ++ decimal v
message_text m.TuneRequest = codes "Tune-request"
message_text (m.RealTime b) = codes "Real-time " ++ decimal b
message_text m.Reset = codes "Reset"
message_text m.Undefined = codes "Undefined"
message_text m.Stray = codes "Stray"
message_text m.Cut = codes "Cut"
message_text m.ExclusiveBegun = codes "Exclusive-begun"
message_text (m.ExclusiveEnded w) = codes "Exclusive-ended " ++ cond w (codes "whole") (codes "not-whole")

-- bytes in hexadecimal, two digits each, with no space between
abbrev pub hex_text : List ℕ → List ℕ
hex_text [] = []
hex_text (b ∷ bs) = digit_glyph true (b / 16) ∷ digit_glyph true (b % 16) ∷ hex_text bs

-- a line: the place, and then what was read there
abbrev pub line_text_of : Reading → List ℕ
line_text_of (message p x) = decimal p ++ (codes " " ++ message_text x)
line_text_of (part p bs) = decimal p ++ (codes " Exclusive-part " ++ hex_text bs)

-- a line's end after each
abbrev pub text_of : List Reading → List ℕ
text_of [] = []
text_of (r ∷ rs) = line_text_of r ++ (10 ∷ text_of rs)

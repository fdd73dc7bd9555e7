-- Our ends below a sink. Each end says itself, of the lines or bytes that it has written, what these two sentences are:
-- clean: no note was begun twice, and none stopped that had not begun;
-- complete: every note begun has its one stop.
use Rattle.std.specs.Prelude.{List, [], ◌∷◌}

pub record End : Type 1 where
  pub clean : Type 0
  pub complete : Type 0

abbrev pub clean : End → Type 0
clean e = e.clean

abbrev pub complete : End → Type 0
complete e = e.complete

abbrev pub Each : (End → Type 0) → List End → Type 0
Each P [] = Unit {0}
Each P (e ∷ es) = P e × Each P es

use Rattle.std.proofs.Common.{◌≡◌, ◌≤◌, take, drop}
use Rattle.roll.specs.Notes.{left_out, picked}
use Rattle.roll.specs.Rolls.{listed}
use Rattle.roll.proofs.roll.Roll.drop_picked.Given as goal

abbrev pub invariant-loop-i : goal.invariant-loop-i
invariant-loop-i l = record {
  few : l.self.count ≤ l.i;
  left : listed l.self ≡ left_out (picked l.pick) (take l.i l.initial.self.notes);
  rest : drop l.i l.self.notes ≡ drop l.i l.initial.self.notes;
}

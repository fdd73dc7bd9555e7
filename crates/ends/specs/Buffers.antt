-- A buffer: what is written, and what one more write does.
use Rattle.std.specs.Prelude.{◌≡◌, ℕ, ◌+◌, List, ◌++◌, length, take, drop, vec_items, slice_set}
use Rattle.ends.specs.declared.buffer.Buffer.{Buffer}

-- what is written so far
abbrev pub front : {T : Type 0} → Buffer T → List T
front b = take b.written (vec_items b.items)

-- these items stand from place i on; every other place stays
abbrev pub written_at : {T : Type 0} → ℕ → List T → List T → List T
written_at i ys xs = take i xs ++ (ys ++ drop (i + length ys) xs)

-- one item is written at the next place, and nothing else
pub record Pushed {T : Type 0} (x : T) (b c : Buffer T) : Type 0 where
  pub items : vec_items c.items ≡ slice_set (vec_items b.items) b.written x
  pub written : c.written ≡ b.written + 1
  pub room : c.room ≡ b.room

-- these items are written at the next places, and nothing else
pub record Appended {T : Type 0} (ys : List T) (b c : Buffer T) : Type 0 where
  pub items : vec_items c.items ≡ written_at b.written ys (vec_items b.items)
  pub written : c.written ≡ b.written + length ys
  pub room : c.room ≡ b.room

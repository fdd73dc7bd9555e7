-- How many Note-ons there are.
use Rattle.std.proofs.Common.{◌≡◌, ℕ, ◌+◌, List, [], ◌∷◌, ◌++◌, length, sym, ap, ◌∙◌, append-nil, arith}
use Rattle.reader.specs.declared.items.Message.{Message}
use Rattle.reader.specs.declared.items.Message.TheVariants as m
use Rattle.reader.specs.declared.states.State.{State}
use Rattle.reader.specs.Rules.{Reading, message, part, reads, reaches}
use Rattle.reader.specs.Laws.{note_ons_of, if_note_on}
use Rattle.reader.proofs.Joins.{note_ons_join}

abbrev pub on_counts : List Reading → ℕ
on_counts rs = length (note_ons_of rs)

abbrev pub on_count : Reading → ℕ
on_count r = on_counts (r ∷ [])

one_more : (p : ℕ) (x : Message) (rs : List Reading) → length (if_note_on p x rs) ≡ length (if_note_on p x []) + length rs
one_more p (m.NoteOff c k v) rs = omega arith
one_more p (m.NoteOn c k v) rs = omega arith
one_more p (m.KeyPressure c k v) rs = omega arith
one_more p (m.Control c n v) rs = omega arith
one_more p (m.Program c v) rs = omega arith
one_more p (m.ChannelPressure c v) rs = omega arith
one_more p (m.Bend c v) rs = omega arith
one_more p (m.QuarterFrame v) rs = omega arith
one_more p (m.SongPosition v) rs = omega arith
one_more p (m.SongSelect v) rs = omega arith
one_more p m.TuneRequest rs = omega arith
one_more p (m.RealTime b) rs = omega arith
one_more p m.Reset rs = omega arith
one_more p m.Undefined rs = omega arith
one_more p m.Stray rs = omega arith
one_more p m.Cut rs = omega arith
one_more p m.ExclusiveBegun rs = omega arith
one_more p (m.ExclusiveEnded w) rs = omega arith

pub counts_append : (rs ts : List Reading) → on_counts (rs ++ ts) ≡ on_counts rs + on_counts ts
counts_append [] ts = omega arith
counts_append (message p x ∷ rs) ts = omega (arith, one_more p x (note_ons_of (rs ++ ts)), one_more p x (note_ons_of rs), counts_append rs ts)
counts_append (part p xs ∷ rs) ts = counts_append rs ts

-- the Note-ons of two pieces are as many as those of the two joined
pub counts_join : (st : State) (p : ℕ) (xs ys : List ℕ) → on_counts (reads st p (xs ++ ys)) ≡ on_counts (reads st p xs) + on_counts (reads (reaches st xs) (p + length xs) ys)
counts_join st p xs ys =
    let second = reads (reaches st xs) (p + length xs) ys in
    ap (λ l. on_counts (reads st p (xs ++ l))) (sym (append-nil ys))
    ∙ ap length (sym (note_ons_join st p (xs ∷ (ys ∷ []))))
    ∙ ap (λ l. on_counts (reads st p xs ++ l)) (append-nil second)
    ∙ counts_append (reads st p xs) second

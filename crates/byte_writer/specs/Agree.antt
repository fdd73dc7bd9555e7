-- Tickets sound with the keys of their notes.
use Rattle.std.specs.Prelude.{◌≡◌, ℕ, zero, suc, ◌<◌, true, false, cond, List, [], ◌∷◌, ◌++◌, length, replicate, is_some, Some, None, Option, ◌==◌, slice_set, refl}
use Rattle.std.proofs.Common.{sym, ap, ◌∙◌, length-set}
use Rattle.sink.proofs.Bools.{clash, self_eq, same_or}
use Rattle.roll.specs.Notes.{found, lists, left_out, picked}
use Rattle.roll.specs.Voices.{voice}
use Rattle.roll.specs.declared.note.Note.{Note}
use Rattle.roll.specs.declared.note.Pick.TheVariants.{Ticket}
use Rattle.roll.proofs.Tallies.{at_set, none_there}
use Rattle.roll.proofs.Tickets.{found_old, found_new, found_drop}
use Rattle.byte_writer.specs.Keys.{silenced}
use Rattle.byte_writer.specs.Writer.{Agree}
use Rattle.byte_writer.specs.declared.key.Key.{Key}

silent_no : {A : Type 0} (o : Option Key) (x : Key) → o ≡ Some x → o ≡ None → A
silent_no o x e f = clash (is_some o) (ap is_some e) (ap is_some f)

-- ---- a ticket that falls silent adds no voice

still : (xs : List (Option Key)) (u w : ℕ) (x : Key) → voice (slice_set xs u None) w ≡ Some x → voice xs w ≡ Some x
still [] u w x e = e
still (y ∷ xs) zero zero x e = silent_no None x e refl
still (y ∷ xs) zero (suc w) x e = e
still (y ∷ xs) (suc u) zero x e = e
still (y ∷ xs) (suc u) (suc w) x e = still xs u w x e

pub still_sounds : (xs : List (Option Key)) (o : Option ℕ) (w : ℕ) (x : Key) → voice (silenced o xs) w ≡ Some x → voice xs w ≡ Some x
still_sounds xs None w x e = e
still_sounds xs (Some u) w x e = still xs u w x e

pub quieter : (xs : List (Option Key)) (o : Option ℕ) (w : ℕ) → is_some (voice (silenced o xs) w) ≡ true → is_some (voice xs w) ≡ true
quieter xs o w e = by (voice (silenced o xs) w) refl e
  where
    by : (z : Option Key) → voice (silenced o xs) w ≡ z → is_some z ≡ true → is_some (voice xs w) ≡ true
    by None f e = clash false e refl
    by (Some x) f e = ap is_some (still_sounds xs o w x f)

pub silenced_long : (xs : List (Option Key)) (o : Option ℕ) → length (silenced o xs) ≡ length xs
silenced_long xs None = refl
silenced_long xs (Some u) = length-set xs u None

-- ---- the calls

pub none_agree : (ns : List Note) (xs : List (Option Key)) → xs ≡ replicate 128 None → Agree ns xs
none_agree ns xs e u x f = silent_no (voice xs u) x f (ap (λ l. voice l u) e ∙ none_there 128 u)

abbrev Known : List Note → ℕ → Key → Type 0
Known ns u x = (n : Note) × (found u ns ≡ Some n) × (n.channel ≡ x.channel) × (n.key ≡ x.number)

pub begun_agree : (ns : List Note) (xs zs : List (Option Key)) (n : Note) (x : Key) → Agree ns xs → lists ns n.ticket ≡ false → n.ticket < length zs → ((u : ℕ) (y : Key) → voice zs u ≡ Some y → voice xs u ≡ Some y) → x.channel ≡ n.channel → x.number ≡ n.key → Agree (ns ++ (n ∷ [])) (slice_set zs n.ticket (Some x))
begun_agree ns xs zs n x agree fresh lt held is_c is-k u y e =
    same_or (λ w. voice (slice_set zs i (Some x)) w ≡ Some y → Known (ns ++ (n ∷ [])) w y) i u
    (λ f. let same : x ≡ y = cc (at_set zs i i (Some x) lt ∙ ap (λ b. cond b (Some x) (voice zs i)) (self_eq i)) in (n, found_new ns n fresh, sym is_c ∙ ap (λ (z : Key). z.channel) same, sym is-k ∙ ap (λ (z : Key). z.number) same))
    (λ ne f. let k = agree u y (held u y (sym (at_set zs i u (Some x) lt ∙ ap (λ b. cond b (Some x) (voice zs u)) ne) ∙ f)) in (k.0, found_old ns n u ne ∙ k.1, k.2, k.3)) e
  where
    i : ℕ
    i = n.ticket

stop_agree : (ns ms : List Note) (xs : List (Option Key)) (u : ℕ) → Agree ns xs → u < length xs → ((w : ℕ) → (u == w) ≡ false → found w ms ≡ found w ns) → Agree ms (slice_set xs u None)
stop_agree ns ms xs u agree lt stay w x e =
    same_or (λ v. voice (slice_set xs u None) v ≡ Some x → Known ms v x) u w
    (λ f. silent_no (voice (slice_set xs u None) u) x f (at_set xs u u None lt ∙ ap (λ b. cond b None (voice xs u)) (self_eq u)))
    (λ ne f. let k = agree w x (still xs u w x f) in (k.0, stay w ne ∙ k.1, k.2, k.3)) e

pub hushed_agree : (ns : List Note) (xs : List (Option Key)) (u : ℕ) → Agree ns xs → u < length xs → Agree ns (slice_set xs u None)
hushed_agree ns xs u agree lt = stop_agree ns ns xs u agree lt (λ w ne. refl)

pub ended_agree : (ns : List Note) (xs : List (Option Key)) (u : ℕ) → Agree ns xs → u < length xs → Agree (left_out (picked (Ticket u)) ns) (slice_set xs u None)
ended_agree ns xs u agree lt = stop_agree ns (left_out (picked (Ticket u)) ns) xs u agree lt (λ w ne. found_drop u w ns ne)

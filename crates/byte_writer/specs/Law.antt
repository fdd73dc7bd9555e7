-- A byte writer has the meaning of a sink, and its bytes tell of what sounds.
use Rattle.std.specs.Prelude.{◌≡◌, ℕ, ◌*◌, ◌<◌, ◌≤◌, Bool, true, false, cond, ◌&&◌, ltb, List, [], ◌∷◌, ◌++◌, length, is_some, Some, None, Ok, Option, ◌==◌, nat_le, nat_lt, slice_set, refl}
use Rattle.std.proofs.Common.{sym, ap, ap₂, subst, ◌∙◌, append_assoc, append-nil, arith, leb-true, length-set}
use Rattle.std.proofs.lemmas.Bool.{and_parts}
use Rattle.sink.specs.Faults.{here}
use Rattle.sink.specs.Calls.{Call, Start, Release, Hush, Answer, startable}
use Rattle.sink.specs.Meaning.{Means}
use Rattle.sink.specs.declared.fault.Cause.{Cause}
use Rattle.sink.proofs.Bools.{refuted}
use Rattle.roll.specs.Notes.{found, lists, left_out, picked}
use Rattle.roll.specs.Rolls.{listed}
use Rattle.roll.specs.Voices.{one, voice, passes, sounding_with, tally}
use Rattle.roll.specs.declared.note.Note.{Note}
use Rattle.roll.specs.declared.note.Pick.TheVariants.{Ticket}
use Rattle.roll.proofs.Tallies.{at_set, at_some, set_none, with_stop, one_le}
use Rattle.ends.specs.Ending.{new_note, InOrder}
use Rattle.ends.proofs.Tickets.{owed_note, is_none, begun_order, ended_order, hushed_order}
use Rattle.ends.proofs.Law.{end_began, end_ended, end_hushed, end_law}
use Rattle.byte_writer.specs.Keys.{is_key, silenced}
use Rattle.byte_writer.specs.Messages.{bytes_of, readings}
use Rattle.byte_writer.specs.Receiver.{none, keys_on}
use Rattle.byte_writer.specs.Writer.{written_bytes, notes, voices, spare, writer_check, writer_meaning, Wrote, stop_messages, holder, strike_messages, Begins, Releases, Hushes, writer_deeds, WriterDoes, Agree, Told, WriterSound}
use Rattle.byte_writer.specs.declared.key.Key.{Key}
use Rattle.byte_writer.specs.declared.message.NoteMessage.TheVariants.{On, Off}
use Rattle.byte_writer.specs.declared.writer.ByteWriter.{ByteWriter}
use Rattle.byte_writer.specs.Agree.{still_sounds, quieter, silenced_long, begun_agree, ended_agree, hushed_agree}
use Rattle.byte_writer.specs.Holders.{holds_so, none_so}
use Rattle.byte_writer.specs.Wrote.{written_more, same_key}
use Rattle.byte_writer.specs.Received.{told_off, told_on}

-- ---- a ticket stops

stop_bytes : (x : Option Key) (v : ℕ) → length (bytes_of (stop_messages x v)) ≡ 3 * one (passes (λ y. true) x)
stop_bytes None v = refl
stop_bytes (Some y) v = refl

-- its Note-off is what was reserved for it
stop_spare : (s t : ByteWriter) (u v : ℕ) → Wrote (stop_messages (voice (voices s) u) v) s t → voices t ≡ slice_set (voices s) u None → spare t ≡ spare s
stop_spare s t u v w e =
    let fewer = with_stop (λ y. true) (voices s) u in
    let was = s.sounding.counted in
    let is : t.sounding.count ≡ tally (slice_set (voices s) u None) = t.sounding.counted ∙ ap tally e in
    let more = w.written in
    let room = w.room in
    let bytes = stop_bytes (voice (voices s) u) v in
    omega arith

stop_told : (bs : List ℕ) (xs : List (Option Key)) (u v : ℕ) (x : Option Key) → voice xs u ≡ x → v < 128 → Told bs xs → Told (bs ++ bytes_of (stop_messages x v)) (slice_set xs u None)
stop_told bs xs u v None e small told = subst (λ l. Told l (slice_set xs u None)) (sym (append-nil bs)) (subst (Told bs) (sym (set_none xs u e)) told)
stop_told bs xs u v (Some x) e small told = told_off bs xs told u x v e small

stopped : (s t : ByteWriter) (u v : ℕ) → v < 128 → Wrote (stop_messages (voice (voices s) u) v) s t → voices t ≡ slice_set (voices s) u None → Told (written_bytes s) (voices s) → Told (written_bytes t) (voices t)
stopped s t u v small w e told =
    subst (λ l. Told l (voices t)) (sym (written_more (stop_messages (voice (voices s) u) v) s t w)) (subst (Told (written_bytes s ++ bytes_of (stop_messages (voice (voices s) u) v))) (sym e) (stop_told (written_bytes s) (voices s) u v (voice (voices s) u) refl small told))

-- ---- a key is struck

module _ (bs : List ℕ) (xs : List (Option Key)) (told : Told bs xs) (c k v i : ℕ) (x : Key) (is_c : x.channel ≡ c) (is-k : x.number ≡ k) (lt : i < length xs) (silent : voice xs i ≡ None) (low : 1 ≤ v) (small : v < 128) where
  begun : (cs : List ℕ) (ys : List (Option Key)) → Told cs ys → length ys ≡ length xs → voice ys i ≡ None → sounding_with (is_key c k) ys ≡ 0 → Told (cs ++ bytes_of (On c k v ∷ [])) (slice_set ys i (Some x))
  begun cs ys held long off alone =
      subst (λ n. Told (cs ++ bytes_of (On c n v ∷ [])) (slice_set ys i (Some x))) is-k (subst (λ n. Told (cs ++ bytes_of (On n x.number v ∷ [])) (slice_set ys i (Some x))) is_c
      (told_on cs ys held i x v (omega arith) off (ap₂ (λ a b. sounding_with (is_key a b) ys) is_c is-k ∙ alone) low small))

  struck : (o : Option ℕ) → (o ≡ None → sounding_with (is_key c k) xs ≡ 0) → ((u : ℕ) → o ≡ Some u → (y : Key) × (voice xs u ≡ Some y) × (is_key c k y ≡ true)) → Told (bs ++ bytes_of (strike_messages o c k v)) (slice_set (silenced o xs) i (Some x))
  struck None gone some = begun bs xs told refl silent (gone refl)
  struck (Some u) gone some =
      let h = some u refl in
      let y = h.0 in
      let same = same_key c k y h.2 in
      let held : one (passes (is_key c k) (voice xs u)) ≡ 1 = ap (λ z. one (passes (is_key c k) z)) h.1 ∙ ap one h.2 in
      let fewer = with_stop (is_key c k) xs u in
      let keys = told.keys c k in
      let most = one_le (keys_on none (readings 0 told.messages) c k) in
      let alone : sounding_with (is_key c k) (slice_set xs u None) ≡ 0 = omega arith in
      let off : voice (slice_set xs u None) i ≡ None = at_set xs u i None (at_some xs u y h.1) ∙ both_none (u == i) ∙ silent in
      let after : Told (bs ++ bytes_of (Off c k 64 ∷ [])) (slice_set xs u None) = subst (λ n. Told (bs ++ bytes_of (Off c n 64 ∷ [])) (slice_set xs u None)) same.1 (subst (λ n. Told (bs ++ bytes_of (Off n y.number 64 ∷ [])) (slice_set xs u None)) same.0 (told_off bs xs told u y 64 h.1 (omega arith))) in
      subst (λ l. Told l (slice_set (slice_set xs u None) i (Some x))) (append_assoc bs (bytes_of (Off c k 64 ∷ [])) (bytes_of (On c k v ∷ []))) (begun (bs ++ bytes_of (Off c k 64 ∷ [])) (slice_set xs u None) after (length-set xs u None) off alone)
    where
      both_none : (b : Bool) → cond b None (voice xs i) ≡ voice xs i
      both_none true = sym silent
      both_none false = refl

-- ---- the calls

module _ (s : ByteWriter) (a : Answer Cause) (t : ByteWriter) (h : WriterSound s) where
  abbrev Holds : Call → Type 0
  Holds c = Means here writer_meaning s c a t × WriterSound t

  pub new_silent : (i : ℕ) → lists (notes s) i ≡ false → voice (voices s) i ≡ None
  new_silent i fresh = is_none (voice (voices s) i) (refuted (is_some (voice (voices s) i)) (lists (notes s) i) (h.order.within i) fresh)

  begins_law : (p c k v : ℕ) → startable c k v ≡ true → writer_check s ≡ Ok tt → Begins p c k v s a t → Holds (Start p c k v)
  begins_law p c k v e ok d =
      let n = new_note d.number c k v in
      let o = holder c k s in
      let zs = silenced o (voices s) in
      let long : length (voices s) ≡ 128 = s.sounding.long in
      let long' : length zs ≡ 128 = silenced_long (voices s) o ∙ long in
      let lt = d.small in
      let ranges = and_parts (nat_le 1 v) (nat_le v 127) (and_parts (nat_le k 127) (nat_le 1 v && nat_le v 127) (and_parts (nat_le c 15) (nat_le k 127 && (nat_le 1 v && nat_le v 127)) e).1).1 in
      let low : 1 ≤ v = leb-true 1 v ranges.0 in
      let high : v ≤ 127 = leb-true v 127 ranges.1 in (
        subst (λ x. Means here writer_meaning s (Start p c k v) x t) (sym d.answer) (e, end_began (notes s) (notes t) (voices s) (voices t) long (writer_check s) (writer_check t) zs n d.struck ok d.small d.fresh d.roll long' (quieter (voices s) o) d.voices),
        record {
          order = subst (λ ns. InOrder ns (voices t)) (sym d.roll) (begun_order (notes s) (voices s) zs (voices t) n d.struck h.order d.small d.fresh long' (quieter (voices s) o) d.voices);
          agree = subst (λ ns. Agree ns (voices t)) (sym d.roll) (subst (Agree (notes s ++ (n ∷ []))) (sym d.voices) (begun_agree (notes s) (voices s) zs n d.struck h.agree d.fresh (omega arith) (still_sounds (voices s) o) d.on_channel d.on_key));
          told = subst (λ l. Told l (voices t)) (sym (written_more (strike_messages o c k v) s t d.wrote)) (subst (Told (written_bytes s ++ bytes_of (strike_messages o c k v))) (sym d.voices) (struck (written_bytes s) (voices s) h.told c k v d.number d.struck d.on_channel d.on_key (omega arith) (new_silent d.number d.fresh) low (omega arith) o (none_so (is_key c k) (voices s)) (holds_so (is_key c k) (voices s))));
        },
      )

  releases_law : (p u v : ℕ) (n : Note) → nat_le v 127 ≡ true → found u (notes s) ≡ Some n → Releases p u v n s a t → Holds (Release p u v)
  releases_law p u v n e f d =
      let out = owed_note (notes s) u (Some n) f in
      let high : v ≤ 127 = leb-true v 127 e in
      let lt = h.order.small u out in
      let long = s.sounding.long in (
        subst (λ x. Means here writer_meaning s (Release p u v) x t) (sym d.answer) (e, end_ended (notes s) (notes t) (voices s) (voices t) s.sounding.long (nat_lt (spare s) 6) (nat_lt (spare t) 6) u h.order out d.roll d.voices (ap (λ x. ltb x 6) (stop_spare s t u v d.wrote d.voices))),
        record {
          order = subst (λ ns. InOrder ns (voices t)) (sym d.roll) (ended_order (notes s) (voices s) (voices t) u h.order (h.order.small u out) s.sounding.long d.voices);
          agree = subst (λ ns. Agree ns (voices t)) (sym d.roll) (subst (Agree (left_out (picked (Ticket u)) (notes s))) (sym d.voices) (ended_agree (notes s) (voices s) u h.agree (omega arith)));
          told = stopped s t u v (omega arith) d.wrote d.voices h.told;
        },
      )

  hushes_law : (p u : ℕ) (n : Note) → found u (notes s) ≡ Some n → Hushes p u n s a t → Holds (Hush p u)
  hushes_law p u n f d =
      let out = owed_note (notes s) u (Some n) f in
      let st = d.stops in
      let roll : notes t ≡ notes s = ap listed st.roll in
      let lt = h.order.small u out in
      let long = s.sounding.long in (
        subst (λ x. Means here writer_meaning s (Hush p u) x t) (sym d.answer) (end_hushed (notes s) (notes t) (voices s) (voices t) s.sounding.long (nat_lt (spare s) 6) (nat_lt (spare t) 6) u h.order out roll st.voices (ap (λ x. ltb x 6) (stop_spare s t u 64 st.wrote st.voices))),
        record {
          order = subst (λ ns. InOrder ns (voices t)) (sym roll) (hushed_order (notes s) (voices s) (voices t) u h.order (h.order.small u out) s.sounding.long st.voices);
          agree = subst (λ ns. Agree ns (voices t)) (sym roll) (subst (Agree (notes s)) (sym st.voices) (hushed_agree (notes s) (voices s) u h.agree (omega arith)));
          told = stopped s t u 64 (omega arith) st.wrote st.voices h.told;
        },
      )

  pub writer_law : (c : Call) → WriterDoes s c a t → Means here writer_meaning s c a t × WriterSound t
  writer_law c d = end_law writer_deeds voices WriterSound s a t h begins_law releases_law hushes_law c d

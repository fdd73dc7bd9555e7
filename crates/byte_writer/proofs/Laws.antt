-- The laws of the bytes and of their space.
use Rattle.std.proofs.Common.{◌≡◌, ℕ, zero, suc, ◌+◌, ◌*◌, ◌<◌, ◌≤◌, Bool, true, false, cond, ◌&&◌, eqb, ltb, leb, List, [], ◌∷◌, ◌++◌, length, take, set, is_some, Some, None, Ok, Err, vec_items, Option, Result, sym, refl, ap, ◌∙◌, subst, ap₂, append-nil, arith, length-append, length-take-le, le-ltb, lt-ltb, eqb-true, leb-true}
use borrow.Author.Tests.{lt-leb}
use Rattle.std.proofs.lemmas.Bool.{and_parts}
use Rattle.reader.specs.Rules.{message}
use Rattle.reader.specs.declared.states.State.TheVariants as st
use Rattle.sink.specs.Calls.{Call, Start, Release, Hush, Tell, Set, Clear, Answer, startable, tellable}
use Rattle.sink.specs.Layered.{Refused}
use Rattle.sink.specs.declared.fault.Cause.{Cause}
use Rattle.sink.specs.declared.fault.Cause.TheVariants.{OutOfRange, TellOutOfRange}
use Rattle.sink.proofs.Bools.{clash}
use Rattle.roll.specs.Notes.{found, full}
use Rattle.roll.specs.Voices.{one, voice, passes, sounding_with, tally}
use Rattle.roll.specs.declared.note.Note.{Note}
use Rattle.roll.proofs.Tallies.{one_le, at_set, with_one, with_some, with_stop, with_set, with_none}
use Rattle.ends.specs.Ending.{new_note, check_of, IfReady, IfOwed, Same}
use Rattle.ends.proofs.Buffers.{within}
use Rattle.ends.proofs.Tickets.{new_order}
use Rattle.byte_writer.specs.Keys.{is_key, silenced}
use Rattle.byte_writer.specs.Laws.{Sounds, Heard, MessagesReadBack, says, CallsReadBack, New, SinceNew, made, called, ReadBack, AllReadBack, Takes, SixBytesAStart, FirstStarts}
use Rattle.byte_writer.specs.Messages.{message_bytes, bytes_of, as_read, readings, AllRanged}
use Rattle.byte_writer.specs.Receiver.{none, keys_on, received}
use Rattle.byte_writer.specs.Writer.{written_bytes, notes, voices, spare, writer_check, stop_messages, holder, strike_messages, Begins, Releases, Hushes, WriterDoes, Told, WriterSound}
use Rattle.byte_writer.specs.declared.key.Key.{Key}
use Rattle.byte_writer.specs.declared.message.NoteMessage.{NoteMessage}
use Rattle.byte_writer.specs.declared.message.NoteMessage.TheVariants.{On, Off}
use Rattle.byte_writer.specs.declared.writer.ByteWriter.{ByteWriter}
use Rattle.byte_writer.specs.Holders.{holds_so}
use Rattle.byte_writer.specs.Agree.{quieter, silenced_long, none_agree}
use Rattle.byte_writer.specs.Law.{writer_law, new_silent}
use Rattle.byte_writer.specs.Reading.{reads_back}
use Rattle.byte_writer.specs.Received.{told_keys, told_received, told_none, is_on_lem, itself}
use Rattle.byte_writer.specs.Wrote.{bytes_of_append, written_more, same_key}

-- ---- a new writer

pub new_sound : (s : ByteWriter) → New s → WriterSound s
new_sound s n = record {
  order = new_order (notes s) (voices s) n.notes n.silent;
  agree = none_agree (notes s) (voices s) n.silent;
  told = subst (λ l. Told l (voices s)) (sym (ap (λ w. take w (vec_items s.bytes.items)) n.written)) (subst (Told []) (sym n.silent) (told_none 128));
}

-- ---- the receiver

two_sound : (p : Key → Bool) (xs : List (Option Key)) (u w : ℕ) → eqb u w ≡ false → passes p (voice xs u) ≡ true → passes p (voice xs w) ≡ true → u < length xs → 2 ≤ sounding_with p xs
two_sound p xs u w ne e f lt =
    let fewer = with_stop p xs u in
    let first = ap one e in
    let other : voice (set xs u None) w ≡ voice xs w = at_set xs u w None lt ∙ ap (λ b. cond b None (voice xs w)) ne in
    let second = ap (λ x. one (passes p x)) other ∙ ap one f in
    let least = with_one p (set xs u None) w in
    omega arith

module _ (s : ByteWriter) (h : WriterSound s) where
  abbrev on : (c k : ℕ) → Bool
  on c k = keys_on none (received (written_bytes s)) c k

  abbrev counts : (c k : ℕ) → one (on c k) ≡ sounding_with (is_key c k) (voices s)
  counts c k = told_keys (written_bytes s) (voices s) h.told c k

  -- the key of a ticket that sounds
  key_of : (u : ℕ) (n : Note) (o : Option Key) → voice (voices s) u ≡ o → found u (notes s) ≡ Some n → is_some o ≡ true → passes (is_key n.channel n.key) (voice (voices s) u) ≡ true
  key_of u n None e f i = clash false i refl
  key_of u n (Some x) e f i =
      let k = h.agree u x e in
      let same : n ≡ k.0 = cc k.1 in
      ap (passes (is_key n.channel n.key)) e ∙ ap₂ (λ a b. is_key a b x) (ap (λ (m : Note). m.channel) same ∙ k.2) (ap (λ (m : Note). m.key) same ∙ k.3) ∙ itself x

  sounds_so : (u : ℕ) (n : Note) → Sounds s u n → passes (is_key n.channel n.key) (voice (voices s) u) ≡ true
  sounds_so u n e = key_of u n (voice (voices s) u) refl e.0 e.1

  apart : (u w : ℕ) (n m : Note) → Sounds s u n → Sounds s w m → n.channel ≡ m.channel → n.key ≡ m.key → (b : Bool) → eqb u w ≡ b → u ≡ w
  apart u w n m e f is_c is-k true q = eqb-true u w q
  apart u w n m e f is_c is-k false q =
      let p = is_key n.channel n.key in
      let second : passes p (voice (voices s) w) ≡ true = ap₂ (λ a b. passes (is_key a b) (voice (voices s) w)) is_c is-k ∙ sounds_so w m f in
      let lt = h.order.small u (h.order.within u e.1) in
      let long = s.sounding.long in
      let two = two_sound p (voices s) u w q (sounds_so u n e) second (omega arith) in
      let count = counts n.channel n.key in
      let most = one_le (on n.channel n.key) in
      absurd (omega arith)

  pub heard : Heard s
  heard = record {
    sounding = λ u n e. is_on_lem (on n.channel n.key) (
        let one_key = ap one (sounds_so u n e) in
        let least = with_one (is_key n.channel n.key) (voices s) u in
        let count = counts n.channel n.key in
        omega arith);
    on = λ c k e.
        let count = counts c k in
        let is_one = ap one e in
        let w = with_some (is_key c k) (voices s) (omega arith) in
        let same = same_key c k w.1 w.3 in
        let n = h.agree w.0 w.1 w.2 in
        (w.0, n.0, (n.1, ap is_some w.2), n.2 ∙ same.0, n.3 ∙ same.1);
    once = λ u w n m e f is_c is-k. apart u w n m e f is_c is-k (eqb u w) refl;
  }

-- ---- reading back

pub messages_read_back : MessagesReadBack
messages_read_back ms r = reads_back st.Idle tt 0 ms r

message_length : (x : NoteMessage) → length (message_bytes x) ≡ 3
message_length (On c k v) = refl
message_length (Off c k v) = refl

readings_append : (p : ℕ) (xs ys : List NoteMessage) → readings p (xs ++ ys) ≡ readings p xs ++ readings (p + length (bytes_of xs)) ys
readings_append p [] ys = ap (λ q. readings q ys) (omega arith)
readings_append p (x ∷ xs) ys =
    let e = message_length x in
    let q : (p + 3) + length (bytes_of xs) ≡ p + length (message_bytes x ++ bytes_of xs) = simp length-append (omega arith) in
    ap (λ rs. message (p + 2) (as_read x) ∷ rs) (readings_append (p + 3) xs ys ∙ ap (λ n. readings (p + 3) xs ++ readings n ys) q)

ranged_append : (xs ys : List NoteMessage) → AllRanged xs → AllRanged ys → AllRanged (xs ++ ys)
ranged_append [] ys r q = q
ranged_append (x ∷ xs) ys r q = (r.0, ranged_append xs ys r.1 q)

stop_ranged : (x : Option Key) (v : ℕ) → v < 128 → AllRanged (stop_messages x v)
stop_ranged None v small = tt
stop_ranged (Some y) v small = ((y.channels, y.numbers, small), tt)

strike_ranged : (o : Option ℕ) (c k v : ℕ) → startable c k v ≡ true → AllRanged (strike_messages o c k v)
strike_ranged o c k v e =
    let first = and_parts (leb c 15) (leb k 127 && (leb 1 v && leb v 127)) e in
    let second = and_parts (leb k 127) (leb 1 v && leb v 127) first.1 in
    let third = and_parts (leb 1 v) (leb v 127) second.1 in
    both o (leb-true c 15 first.0) (leb-true k 127 second.0) (leb-true 1 v third.0) (leb-true v 127 third.1)
  where
    both : (o : Option ℕ) → c ≤ 15 → k ≤ 127 → 1 ≤ v → v ≤ 127 → AllRanged (strike_messages o c k v)
    both None a b l h = ((omega arith, omega arith, l, omega arith), tt)
    both (Some u) a b l h = ((omega arith, omega arith, omega arith), ((omega arith, omega arith, l, omega arith), tt))

-- a call writes what it says, in range
module _ (s : ByteWriter) (a : Answer Cause) (t : ByteWriter) where
  abbrev Says : Call → Answer Cause → Type 0
  Says c b = (written_bytes t ≡ written_bytes s ++ bytes_of (says s c b)) × AllRanged (says s c b)

  nothing : t ≡ s → written_bytes t ≡ written_bytes s ++ []
  nothing e = ap written_bytes e ∙ sym (append-nil (written_bytes s))

  refuses : (c : Call) (f : Cause) → Refused f s a t → Says c a
  refuses c f r = subst (Says c) (sym r.answer) (nothing r.same, tt)

  start_says : (p c k v : ℕ) (x : Bool) (r : Result (Unit {0}) Cause) → startable c k v ≡ x → cond x (IfReady r (Begins p c k v) s a t) (Refused OutOfRange s a t) → Says (Start p c k v) a
  start_says p c k v true (Ok tt) e d = subst (Says (Start p c k v)) (sym d.answer) (written_more (strike_messages (holder c k s) c k v) s t d.wrote, strike_ranged (holder c k s) c k v e)
  start_says p c k v true (Err f) e d = refuses (Start p c k v) f d
  start_says p c k v false r e d = refuses (Start p c k v) OutOfRange d

  release_says : (p u v : ℕ) (x : Bool) (o : Option Note) → leb v 127 ≡ x → cond x (IfOwed o (Releases p u v) s a t) (Refused OutOfRange s a t) → Says (Release p u v) a
  release_says p u v true (Some n) e d = let h = leb-true v 127 e in subst (Says (Release p u v)) (sym d.answer) (written_more (stop_messages (voice (voices s) u) v) s t d.wrote, stop_ranged (voice (voices s) u) v (omega arith))
  release_says p u v true None e d = refuses (Release p u v) _ d
  release_says p u v false o e d = refuses (Release p u v) OutOfRange d

  hush_says : (p u : ℕ) (o : Option Note) → IfOwed o (Hushes p u) s a t → Says (Hush p u) a
  hush_says p u (Some n) d = subst (Says (Hush p u)) (sym d.answer) (written_more (stop_messages (voice (voices s) u) 64) s t d.stops.wrote, stop_ranged (voice (voices s) u) 64 (omega arith))
  hush_says p u None d = refuses (Hush p u) _ d

  tell_says : (p c n v : ℕ) (x : Bool) → cond x (Same s a t) (Refused TellOutOfRange s a t) → Says (Tell p c n v) a
  tell_says p c n v true d = subst (Says (Tell p c n v)) (sym d.answer) (nothing d.same, tt)
  tell_says p c n v false d = refuses (Tell p c n v) TellOutOfRange d

  call_says : (c : Call) → WriterDoes s c a t → Says c a
  call_says (Start p c k v) d = start_says p c k v (startable c k v) (writer_check s) refl d
  call_says (Release p u v) d = release_says p u v (leb v 127) (found u (notes s)) refl d
  call_says (Hush p u) d = hush_says p u (found u (notes s)) d
  call_says (Tell p c n v) d = tell_says p c n v (tellable c n v) d
  call_says (Set p e i v) d = refuses (Set p e i v) _ d
  call_says (Clear p) d = subst (Says (Clear p)) (sym d.answer) (nothing d.same, tt)

written_length : (s : ByteWriter) (ms : List NoteMessage) → written_bytes s ≡ bytes_of ms → length (bytes_of ms) ≡ s.bytes.written
written_length s ms e = ap length (sym e) ∙ length-take-le s.bytes.written (vec_items s.bytes.items) (within s.bytes)

pub calls_read_back : CallsReadBack
calls_read_back s c a t h d =
    let ms = h.told.messages in
    let ns = says s c a in
    let w = call_says s a t c d in
    ap received (w.0 ∙ ap (λ l. l ++ bytes_of ns) h.told.bytes ∙ sym (bytes_of_append ms ns))
    ∙ reads_back st.Idle tt 0 (ms ++ ns) (ranged_append ms ns h.told.ranged w.1)
    ∙ readings_append 0 ms ns
    ∙ ap₂ (λ rs n. rs ++ readings n ns) (sym (reads_back st.Idle tt 0 ms h.told.ranged) ∙ ap received (sym h.told.bytes)) (let q = written_length s ms h.told.bytes in omega arith)

pub sound_read_back : (s : ByteWriter) → WriterSound s → (ms : List NoteMessage) × ReadBack s ms
sound_read_back s h = (h.told.messages, record { ranged = h.told.ranged; bytes = h.told.bytes; read = told_received (written_bytes s) (voices s) h.told })

reads_all : {s : ByteWriter} {ms : List NoteMessage} → SinceNew s ms → ReadBack s ms
reads_all (made {s} n) = record { ranged = tt; bytes = ap (λ w. take w (vec_items s.bytes.items)) n.written; read = ap (λ w. received (take w (vec_items s.bytes.items))) n.written }
reads_all (called {s} {t} {ms} c a before d) =
    let r = reads_all before in
    let w = call_says s a t c d in
    let ranged = ranged_append ms (says s c a) r.ranged w.1 in
    let bytes = w.0 ∙ ap (λ l. l ++ bytes_of (says s c a)) r.bytes ∙ sym (bytes_of_append ms (says s c a)) in
    record { ranged = ranged; bytes = bytes; read = ap received bytes ∙ reads_back st.Idle tt 0 (ms ++ says s c a) ranged }

pub all_read_back : AllReadBack
all_read_back s ms since = reads_all since

-- ---- space

-- what is written and what is set aside for a start, by whether its key sounded
strike_tally : (xs : List (Option Key)) (c k v : ℕ) (o : Option ℕ) → ((u : ℕ) → o ≡ Some u → (y : Key) × (voice xs u ≡ Some y) × (is_key c k y ≡ true)) → length (bytes_of (strike_messages o c k v)) + 3 * tally (silenced o xs) ≡ 3 * tally xs + 3
strike_tally xs c k v None some = omega arith
strike_tally xs c k v (Some u) some =
    let w = some u refl in
    let fewer = with_stop (λ y. true) xs u in
    let was : one (passes (λ y. true) (voice xs u)) ≡ 1 = ap (λ x. one (passes (λ y. true) x)) w.1 in
    omega arith

silenced_none : (xs : List (Option Key)) (o : Option ℕ) (i : ℕ) → voice xs i ≡ None → (x : Option Key) → voice (silenced o xs) i ≡ x → x ≡ None
silenced_none xs o i e None f = refl
silenced_none xs o i e (Some x) f = clash (is_some (voice xs i)) (quieter xs o i (ap is_some f)) (ap is_some e)

-- a start takes six bytes of those to spare
start_spare : (s : ByteWriter) (a : Answer Cause) (t : ByteWriter) (p c k v : ℕ) → WriterSound s → Begins p c k v s a t → 6 ≤ spare s → spare t + 6 ≡ spare s
start_spare s a t p c k v h d enough =
    let xs = voices s in
    let o = holder c k s in
    let i = d.number in
    let lt = d.small in
    let long = s.sounding.long in
    let long' = silenced_long xs o in
    let silent : voice (silenced o xs) i ≡ None = silenced_none xs o i (new_silent s a t h i d.fresh) (voice (silenced o xs) i) refl in
    let none-was : one (passes (λ y. true) (voice (silenced o xs) i)) ≡ 0 = ap (λ x. one (passes (λ y. true) x)) silent in
    let more = with_set (λ y. true) (silenced o xs) i (Some d.struck) (omega arith) in
    let struck = strike_tally xs c k v o (holds_so (is_key c k) xs) in
    let was = s.sounding.counted in
    let is : t.sounding.count ≡ tally (set (silenced o xs) i (Some d.struck)) = t.sounding.counted ∙ ap tally d.voices in
    let written = d.wrote.written in
    let room = d.wrote.room in
    let fits = t.reserved in
    omega arith

check_says : (ns : List Note) (n : ℕ) (x : Bool) → length ns < 128 → ltb n 6 ≡ x → check_of (full ns) (ltb n 6) ≡ check_of false x
check_says ns n x few e = ap₂ check_of (lt-leb 128 (length ns) few) e

taken : (s : ByteWriter) (a : Answer Cause) (t : ByteWriter) (p c k v : ℕ) → startable c k v ≡ true → writer_check s ≡ Ok tt → WriterDoes s (Start p c k v) a t → Begins p c k v s a t
taken s a t p c k v e ok d = subst (λ r. IfReady r (Begins p c k v) s a t) ok (subst (λ x. cond x (IfReady (writer_check s) (Begins p c k v) s a t) (Refused OutOfRange s a t)) e d)

takes : (n : ℕ) (s : ByteWriter) → WriterSound s → length (notes s) + n < 128 → 6 * n ≤ spare s → spare s < 6 * n + 6 → Takes n s
takes zero s h few low high = check_says (notes s) (spare s) true (omega arith) (lt-ltb (spare s) 6 (omega arith))
takes (suc n) s h few low high =
    let ok : writer_check s ≡ Ok tt = check_says (notes s) (spare s) false (omega arith) (le-ltb (spare s) 6 (omega arith)) in (
      ok,
      λ p c k v a t e d.
          let b = taken s a t p c k v e ok d in
          let left = start_spare s a t p c k v h b (omega arith) in
          let grown : length (notes t) ≡ length (notes s) + 1 = ap length b.roll ∙ length-append (notes s) (new_note b.number c k v ∷ []) in
          ((b.number, b.answer), takes n t (writer_law s a t h (Start p c k v) d).1 (omega arith) (omega arith) (omega arith)),
    )

pub six_bytes_a_start : SixBytesAStart
six_bytes_a_start n s new small low high =
    let none_out : length (notes s) ≡ 0 = ap length new.notes in
    let start = new.written in
    let silent : s.sounding.count ≡ 0 = s.sounding.counted ∙ ap tally new.silent ∙ with_none (λ y. true) 128 in
    takes n s (new_sound s new) (omega arith) (omega arith) (omega arith)

pub first_starts : FirstStarts
first_starts s new = (
  λ e. six_bytes_a_start 0 s new (omega arith) (omega arith) (omega arith),
  λ e. six_bytes_a_start 1 s new (omega arith) (omega arith) (omega arith),
  λ e. six_bytes_a_start 1 s new (omega arith) (omega arith) (omega arith),
  λ e. six_bytes_a_start 2 s new (omega arith) (omega arith) (omega arith),
)

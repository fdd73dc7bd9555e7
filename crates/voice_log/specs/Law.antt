-- A voice log has the meaning of a sink, and its lines tell of what sounds.
use Rattle.std.specs.Prelude.{◌≡◌, ℕ, true, false, [], ◌∷◌, ◌++◌, length, is_some, Some, None, Ok, Option, nat_le, nat_lt, slice_set, refl}
use Rattle.std.proofs.Common.{sym, ap, subst, ◌∙◌, arith, ltb}
use Rattle.sink.specs.Faults.{here}
use Rattle.sink.specs.Calls.{Call, Start, Release, Hush, Answer, startable}
use Rattle.sink.specs.Meaning.{Means}
use Rattle.sink.specs.declared.fault.Cause.{Cause}
use Rattle.sink.proofs.Bools.{refuted}
use Rattle.roll.specs.Notes.{found, lists}
use Rattle.roll.specs.Rolls.{listed}
use Rattle.roll.specs.Voices.{one, passes, tally}
use Rattle.roll.specs.declared.note.Note.{Note}
use Rattle.roll.proofs.Tallies.{with_stop, set_none}
use Rattle.ends.specs.Ending.{new_note, InOrder}
use Rattle.ends.specs.Buffers.{front}
use Rattle.ends.proofs.Buffers.{pushed_front}
use Rattle.ends.proofs.Tickets.{is_none, owed_note, begun_order, hushed_order, ended_order}
use Rattle.ends.proofs.Law.{end_began, end_ended, end_hushed, end_law}
use Rattle.voice_log.specs.Lines.{is_begun, begun_count}
use Rattle.voice_log.specs.Serials.{Told}
use Rattle.voice_log.specs.Log.{written_lines, notes, serials, serial_of, spare, log_check, log_meaning, stop_line, StopLine, begun_line, Begins, Ends, Hushes, log_deeds, LogDoes, LogSound}
use Rattle.voice_log.specs.declared.line.Kind.{Kind}
use Rattle.voice_log.specs.declared.line.Kind.TheVariants.{Ended, Hushed}
use Rattle.voice_log.specs.declared.log.VoiceLog.{VoiceLog}
use Rattle.voice_log.specs.Written.{told_begun, told_stopped}

-- A ticket is stopped.
module _ (s t : VoiceLog) (u place : ℕ) (kind : Kind) (note : Note) (velocity : ℕ) (stopped : serials t ≡ slice_set (serials s) u None) where
  -- its line is what was reserved for it
  stop_spare : (o : Option ℕ) → serial_of s u ≡ o → StopLine o place kind note velocity s t → spare t ≡ spare s
  stop_spare None e l =
      let was = s.sounding.counted in
      let is : t.sounding.count ≡ tally (serials s) = t.sounding.counted ∙ ap tally (stopped ∙ set_none (serials s) u e) in
      let w = ap (λ b. b.written) l in
      let r = ap (λ b. b.room) l in
      omega arith
  stop_spare (Some n) e l =
      let fewer = with_stop (λ v. true) (serials s) u in
      let sounded : one (passes (λ v. true) (serial_of s u)) ≡ 1 = ap (λ x. one (passes (λ v. true) x)) e in
      let was = s.sounding.counted in
      let is : t.sounding.count ≡ tally (slice_set (serials s) u None) = t.sounding.counted ∙ ap tally stopped in
      let w = l.written in
      let r = l.room in
      omega arith

  stop_told : (o : Option ℕ) → serial_of s u ≡ o → is_begun kind ≡ false → StopLine o place kind note velocity s t → Told (written_lines s) (serials s) → Told (written_lines t) (serials t)
  stop_told None e k l told = subst (λ ls. Told ls (serials t)) (sym (ap front l)) (subst (Told (written_lines s)) (sym (stopped ∙ set_none (serials s) u e)) told)
  stop_told (Some n) e k l told =
      let line = stop_line n place kind note velocity in
      subst (λ ls. Told ls (serials t)) (sym (pushed_front line s.lines t.lines l)) (subst (Told (written_lines s ++ (line ∷ []))) (sym stopped) (told_stopped (written_lines s) line (serials s) told u n k refl e))

module _ (s : VoiceLog) (a : Answer Cause) (t : VoiceLog) (h : LogSound s) where
  abbrev Holds : Call → Type 0
  Holds c = Means here log_meaning s c a t × LogSound t

  begins_sound : (p c k v : ℕ) → Begins p c k v s a t → LogSound t
  begins_sound p c k v d =
      let i = d.number in
      let n = new_note i c k v in
      let xs = serials s in
      let serial = begun_count (written_lines s) in
      let long : length xs ≡ 128 = s.sounding.long in
      let lt = d.small in
      let silent : serial_of s i ≡ None = is_none (serial_of s i) (refuted (is_some (serial_of s i)) (lists (notes s) i) (h.order.within i) d.fresh) in
      let line = begun_line p c k v s in
      record {
        order = subst (λ ns. InOrder ns (serials t)) (sym d.roll) (begun_order (notes s) xs xs (serials t) n serial h.order d.small d.fresh long (λ u f. f) d.serials);
        told = subst (λ ls. Told ls (serials t)) (sym (pushed_front line s.lines t.lines d.line)) (subst (Told (written_lines s ++ (line ∷ []))) (sym d.serials) (told_begun (written_lines s) line xs h.told i refl refl (omega arith) silent));
      }

  begins_law : (p c k v : ℕ) → startable c k v ≡ true → log_check s ≡ Ok tt → Begins p c k v s a t → Holds (Start p c k v)
  begins_law p c k v e ok d =
      let n = new_note d.number c k v in
      let xs = serials s in
      let serial = begun_count (written_lines s) in
      let long : length xs ≡ 128 = s.sounding.long in (
        subst (λ x. Means here log_meaning s (Start p c k v) x t) (sym d.answer) (e, end_began (notes s) (notes t) xs (serials t) long (log_check s) (log_check t) xs n serial ok d.small d.fresh d.roll long (λ u f. f) d.serials),
        begins_sound p c k v d,
      )

  ends_sound : (p u v : ℕ) (n : Note) → found u (notes s) ≡ Some n → Ends p u v n s a t → LogSound t
  ends_sound p u v n f d =
      let out = owed_note (notes s) u (Some n) f in
      record {
        order = subst (λ ns. InOrder ns (serials t)) (sym d.roll) (ended_order (notes s) (serials s) (serials t) u h.order (h.order.small u out) s.sounding.long d.serials);
        told = stop_told s t u p Ended n v d.serials (serial_of s u) refl refl d.line h.told;
      }

  ends_law : (p u v : ℕ) (n : Note) → nat_le v 127 ≡ true → found u (notes s) ≡ Some n → Ends p u v n s a t → Holds (Release p u v)
  ends_law p u v n e f d =
      let out = owed_note (notes s) u (Some n) f in (
        subst (λ x. Means here log_meaning s (Release p u v) x t) (sym d.answer) (e, end_ended (notes s) (notes t) (serials s) (serials t) s.sounding.long (nat_lt (spare s) 2) (nat_lt (spare t) 2) u h.order out d.roll d.serials (ap (λ x. ltb x 2) (stop_spare s t u p Ended n v d.serials (serial_of s u) refl d.line))),
        ends_sound p u v n f d,
      )

  hushes_law : (p u : ℕ) (n : Note) → found u (notes s) ≡ Some n → Hushes p u n s a t → Holds (Hush p u)
  hushes_law p u n f d =
      let out = owed_note (notes s) u (Some n) f in
      let st = d.stops in
      let roll : notes t ≡ notes s = ap listed st.roll in (
        subst (λ x. Means here log_meaning s (Hush p u) x t) (sym d.answer) (end_hushed (notes s) (notes t) (serials s) (serials t) s.sounding.long (nat_lt (spare s) 2) (nat_lt (spare t) 2) u h.order out roll st.serials (ap (λ x. ltb x 2) (stop_spare s t u p Hushed n 0 st.serials (serial_of s u) refl st.line))),
        record {
          order = subst (λ ns. InOrder ns (serials t)) (sym roll) (hushed_order (notes s) (serials s) (serials t) u h.order (h.order.small u out) s.sounding.long st.serials);
          told = stop_told s t u p Hushed n 0 st.serials (serial_of s u) refl refl st.line h.told;
        },
      )

  pub log_law : (c : Call) → LogDoes s c a t → Means here log_meaning s c a t × LogSound t
  log_law c d = end_law log_deeds serials LogSound s a t h begins_law ends_law hushes_law c d

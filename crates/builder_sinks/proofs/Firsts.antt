-- The first start of a log.
use Rattle.std.proofs.Common.{◌≡◌, ℕ, zero, suc, ◌-◌, ◌<◌, ◌≤◌, Bool, true, false, ltb, [], ◌∷◌, ◌++◌, replicate, Some, None, Ok, Err, Result, refl, ap, ◌∙◌, subst, ap₂, ⊎_elim, arith, le-ltb, lt-ltb}
use Rattle.std.proofs.lemmas.Int.{ints}
use Rattle.std.proofs.lemmas.Bool.{cases_lt}
use Rattle.sink.specs.Faults.{Denial, here, number_of}
use Rattle.sink.specs.Calls.{Start, ticket, denied, started}
use Rattle.sink.specs.Meaning.{is_ready, whether}
use Rattle.sink.specs.declared.fault.Cause.{Cause}
use Rattle.sink.specs.declared.fault.Cause.TheVariants.{OutOfRange, AllOut, NoSpace, NotOwed, TellOutOfRange, NoLayer, NoSuchItem, ValueOutOfRange}
use Rattle.sink.proofs.Bools.{clash}
use Rattle.sink.proofs.Handed.{not_ready}
use Rattle.roll.specs.Notes.{lists, full}
use Rattle.transposer.specs.Shift.{a_key, an_octave_off, an_octave_on}
use Rattle.roll.specs.Voices.{one, voice, passes, tally}
use Rattle.roll.proofs.Tallies.{with_none, with_set, none_there}
use Rattle.ends.specs.Ending.{check_of, new_note, IfReady}
use Rattle.voice_log.specs.Lines.{begun_count}
use Rattle.voice_log.specs.Log.{notes, serials, serial_of, spare, written_lines, log_check, LogDoes, Begins}
use Rattle.voice_log.specs.declared.log.VoiceLog.{VoiceLog}
use Rattle.builder_sinks.specs.Examples.{Folding}

pub folding : Folding
folding = (an_octave_off (omega (arith, ints)) (a_key (omega arith)), an_octave_on (omega (arith, ints)) (a_key (omega arith)), an_octave_off (omega (arith, ints)) (an_octave_off (omega (arith, ints)) (a_key (omega arith))))

-- a log that has notes for fewer than 128 tickets is ready as its room says
check_is : (s : VoiceLog) → full (notes s) ≡ false → (b : Bool) → ltb (spare s) 2 ≡ b → log_check s ≡ check_of false b
check_is s f b e = ap₂ check_of f e

was_denied : (r : Result ℕ Cause) (c : Cause) → started r ≡ denied c → r ≡ Err c
was_denied (Ok t) c e = cc
was_denied (Err d) c e = cc

was_taken : (r : Result ℕ Cause) (t : ℕ) → started r ≡ ticket t → r ≡ Ok t
was_taken (Ok u) t e = cc
was_taken (Err d) t e = cc

module _ (s : VoiceLog) (empty : notes s ≡ []) (blank : s.lines.written ≡ 0) (silent : serials s ≡ replicate 128 None) where
  no_voice : s.sounding.count ≡ 0
  no_voice = s.sounding.counted ∙ ap tally silent ∙ with_none (λ v. true) 128

  room_all : spare s ≡ s.lines.room
  room_all = let z = no_voice in omega arith

  not_full : full (notes s) ≡ false
  not_full = ap full empty

  pub check_short : s.lines.room < 2 → log_check s ≡ Err NoSpace
  check_short h = check_is s not_full true (lt-ltb _ 2 (let e = room_all in omega arith))

  pub check_enough : 2 ≤ s.lines.room → log_check s ≡ Ok tt
  check_enough h = check_is s not_full false (le-ltb _ 2 (let e = room_all in omega arith))

  module _ (r : Result ℕ Cause) (t : VoiceLog) (d : LogDoes s (Start 0 0 60 100) (started r) t) where
    answered : (x : Result (Unit {0}) Cause) → log_check s ≡ x → IfReady x (Begins 0 0 60 100) s (started r) t
    answered x e = subst (λ y. IfReady y (Begins 0 0 60 100) s (started r) t) e d

    taken : 2 ≤ s.lines.room → Begins 0 0 60 100 s (started r) t
    taken h = answered (Ok tt) (check_enough h)

    pub first_short : s.lines.room < 2 → (r ≡ Err NoSpace) × (t ≡ s)
    first_short h = let q = answered (Err NoSpace) (check_short h) in (was_denied r NoSpace q.answer, q.same)

    least_zero : (n : ℕ) → ((u : ℕ) → u < n → lists (notes s) u ≡ true) → n ≡ 0
    unfolding lists
    least_zero zero f = refl
    least_zero (suc n) f = clash (lists (notes s) 0) (f 0 (omega arith)) (ap (λ ns. lists ns 0) empty)

    pub first_enough : 2 ≤ s.lines.room → r ≡ Ok 0
    first_enough h = let b = taken h in was_taken r b.number b.answer ∙ ap Ok (least_zero b.number b.least)

    one_voice : 2 ≤ s.lines.room → t.sounding.count ≡ 1
    one_voice h =
        let b = taken h in
        let long = s.sounding.long in
        let q = with_set (λ v. true) (serials s) b.number (Some (begun_count (written_lines s))) (let lt = b.small in omega arith) in
        let n : one (passes (λ v. true) (serial_of s b.number)) ≡ 0 = ap (λ xs. one (passes (λ v. true) (voice xs b.number))) silent ∙ ap (λ o. one (passes (λ v. true) o)) (none_there 128 b.number) in
        let was = s.sounding.counted in
        let none_yet = no_voice in
        let is : t.sounding.count ≡ tally _ = t.sounding.counted ∙ ap tally b.serials in
        omega arith

    one_note : 2 ≤ s.lines.room → full (notes t) ≡ false
    one_note h = let b = taken h in ap full b.roll ∙ ap (λ ns. full (ns ++ (new_note b.number 0 60 100 ∷ []))) empty

    left : 2 ≤ s.lines.room → spare t ≡ s.lines.room - 2
    left h =
        let b = taken h in
        let w = b.line.written in
        let v = one_voice h in
        let m = b.line.room in
        omega arith

    pub second_short : s.lines.room < 4 → log_check t ≡ Err NoSpace
    second_short g = ⊎_elim (λ h. ap log_check (first_short h).1 ∙ check_short h) (λ h. check_is t (one_note h) true (lt-ltb _ 2 (let e = left h in omega arith))) (cases_lt s.lines.room 2)

    pub second_enough : 4 ≤ s.lines.room → log_check t ≡ Ok tt
    second_enough g = let h : 2 ≤ s.lines.room = omega arith in check_is t (one_note h) false (le-ltb _ 2 (let e = left h in omega arith))

numbered : (c : Cause) → number_of c ≡ number_of NoSpace → c ≡ NoSpace
numbered OutOfRange e = absurd (omega arith)
numbered AllOut e = absurd (omega arith)
numbered NoSpace e = refl
numbered NotOwed e = absurd (omega arith)
numbered TellOutOfRange e = absurd (omega arith)
numbered NoLayer e = absurd (omega arith)
numbered NoSuchItem e = absurd (omega arith)
numbered ValueOutOfRange e = absurd (omega arith)

-- readiness tells the cause
pub says : (r : Result (Unit {0}) Cause) → whether here r ≡ whether here (Err NoSpace) → r ≡ Err NoSpace
says (Ok x) e = cc
says (Err c) e =
    let same : here c ≡ here NoSpace = cc in
    ap Err (numbered c (ap (λ (d : Denial). d.number) same))

pub says_ready : (r : Result (Unit {0}) Cause) → whether here r ≡ is_ready → r ≡ Ok tt
says_ready (Ok tt) e = refl
says_ready (Err c) e = absurd (not_ready (here c) e)

-- Opened, fed once and closed is a past and its close.
use Rattle.std.proofs.Common.{◌≡◌, ℕ, ◌+◌, List, [], length, Ok, Err, Result, sym, ap, ◌∙◌, subst, arith}
use Rattle.sink.specs.declared.fault.refusal.Refusal
use Rattle.sink.specs.declared.sink.Sink
use Rattle.sink.specs.Ends.{Each, clean}
use Rattle.sink.specs.Meaning.{Idle}
use Rattle.run.specs.declared.counts.Tally.{Tally}
use Rattle.run.specs.declared.counts.TooManyBytes.{TooManyBytes}
use Rattle.run.specs.declared.runs.Run.{Run}
use Rattle.run.specs.Steps.{Event}
use Rattle.run.specs.Past.{Opened, Feeds, Past, opened, fed, fed_denied, PastCloses}
use Rattle.playing.specs.Plays.{Fed, Left, bytes_read}

module _ {S F : Type 0} {gs : Sink.Ghosts S F} {gf : Refusal.Ghosts F} where
  left_by : (r : Run S F gs gf) (bytes : List ℕ) (es : List (Event F)) (tally : Tally F) (left : S) → Past r bytes es → r.count ≡ length bytes → PastCloses r tally left → Left gs bytes tally left
  left_by r bytes es tally left past count closes =
      let end = closes bytes es past in
      let answered = end.2.answered in
      let agree = end.3.stands.agree in
      record {
        told = record {
          count = ap (λ t. t.count) answered ∙ count;
          note_ons = ap (λ t. t.note_ons) answered ∙ agree.note_ons;
          starts = subst (λ t. t.note_ons ≡ t.taken + t.denied) (sym answered) agree.starts;
          even = end.3.rests.even;
        };
        sound_left = end.3.rests.sound_left;
        idle = end.3.rests.idle;
        clean = subst (λ s. Each clean (gs.ends s)) (sym end.2.stack) end.3.stands.clean;
        complete = end.3.rests.complete;
      }

  module _ {stack : S} {r : Run S F gs gf} (new : Opened stack r) (bytes : List ℕ) where
    pub fed_by : (a : Result (Unit {0}) TooManyBytes) (r' : Run S F gs gf) → Feeds bytes r a r' → Fed bytes a
    fed_by (Ok x) r' step = omega (arith, step.1.fits, new.count)
    fed_by (Err e) r' step = omega (arith, step.0, new.count)

    pub left_after : (a : Result (Unit {0}) TooManyBytes) (r' : Run S F gs gf) (tally : Tally F) (left : S) → gs.sound stack → Idle (gs.meaning stack) → Feeds bytes r a r' → PastCloses r' tally left → Left gs (bytes_read a bytes) tally left
    left_after (Ok x) r' tally left ok idle step closes =
        left_by r' bytes step.0 tally left (fed bytes (opened stack ok idle new) step.1) (omega (arith, step.1.count, new.count)) closes
    left_after (Err e) r' tally left ok idle step closes =
        left_by r' [] [] tally left (fed_denied e bytes (opened stack ok idle new) step) (ap (λ x. x.count) step.1 ∙ new.count) closes

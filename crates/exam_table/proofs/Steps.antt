-- Why the pipe of key 60 speaks until the pedal comes up, and no longer.
use Rattle.std.proofs.Common.{◌≡◌, ℕ, ◌<◌, Bool, true, false, cond, not, ◌&&◌, ◌||◌, eqb, List, [], ◌∷◌, ◌++◌, set, replicate, pos, ◌+ℤ◌, is_some, Some, None, Ok, Err, Result, sym, refl, ap, ◌∙◌, subst, ap₂, arith, lit≤}
use mathlib.Core.Bool.{or-false}
use Rattle.sink.specs.Faults.{here, layer_denial}
use Rattle.sink.specs.Calls.{Start, Release, Tell, Answer, ticket, done, denied}
use Rattle.sink.specs.Meaning.{Idle}
use Rattle.sink.specs.Layered.{passed, Refused}
use Rattle.sink.specs.declared.fault.Cause.{Cause}
use Rattle.sink.specs.declared.fault.Cause.TheVariants.{NotOwed}
use Rattle.sink.specs.declared.fault.LayerFault.{LayerFault}
use Rattle.sink.specs.declared.fault.LayerFault.TheVariants.{Own}
use Rattle.sink.proofs.Bools.{clash, refuted, self_eq, same_or}
use Rattle.roll.specs.declared.note.Note.{Note}
use Rattle.roll.specs.declared.note.Pick.TheVariants.{KeptOn}
use Rattle.roll.specs.Notes.{found, lists, added, marked, mark_kept, left_out, picked}
use Rattle.roll.specs.Rolls.{listed}
use Rattle.ends.specs.Ending.{IfReady}
use Rattle.rolled.specs.Rolled.{notes_of, keeps, kept_note, new_note, NotReady, says_yes}
use Rattle.rolled.specs.Chains.{tickets_of, named, Releases}
use Rattle.rolled.proofs.Below.{Lawful}
use Rattle.rolled.proofs.Gone.{gone}
use Rattle.transposer.specs.Shift.{Folds, a_key}
use Rattle.transposer.specs.Folded.{one_key}
use Rattle.hold.specs.declared.hold.Hold.{Hold}
use Rattle.hold.specs.Hold.{is_under_pedal, note_under, On, KeptHere}
use Rattle.voice_log.specs.declared.log.VoiceLog.{VoiceLog}
use Rattle.voice_log.specs.Log.{notes, serial_of, log_check, log_meaning, LogDoes, LogSound, Begins}
use Rattle.voice_log.specs.Law.{log_law}
use Rattle.exam_table.specs.Stack.{ExamStack, log_of, held_meaning, HeldDoes, StackDoes}
use Rattle.exam_table.specs.Answer.{Rests, Rows, Speaks60, NoneSpeaks, AnswersStand}

pub log_lawful : Lawful here log_meaning LogSound LogDoes
log_lawful = record {
  orderly = λ s h. record {
    apart = λ u e. refl;
    sounding = λ u e. ap (λ b. b || false) (h.order.within u e);
    small = λ u e. let v : u < 128 = h.order.small u (sym (or-false (lists (notes s) u)) ∙ e) in omega arith;
  };
  stays = λ s c a t h d. (log_law s a t h c d).1;
  means = λ s c a t h d. (log_law s a t h c d).0;
}

no_notes : (ns : List Note) → ((u : ℕ) → lists ns u ≡ false) → ns ≡ []
unfolding lists
no_notes [] f = refl
no_notes (n ∷ ns) f = clash (lists (n ∷ ns) n.ticket) (ap (λ b. b || lists ns n.ticket) (self_eq n.ticket)) (f n.ticket)

no_ticket : {A F : Type 0} {f : F} {t : ℕ} → ◌≡◌ {A = Answer F} (ticket t) (denied f) → A
no_ticket e = cc

came_up : {F : Type 0} (t : ℕ) (b : Answer F) → ticket t ≡ passed b → b ≡ ticket t
came_up t (ticket u) e = cc
came_up t done e = cc
came_up t (denied f) e = cc

middle : (A B C : Type 0) (x y : Bool) → x ≡ false → y ≡ true → cond x A (cond y B C) → B
middle A B C true y e f d = clash true refl e
middle A B C false true e f d = d
middle A B C false false e f d = clash false f refl

never_both : (b : Bool) → ((b || false) && not (b || false)) ≡ false
never_both true = refl
never_both false = refl

-- key 60 as it was struck
abbrev pub struck : ℕ → Note
struck t = new_note t 0 60 100

-- what the log has while the pipe speaks
pub record Sounds (t : ℕ) (l : VoiceLog) : Type 0 where
  pub sound : LogSound l
  pub logged : notes l ≡ struck t ∷ []
  pub only : (u : ℕ) → is_some (serial_of l u) ≡ eqb t u

-- a hold over that log, with the note in its roll
pub record Held (l : VoiceLog) (down : List Bool) (n : Note) (h : Hold VoiceLog) : Type 0 where
  pub log : h.rolled.below ≡ l
  pub roll : notes_of h.rolled ≡ n ∷ []
  pub pedals : h.pedals.on ≡ down

-- ---- the key goes down

module _ (t p : ℕ) where
  begun : (x : Result (Unit {0}) Cause) (l l' : VoiceLog) → IfReady x (Begins p 0 60 100) l (ticket t) l' → Begins p 0 60 100 l (ticket t) l'
  begun (Ok _) l l' d = d
  begun (Err f) l l' d = no_ticket d.answer

  pub log_begins : (l l' : VoiceLog) → LogDoes l (Start p 0 60 100) (ticket t) l' → Begins p 0 60 100 l (ticket t) l'
  log_begins l l' d = begun (log_check l) l l' d

  pub log_start : (l l' : VoiceLog) → LogSound l → Idle (log_meaning l) → LogDoes l (Start p 0 60 100) (ticket t) l' → Sounds t l'
  log_start l l' h idle d =
      let law = log_law l (ticket t) l' h (Start p 0 60 100) d in
      let b = log_begins l l' d in
      let m = law.0.1 in
      let number : b.number ≡ t = let e = b.answer in cc in
      record {
        sound = law.1;
        logged = b.roll ∙ ap₂ (λ ns u. ns ++ (struck u ∷ [])) (no_notes (notes l) idle.owed) number;
        only = λ u. same_or (λ v. is_some (serial_of l' v) ≡ eqb t v) t u (m.sounds ∙ sym (self_eq t)) (λ e. refuted _ _ (m.others u e) (idle.sounding u) ∙ sym e);
      }

  on_start : (x : Bool) (h h' : Hold VoiceLog) → cond x (On LogDoes (Start p 0 60 100) h (ticket t) h') (NotReady (layer_denial here) (held_meaning h) h (ticket t) h') → On LogDoes (Start p 0 60 100) h (ticket t) h'
  on_start true h h' d = d
  on_start false h h' d = no_ticket d.refused.answer

  -- the start reaches the log with key 60, and its note joins the hold's roll
  pub stack_start : (s s' : ExamStack) → Rests s → StackDoes s (Start p 0 60 100) (ticket t) s' → LogDoes (log_of s) (Start p 0 60 100) (ticket t) (log_of s') × Held (log_of s') (replicate 16 false) (struck t) s'.below
  stack_start s s' r d =
      let h = s.below in
      let h' = s'.below in
      let to-60 : d.to ≡ 60 = one_key (a_key (lit≤ tt)) (subst (λ z. Folds (pos 60 +ℤ z) d.to) r.shift d.folds) in
      let above = d.on.handed in
      let at-60 = subst (λ k. HeldDoes h (Start p 0 k 100) above.below h') to-60 above.call in
      let o = on_start (says_yes (held_meaning h).ready) h h' (subst (λ a. HeldDoes h (Start p 0 60 100) a h') (came_up t above.below above.up) at-60) in
      let call = o.rolled.handed in (
        subst (λ a. LogDoes (log_of s) (Start p 0 60 100) a (log_of s')) (came_up t call.below call.up) call.call,
        record { log = refl; roll = o.rolled.roll ∙ ap (added (struck t)) r.held; pedals = ap (λ x. x.on) o.pedals ∙ r.pedals },
      )

log_rests : (s : ExamStack) → Rests s → Idle (log_meaning (log_of s))
unfolding lists
log_rests s r = record { owed = λ u. r.sound.rolled.exact u ∙ ap (λ ns. lists ns u) r.held; kept = λ u. refl; sounding = r.idle.sounding }

-- ---- the pedal goes down, the key comes up, the pedal comes up: the log has no call before the last

abbrev pub first_down : List Bool
first_down = set (replicate 16 false) 0 true

module _ (t p : ℕ) (l : VoiceLog) (h h' : Hold VoiceLog) (a : Answer (LayerFault Cause)) where
  pub pedal_down : Held l (replicate 16 false) (struck t) h → HeldDoes h (Tell p 0 64 127) a h' → Held l first_down (struck t) h'
  pedal_down was d = record {
    log = d.told.handed.call.same ∙ ap (λ r. r.below) d.lifted ∙ was.log;
    roll = ap listed d.told.roll ∙ ap notes_of d.lifted ∙ was.roll;
    pedals = d.pedals ∙ ap (λ down. set down 0 true) was.pedals;
  }

  pub key_up : Held l first_down (struck t) h → HeldDoes h (Release p t 64) a h' → Held l first_down (mark_kept (struck t)) h'
  unfolding found marked
  key_up was d =
      let ns = notes_of h.rolled in
      let unkept : keeps ns t ≡ false = ap (λ l. keeps l t) was.roll ∙ ap (λ b. kept_note (cond b (Some (struck t)) None)) (self_eq t) in
      let under : is_under_pedal h.pedals.on ns t ≡ true = ap₂ (λ down l. is_under_pedal down l t) was.pedals was.roll ∙ ap (λ b. note_under first_down (cond b (Some (struck t)) None)) (self_eq t) in
      let k : KeptHere t h a h' = middle (Refused (Own NotOwed) h a h') (KeptHere t h a h') (On LogDoes (Release p t 64) h a h') (keeps ns t) (is_under_pedal h.pedals.on ns t) unkept under d in
      record {
        log = k.below ∙ was.log;
        roll = k.roll ∙ ap (marked t) was.roll ∙ ap (λ b. cond b (mark_kept (struck t) ∷ []) (struck t ∷ [])) (self_eq t);
        pedals = ap (λ x. x.on) k.pedals ∙ was.pedals;
      }

  -- the ticket is released at the log, and the hold's roll is empty
  pub pedal_up : Held l first_down (mark_kept (struck t)) h → HeldDoes h (Tell p 0 64 0) a h' → Releases LogDoes p (t ∷ []) l h'.rolled.below × (notes_of h'.rolled ≡ [])
  unfolding tickets_of left_out
  pedal_up was d =
      let these : tickets_of (picked (KeptOn 0)) (notes_of h.rolled) ≡ t ∷ [] = ap (tickets_of (picked (KeptOn 0))) was.roll in
      let out = subst (λ ks. Releases LogDoes p ks h.rolled.below d.between.below) these d.lifted.below in (
        subst (Releases LogDoes p (t ∷ []) l) (sym d.told.handed.call.same) (subst (λ x. Releases LogDoes p (t ∷ []) x d.between.below) was.log out),
        ap listed d.told.roll ∙ d.lifted.roll ∙ ap (left_out (picked (KeptOn 0))) was.roll,
      )

silent_after : (t p : ℕ) (l l' : VoiceLog) → Sounds t l → Releases LogDoes p (t ∷ []) l l' → (u : ℕ) → is_some (serial_of l' u) ≡ false
unfolding lists named
silent_after t p l l' w d u =
    let g = gone log_lawful d w.sound in
    refuted _ _ (g.0.order.within u) (g.1.owed u ∙ ap (λ ns. lists ns u && not (named (t ∷ []) u)) w.logged ∙ never_both (eqb t u))

speaks : (t : ℕ) (l : VoiceLog) (s : ExamStack) → Sounds t l → log_of s ≡ l → Speaks60 t s
unfolding found
speaks t l s w e = record {
  only = λ u. ap (λ x. is_some (serial_of x u)) e ∙ w.only u;
  note = struck t;
  logged = ap (λ x. found t (notes x)) e ∙ ap (found t) w.logged ∙ ap (λ b. cond b (Some (struck t)) None) (self_eq t);
  channel = refl;
  key = refl;
}

-- ---- the rows

module _ (t : ℕ) (s₀ s₁ s₂ s₃ s₄ s₅ : ExamStack) (rests : Rests s₀) (rows : Rows t s₀ s₁ s₂ s₃ s₄ s₅) where
  abbrev l₁ : VoiceLog
  l₁ = log_of s₁

  one : Held l₁ (replicate 16 false) (struck t) s₁.below
  one = (stack_start t rows.p₁ s₀ s₁ rests rows.key_down).1

  two : Held l₁ (replicate 16 false) (struck t) s₂.below
  two = subst (Held l₁ (replicate 16 false) (struck t)) (sym rows.transpose.below) one

  three : Held l₁ first_down (struck t) s₃.below
  three = pedal_down t rows.p₃ l₁ s₂.below s₃.below rows.pedal_down.handed.below two rows.pedal_down.handed.call

  four : Held l₁ first_down (mark_kept (struck t)) s₄.below
  four = key_up t rows.p₄ l₁ s₃.below s₄.below rows.key_up.handed.below three rows.key_up.handed.call

  -- what the log was called: a start, and a release at the end
  pub log_calls : LogDoes (log_of s₀) (Start rows.p₁ 0 60 100) (ticket t) l₁ × Releases LogDoes rows.p₅ (t ∷ []) l₁ (log_of s₅) × (notes_of s₅.below.rolled ≡ [])
  log_calls =
      let last = pedal_up t rows.p₅ l₁ s₄.below s₅.below rows.pedal_up.handed.below four rows.pedal_up.handed.call in
      ((stack_start t rows.p₁ s₀ s₁ rests rows.key_down).0, last.0, last.1)

  pub first_sounds : Sounds t l₁
  first_sounds = log_start t rows.p₁ (log_of s₀) l₁ rests.sound.rolled.below (log_rests s₀ rests) log_calls.0

  pub rows_stand : Speaks60 t s₁ × Speaks60 t s₂ × Speaks60 t s₃ × Speaks60 t s₄ × NoneSpeaks s₅
  rows_stand =
      let w = first_sounds in (
        speaks t l₁ s₁ w one.log,
        speaks t l₁ s₂ w two.log,
        speaks t l₁ s₃ w three.log,
        speaks t l₁ s₄ w four.log,
        silent_after t rows.p₅ l₁ (log_of s₅) w log_calls.1,
      )

pub answers_stand_lem : AnswersStand
answers_stand_lem = rows_stand

-- What the run of the rows leaves in the log.
use Rattle.std.proofs.Common.{◌≡◌, ℕ, ◌+◌, ◌<◌, ◌≤◌, Bool, true, false, cond, ltb, List, [], ◌∷◌, length, get_or, take, set, Some, None, Ok, Err, vec_items, refl, ap, ◌∙◌, subst, ap₂, subst₂, arith, get_or-set_same, le-ltb}
use Rattle.sink.specs.Faults.{here, layer_denial}
use Rattle.sink.specs.declared.fault.refusal.Refusal
use Rattle.sink.specs.declared.sink.Sink
use Rattle.sink.specs.Calls.{Call, Start, Release, Clear, Answer, ticket, done, denied}
use Rattle.sink.specs.Meaning.{Readiness, is_ready, whether, Means}
use Rattle.sink.specs.Layered.{ready_over}
use Rattle.sink.specs.declared.fault.Cause.{Cause}
use Rattle.sink.specs.declared.fault.Cause.TheVariants.{AllOut, NoSpace}
use Rattle.sink.proofs.Bools.{self_eq}
use Rattle.roll.specs.declared.note.Pick.TheVariants.{Kept}
use Rattle.roll.specs.Notes.{found, full, picked}
use Rattle.roll.specs.Voices.{tally}
use Rattle.roll.proofs.Tallies.{with_none}
use Rattle.ends.specs.Ending.{IfOwed}
use Rattle.rolled.specs.Rolled.{notes_of}
use Rattle.rolled.specs.Chains.{tickets_of, Releases, no_release, one_release}
use Rattle.transposer.specs.Law.{transposer_means}
use Rattle.hold.specs.Hold.{HoldSound}
use Rattle.hold.specs.Law.{hold_stands}
use Rattle.voice_log.specs.declared.line.Kind.TheVariants.{Begun, Ended}
use Rattle.voice_log.specs.declared.line.Line.{Line}
use Rattle.voice_log.specs.declared.log.VoiceLog.{VoiceLog}
use Rattle.voice_log.specs.Lines.{begun_count}
use Rattle.voice_log.specs.Log.{notes, serials, serial_of, written_lines, spare, log_meaning, LogDoes, LogSound, Ends, StopLine, Writes, begun_line}
use Rattle.exam_table.specs.Rows.{Plays}
use Rattle.exam_table.specs.Stack.{ExamStack, ExamFault, New, log_of, held_meaning, HeldDoes, stack_sees, stack_meaning, StackSound, StackDoes}
use Rattle.exam_table.specs.Sitting.{the_log}
use Rattle.exam_table.specs.Answer.{Rests, Rows, RunsStand}
use Rattle.exam_table.proofs.Calls.{not_nil, only_one, CalledRows, called}
use Rattle.exam_table.proofs.Steps.{log_lawful, struck, Sounds, log_begins, log_calls, first_sounds, rows_stand}

-- ---- the start is taken

stack_means : (s : ExamStack) (c : Call) (a : Answer ExamFault) (t : ExamStack) → StackSound s → StackDoes s c a t → Means stack_sees stack_meaning s c a t
stack_means s c a t h d =
    transposer_means (layer_denial here) held_meaning (HoldSound log_meaning LogSound) HeldDoes
    (λ x c' b y ok e. (hold_stands log_lawful x b y ok c' e).0) (λ x c' b y ok e. (hold_stands log_lawful x b y ok c' e).1) s a t h c d

abbrev readiness : Bool → Bool → Bool → Readiness
readiness roll tickets space = ready_over false (ready_over roll (whether here (cond tickets (Err AllOut) (cond space (Err NoSpace) (Ok tt)))))

module _ (lines : List Line) (s : ExamStack) (new : New lines s) (room : 2 ≤ length lines) where
  space : 2 ≤ spare (log_of s)
  space =
      let none = (log_of s).sounding.counted ∙ ap tally new.silent ∙ with_none (λ _. true) 128 in
      omega (arith, new.room, new.written, none)

  ready : (stack_meaning s).ready ≡ is_ready
  ready =
      ap (λ x. readiness x (full (notes (log_of s))) (ltb (spare (log_of s)) 2)) (ap full new.held)
      ∙ ap₂ (readiness false) (ap full new.logged) (le-ltb (spare (log_of s)) 2 space)

  starts : StackSound s → (a : Answer ExamFault) (s' : ExamStack) → StackDoes s (Start 2 0 60 100) a s' → (t : ℕ) × (a ≡ ticket t)
  starts h a s' d = go a (stack_means s (Start 2 0 60 100) a s' h d)
    where
      go : (a : Answer ExamFault) → Means stack_sees stack_meaning s (Start 2 0 60 100) a s' → (t : ℕ) × (a ≡ ticket t)
      go (ticket t) m = (t, refl)
      go done m = absurd m
      go (denied f) m = let e = m.because.1 refl in let f = ready in cc

-- ---- the run goes through the rows

-- what the stack is said to do is what its definitions say
abbrev pub Ours : Sink.Ghosts ExamStack ExamFault → Type 0
Ours gs = (s : ExamStack) (c : Call) (a : Answer ExamFault) (t : ExamStack) → gs.does s c a t → StackDoes s c a t

module _ (gs : Sink.Ghosts ExamStack ExamFault) (gf : Refusal.Ghosts ExamFault) (ours : Ours gs) (lines : List Line) (s left : ExamStack) (new : New lines s) (rests : Rests s) (room : 2 ≤ length lines) (p : Plays gs gf s left) where
  calls : (t : ℕ) × CalledRows gs.does t s p.r₁.player.stack p.r₂.player.stack p.r₃.player.stack p.r₄.player.stack p.r₅.player.stack left
  calls = called s left p (λ a s' d. starts lines s new room rests.sound a s' (ours s (Start 2 0 60 100) a s' d))

  rows : Rows calls.0 s p.r₁.player.stack p.r₂.player.stack p.r₃.player.stack p.r₄.player.stack p.r₅.player.stack
  rows =
      let c = calls.1 in
      record { p₁ = 2; p₂ = 3; p₃ = 5; p₄ = 8; p₅ = 11; a₂ = c.a₂; a₃ = c.a₃; a₄ = c.a₄; a₅ = c.a₅; key_down = ours _ _ _ _ c.key_down; transpose = ours _ _ _ _ c.transpose; pedal_down = ours _ _ _ _ c.pedal_down; key_up = ours _ _ _ _ c.key_up; pedal_up = ours _ _ _ _ c.pedal_up }

pub runs_stand : (gs : Sink.Ghosts ExamStack ExamFault) (gf : Refusal.Ghosts ExamFault) → Ours gs → RunsStand gs gf
runs_stand gs gf ours lines s left new rests room p =
    let w = rows_stand (calls gs gf ours lines s left new rests room p).0 s p.r₁.player.stack p.r₂.player.stack p.r₃.player.stack p.r₄.player.stack p.r₅.player.stack rests (rows gs gf ours lines s left new rests room p) in
    ((calls gs gf ours lines s left new rests room p).0, w.0, w.1, w.2, w.3, w.4)

-- ---- the lines

released_nil : {p : ℕ} {ks : List ℕ} {l l' : VoiceLog} → ks ≡ [] → Releases LogDoes p ks l l' → l' ≡ l
released_nil e no_release = refl
released_nil e (one_release {s} {t} {u} {a} {k} {ks} before d) = absurd (not_nil ks k e)

released_one : {p : ℕ} {ks : List ℕ} {l l' : VoiceLog} (j : ℕ) → ks ≡ j ∷ [] → Releases LogDoes p ks l l' → (a : Answer Cause) × LogDoes l (Release p j 64) a l'
released_one j e no_release = cc
released_one {p} j e (one_release {s} {t} {u} {a} {k} {ks} before d) =
    let one = only_one ks k j e in
    (a, subst₂ (λ x i. LogDoes x (Release p i 64) a u) (released_nil one.0 before) one.1 d)

abbrev begun : ℕ → Line
begun n = record { place = 2; kind = Begun; serial = n; channel = 0; key = 60; velocity = 100 }

abbrev ended : Line
ended = record { place = 11; kind = Ended; serial = 0; channel = 0; key = 60; velocity = 64 }

-- the first line is written
record First (t : ℕ) (items : List Line) (l : VoiceLog) : Type 0 where
  lines : vec_items l.lines.items ≡ set items 0 (begun 0)
  written : l.lines.written ≡ 1
  serial : serial_of l t ≡ Some 0

first_line : (items : List Line) (s : ExamStack) (t : ℕ) (l : VoiceLog) → New items s → LogDoes (log_of s) (Start 2 0 60 100) (ticket t) l → First t items l
unfolding begun_count
first_line items s t l new d =
    let b = log_begins t 2 (log_of s) l d in
    let number : b.number ≡ t = let e = b.answer in cc in
    let none : begun_count (written_lines (log_of s)) ≡ 0 = ap (λ n. begun_count (take n (vec_items (log_of s).lines.items))) new.written in
    let xs = serials (log_of s) in
    let small : t < length xs = omega (arith, b.small, number, (log_of s).sounding.long) in
    record {
      lines = b.line.items ∙ ap₂ (λ xs n. set xs n (begun_line 2 0 60 100 (log_of s))) new.lines new.written ∙ ap (λ n. set items 0 (begun n)) none;
      written = b.line.written ∙ ap (λ n. n + 1) new.written;
      serial = ap (λ ys. get_or ys t None) (b.serials ∙ ap₂ (λ i n. set xs i (Some n)) number none) ∙ get_or-set_same xs t (Some 0) None small;
    }

-- and then the second
last_line : (items : List Line) (t : ℕ) (l l' : VoiceLog) (a : Answer Cause) → First t items l → Sounds t l → LogDoes l (Release 11 t 64) a l' → (vec_items l'.lines.items ≡ set (set items 0 (begun 0)) 1 ended) × (l'.lines.written ≡ 2)
unfolding found
last_line items t l l' a f w d =
    let there : found t (notes l) ≡ Some (struck t) = ap (found t) w.logged ∙ ap (λ b. cond b (Some (struck t)) None) (self_eq t) in
    let ends : Ends 11 t 64 (struck t) l a l' = subst (λ o. IfOwed o (Ends 11 t 64) l a l') there d in
    let line : Writes ended l l' = subst (λ o. StopLine o 11 Ended (struck t) 64 l l') f.serial ends.line in
    (line.items ∙ ap₂ (λ xs n. set xs n ended) f.lines f.written, line.written ∙ ap (λ n. n + 1) f.written)

two_lines : (items : List Line) (x y : Line) → 2 ≤ length items → take 2 (set (set items 0 x) 1 y) ≡ x ∷ y ∷ []
two_lines [] x y h = absurd (omega arith)
two_lines (i ∷ []) x y h = absurd (omega arith)
two_lines (i ∷ j ∷ items) x y h = refl

-- where the hold's roll is empty a clear reaches the log alone, and the log has nothing to do
cleared : (s left : ExamStack) (a : Answer ExamFault) → notes_of s.below.rolled ≡ [] → StackDoes s (Clear 12) a left → log_of left ≡ log_of s
unfolding tickets_of
cleared s left a none d =
    let c = d.handed.call in
    c.cleared.handed.call.same ∙ released_nil (ap (tickets_of (picked Kept)) none) c.lifted.below

pub logged : (gs : Sink.Ghosts ExamStack ExamFault) (gf : Refusal.Ghosts ExamFault) → Ours gs → (lines : List Line) (s left : ExamStack) → New lines s → Rests s → 2 ≤ length lines → Plays gs gf s left → take (log_of left).lines.written (vec_items (log_of left).lines.items) ≡ the_log
unfolding rows
logged gs gf ours lines s left new rests room p =
    let c = calls gs gf ours lines s left new rests room p in
    let t = c.0 in
    let r = rows gs gf ours lines s left new rests room p in
    let s₁ = p.r₁.player.stack in
    let s₅ = p.r₅.player.stack in
    let made = log_calls t s s₁ p.r₂.player.stack p.r₃.player.stack p.r₄.player.stack s₅ rests r in
    let sounds = first_sounds t s s₁ p.r₂.player.stack p.r₃.player.stack p.r₄.player.stack s₅ rests r in
    let out = released_one t refl made.1 in
    let both = last_line lines t (log_of s₁) (log_of s₅) out.0 (first_line lines s t (log_of s₁) new made.0) sounds out.1 in
    ap (λ (l : VoiceLog). take l.lines.written (vec_items l.lines.items)) (cleared s₅ left c.1.a₆ made.2 (ours _ _ _ _ c.1.clear))
    ∙ ap₂ take both.1 both.0 ∙ two_lines lines (begun 0) ended room

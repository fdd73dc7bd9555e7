-- After an accepted start on a mono channel, no other owed ticket of the channel sounds.
use Rattle.std.specs.Prelude.{◌≡◌, ℕ, Bool, true, false, cond, ◌||◌, List, [], ◌∷◌, ◌++◌, ◌==◌, slice_index_or}
use Rattle.std.proofs.Common.{refl, sym, ap, subst, ◌∙◌}
use Rattle.std.proofs.Math.Bool.{or-false}
use Rattle.sink.specs.Faults.{Denial, layer_denial}
use Rattle.sink.specs.Calls.{Call, Start, Answer, ticket, done, denied, startable}
use Rattle.sink.specs.Meaning.{Meaning}
use Rattle.sink.specs.Layered.{Refused}
use Rattle.sink.specs.declared.fault.Cause.TheVariants.{OutOfRange}
use Rattle.sink.specs.declared.fault.LayerFault.{LayerFault}
use Rattle.sink.specs.declared.fault.LayerFault.TheVariants.{Own}
use Rattle.sink.proofs.Bools.{refuted}
use Rattle.roll.specs.declared.note.Note.{Note}
use Rattle.roll.specs.declared.note.Pick.TheVariants.{On}
use Rattle.roll.specs.declared.roll.Roll.{Roll}
use Rattle.roll.specs.Notes.{picked, full}
use Rattle.roll.specs.Rolls.{listed}
use Rattle.rolled.specs.Rolled.{notes_of, keeps_none, new_note, NotReady, says_yes}
use Rattle.rolled.specs.Chains.{Hushed, tickets_of, named}
use Rattle.rolled.proofs.Below.{Lawful}
use Rattle.rolled.proofs.Gone.{named_append}
use Rattle.rolled.proofs.Notes.{tickets_snoc}
use Rattle.rolled.proofs.Onward.{none_owns, onward}
use Rattle.rolled.proofs.Work.{has_room, hushed}
use Rattle.mono.specs.declared.mono.Mono.{Mono}
use Rattle.mono.specs.Mono.{mono_meaning, MonoSound, Started, MonoDoes}

abbrev IsTicket : {F : Type 0} → Answer F → Type 0
IsTicket (ticket t) = Unit {0}
IsTicket done = ⊥
IsTicket (denied f) = ⊥

not_denied : {F A : Type 0} (x : ℕ) (f : F) → ticket x ≡ denied f → A
not_denied x f e = absurd (subst IsTicket e tt)

-- a ticket of the notes after another one joined was of the notes before
named_one : (b : Bool) (t u : ℕ) → (t == u) ≡ false → named (cond b (t ∷ []) []) u ≡ false
unfolding named
named_one true t u e = or-false (t == u) ∙ e
named_one false t u e = refl

older : (b : Bool) (p : Note → Bool) (ns : List Note) (n : Note) (u : ℕ) → (n.ticket == u) ≡ false → named (tickets_of p (cond b ns (ns ++ (n ∷ [])))) u ≡ true → named (tickets_of p ns) u ≡ true
older true p ns n u e h = h
older false p ns n u e h = sym (or-false (named (tickets_of p ns) u)) ∙ ap (λ b. named (tickets_of p ns) u || b) (sym (named_one (p n) n.ticket u e)) ∙ sym (ap (λ l. named l u) (tickets_snoc p ns n) ∙ named_append (tickets_of p ns) (cond (p n) (n.ticket ∷ []) []) u) ∙ h

module _ {S F : Type 0} {sees : F → Denial} {meaning : S → Meaning} {sound : S → Type 0} {does : S → Call → Answer F → S → Type 0} (law : Lawful sees meaning sound does) (s : Mono S) (h : MonoSound meaning sound s) (c : ℕ) (mono : slice_index_or s.modes.on c false ≡ true) where
  abbrev Silent : ℕ → Mono S → Type 0
  Silent x t = (u : ℕ) → named (tickets_of (picked (On c)) (notes_of t.rolled)) u ≡ true → (x == u) ≡ false → (meaning t.rolled.below).sounding u ≡ false

  started : (p k v x : ℕ) (t : Mono S) → startable c k v ≡ true → says_yes (mono_meaning meaning s).ready ≡ true → Started meaning does p c k v s (ticket x) t → Silent x t
  started p k v x t ok free d u e other =
      let way = subst (λ b. cond b (Hushed meaning does p (On c) s.rolled d.between) (d.between ≡ s.rolled)) mono d.made_way in
      let w = hushed law s.rolled d.between h p (On c) keeps_none way in
      let room = subst (λ (r : Roll). full (listed r) ≡ false) (sym way.roll) (has_room (full (notes_of s.rolled)) (meaning s.rolled.below).ready free) in
      let o = onward law none_owns d.between t.rolled w.0 (Start p c k v) (ticket x) (ok, room) d.started in
      let before = older (full (notes_of d.between)) (picked (On c)) (notes_of d.between) (new_note x c k v) u other (sym (ap (λ l. named (tickets_of (picked (On c)) l) u) d.started.roll) ∙ e) in
      refuted ((meaning t.rolled.below).sounding u) ((meaning d.between.below).sounding u) (o.1.1.others u other) (w.2 u (sym (ap (λ (r : Roll). named (tickets_of (picked (On c)) (listed r)) u) way.roll) ∙ before))

  by_cases : (p k v x : ℕ) (t : Mono S) (y z : Bool) → startable c k v ≡ y → says_yes (mono_meaning meaning s).ready ≡ z → cond y (cond z (Started meaning does p c k v s (ticket x) t) (NotReady (layer_denial sees) (mono_meaning meaning s) s (ticket x) t)) (Refused {F = LayerFault F} (Own OutOfRange) s (ticket x) t) → Silent x t
  by_cases p k v x t true true e f d = started p k v x t e f d
  by_cases p k v x t true false e f d = not_denied x d.why d.refused.answer
  by_cases p k v x t false z e f d = not_denied x (Own OutOfRange) d.answer

  pub alone : (p k v x : ℕ) (t : Mono S) → MonoDoes sees meaning does s (Start p c k v) (ticket x) t → Silent x t
  alone p k v x t d = by_cases p k v x t (startable c k v) (says_yes (mono_meaning meaning s).ready) refl refl d

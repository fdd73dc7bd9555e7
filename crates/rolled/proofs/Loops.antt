-- A loop over a roll that releases or hushes the notes picked, one note further.
use Rattle.std.proofs.Common.{◌≡◌, ℕ, ◌+◌, ◌<◌, Bool, true, false, cond, List, [], ◌∷◌, ◌++◌, length, get_or, take, sym, refl, ap, ◌∙◌, subst, append-nil}
use Rattle.sink.specs.Calls.{Call, Release, Answer}
use Rattle.sink.specs.Meaning.{Meaning}
use Rattle.roll.specs.Notes.{blank, picked}
use Rattle.roll.specs.declared.note.Note.{Note}
use Rattle.roll.specs.declared.note.Pick.{Pick}
use Rattle.rolled.specs.Chains.{tickets_of, ReleaseOne, Releases, one_release, HushOne, HushNote, Hushes, one_hush}
use Rattle.rolled.proofs.Notes.{tickets_more}

module _ (pick : Pick) (ns : List Note) (i : ℕ) (lt : i < length ns) where
  abbrev before : List ℕ
  before = tickets_of (picked pick) (take i ns)

  abbrev after : List ℕ
  after = tickets_of (picked pick) (take (i + 1) ns)

  abbrev note : Note
  note = get_or ns i blank

  next : (b : Bool) → picked pick note ≡ b → after ≡ before ++ cond b (note.ticket ∷ []) []
  next b e = tickets_more (picked pick) ns i blank lt ∙ ap (λ x. before ++ cond x (note.ticket ∷ []) []) e

  skipped : picked pick note ≡ false → after ≡ before
  skipped e = next false e ∙ append-nil before

  module _ {S F : Type 0} (does : S → Call → Answer F → S → Type 0) (place : ℕ) (s t : S) (r : Releases does place before s t) (u : S) where
    releases_by : (b : Bool) → picked pick note ≡ b → cond b ((a : Answer F) × does t (Release place note.ticket 64) a u) (u ≡ t) → Releases does place after s u
    releases_by true e h = subst (λ ks. Releases does place ks s u) (sym (next true e)) (one_release r h.1)
    releases_by false e h = subst (λ ks. Releases does place ks s u) (sym (skipped e)) (subst (Releases does place before s) (sym h) r)

    pub releases_next : ReleaseOne does place pick note t u → Releases does place after s u
    releases_next h = releases_by (picked pick note) refl h

  module _ {S F : Type 0} (meaning : S → Meaning) (does : S → Call → Answer F → S → Type 0) (place : ℕ) (s t : S) (r : Hushes meaning does place before s t) (u : S) where
    hushes_by : (b : Bool) → picked pick note ≡ b → cond b (HushOne meaning does place note.ticket t u) (u ≡ t) → Hushes meaning does place after s u
    hushes_by true e h = subst (λ ks. Hushes meaning does place ks s u) (sym (next true e)) (one_hush note.ticket r h)
    hushes_by false e h = subst (λ ks. Hushes meaning does place ks s u) (sym (skipped e)) (subst (Hushes meaning does place before s) (sym h) r)

    pub hushes_next : HushNote meaning does place pick note t u → Hushes meaning does place after s u
    hushes_next h = hushes_by (picked pick note) refl h

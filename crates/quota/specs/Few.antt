-- How many notes of a roll sound, after hushes and after a call handed on.
use Rattle.std.specs.Prelude.{◌≡◌, ℕ, zero, suc, ◌+◌, ◌-◌, ◌<◌, ◌≤◌, Bool, true, false, not, ◌&&◌, List, length, Some, None, Option, ◌==◌, refl}
use Rattle.std.proofs.Common.{sym, ap, subst, ◌∙◌, arith, eqb-true}
use Rattle.std.proofs.Math.Bool.{and-false}
use Rattle.sink.specs.Faults.{Denial}
use Rattle.sink.specs.Calls.{Call, Start, Release, Hush, Tell, Set, Clear, Answer, ticket, done, denied}
use Rattle.sink.specs.Meaning.{Meaning, Means, Ended}
use Rattle.sink.specs.Layered.{passed}
use Rattle.sink.proofs.Bools.{clash, self_eq, same_or}
use Rattle.std.proofs.lemmas.Bool.{and_parts}
use Rattle.roll.specs.declared.note.Note.{Note}
use Rattle.roll.specs.declared.note.Pick.TheVariants.{Ticket}
use Rattle.roll.specs.declared.roll.Roll.{Roll}
use Rattle.roll.specs.Notes.{lists, picked, full}
use Rattle.roll.specs.Rolls.{listed}
use Rattle.rolled.specs.declared.rolled.Rolled.{Rolled}
use Rattle.rolled.specs.Rolled.{notes_of, keeps_none, rolled_meaning, RollSound, new_note, RollAfter}
use Rattle.rolled.proofs.Below.{Lawful}
use Rattle.rolled.proofs.Silent.{Silenced, silenced_none, silenced_then, hush_call, hush_owed}
use Rattle.rolled.proofs.Work.{hush_sound, hush_silenced}
use Rattle.quota.specs.Orders.{Foremost, Chosen, sounding_among}
use Rattle.quota.specs.Hushing.{HushIt, HushTimes, enough, another, sounding_count, HushedDown}
use Rattle.quota.specs.Quota.{AtMost}
use Rattle.quota.specs.Counts.{fewer, less, leave, join, among, lists_mid, sounds_among, no_more}

module _ {S F : Type 0} {sees : F → Denial} {meaning : S → Meaning} {sound : S → Type 0} {does : S → Call → Answer F → S → Type 0} (law : Lawful sees meaning sound does) where
  abbrev count : List Note → S → ℕ
  count = sounding_count meaning

  -- the foremost of the notes that sound is hushed: one fewer sounds
  one_less : (before : Note → Note → Bool) (p : ℕ) (ns : List Note) (n : Note) (a : Answer F) (s t : S) → sound s → ((u : ℕ) → (meaning s).owed u ≡ lists ns u) → Foremost before (sounding_among (meaning s).sounding ns) n → does s (Hush p n.ticket) a t → count ns t < count ns s
  one_less before p ns n a s t h exact f d =
      let k = n.ticket in
      let here : lists (sounding_among (meaning s).sounding ns) k ≡ true = ap (λ l. lists l k) f.place ∙ lists_mid f.older f.younger n in
      let after = hush_owed law p k a s t (law.means s (Hush p k) a t h d) (exact k ∙ among (λ m. not ((meaning s).sounding m.ticket)) ns k here) in
      less (meaning t).sounding (meaning s).sounding k ns (λ u e. (and_parts ((meaning s).sounding u) (not (k == u)) (sym (after u) ∙ e)).0) (after k ∙ ap (λ b. (meaning s).sounding k && not b) (self_eq k) ∙ and-false ((meaning s).sounding k)) here

  hush_next_lem : (before : Note → Note → Bool) (p : ℕ) (ns : List Note) (s t : S) (o : Option Note) → sound s → ((u : ℕ) → (meaning s).owed u ≡ lists ns u) → Chosen before (sounding_among (meaning s).sounding ns) o → HushIt meaning does before p o s t → sound t × Silenced (meaning s) (meaning t) × ((k : ℕ) → suc k ≤ count ns s + k → count ns t + suc k ≤ count ns s + k) × (count ns s ≡ 0 → count ns t ≡ 0)
  hush_next_lem before p ns s t None h exact c d =
      let none : count ns s ≡ 0 = ap length c in
      let same : count ns t ≡ count ns s = ap (count ns) d in
      (subst sound (sym d) h, subst (λ z. Silenced (meaning s) (meaning z)) (sym d) (silenced_none (meaning s)), (λ k le. omega arith), λ e. omega arith)
  hush_next_lem before p ns s t (Some n) h exact c d =
      let one = hush_call law p n.ticket d.0 s t h d.1 in
      let lt = one_less before p ns n d.0 s t h exact c d.1 in
      (one.0, one.1, (λ k le. omega arith), λ e. omega arith)

  -- so many hushes: so many fewer sound, or none
  times : {before : Note → Note → Bool} {p : ℕ} {ns : List Note} {k : ℕ} {s t : S} → HushTimes meaning does before p ns k s t → sound s → ((u : ℕ) → (meaning s).owed u ≡ lists ns u) → sound t × Silenced (meaning s) (meaning t) × (k ≤ count ns s → count ns t + k ≤ count ns s)
  times {before} {p} {ns} {k} {s} enough h exact = (h, silenced_none (meaning s), λ le. omega arith)
  times {before} {p} {ns} (another {k} {s} {t} {u} r d) h exact =
      let w = times r h exact in
      let x = hush_next_lem before p ns t u d.chosen w.0 (λ v. w.1.owed v ∙ exact v) d.choice d.hush in
      (x.0, silenced_then (meaning s) (meaning t) (meaning u) w.1 x.1, λ le. total (count ns t) (count ns u) refl refl (w.2 (omega arith)) x.2 x.3 le)
    where
      total : (m j : ℕ) → count ns t ≡ m → count ns u ≡ j → m + k ≤ count ns s → ((i : ℕ) → suc i ≤ m + i → j + suc i ≤ m + i) → (m ≡ 0 → j ≡ 0) → suc k ≤ count ns s → j + suc k ≤ count ns s
      total zero j e f le g z lt = let q = z refl in omega arith
      total (suc m) j e f le g z lt = let q = g k (omega arith) in omega arith

  -- hushed down to so many
  pub few_left : (before : Note → Note → Bool) (p most : ℕ) (r r' : Rolled S) → RollSound meaning sound r → HushedDown meaning does before p most r r' → RollSound meaning sound r' × Silenced (rolled_meaning keeps_none meaning r) (rolled_meaning keeps_none meaning r') × (count (notes_of r') r'.below ≤ most)
  few_left before p most r r' h d =
      let w = times d.below h.below h.exact in
      let same = ap (λ (x : Roll). count (listed x) r'.below) d.roll in
      let le = w.2 (omega arith) in
      (hush_sound meaning sound r r' h w.0 w.1 d.roll, hush_silenced meaning keeps_none r r' w.1 d.roll, bound (count (notes_of r) r.below) (count (notes_of r) r'.below) le same)
    where
      bound : (m j : ℕ) → j + (m - most) ≤ m → count (notes_of r') r'.below ≡ j → count (notes_of r') r'.below ≤ most
      bound m j le e = omega arith

  -- a call handed on: only a start adds a note that sounds
  abbrev pub starts : Call → ℕ
  starts (Start p c k v) = 1
  starts (Release p t v) = 0
  starts (Hush p t) = 0
  starts (Tell p c n v) = 0
  starts (Set p d i v) = 0
  starts (Clear p) = 0

  module _ (r r' : Rolled S) (h : RollSound meaning sound r) where
    abbrev m : Meaning
    m = meaning r.below

    abbrev m' : Meaning
    m' = meaning r'.below

    fewer_after : (k : ℕ) → r'.roll ≡ r.roll → ((u : ℕ) → lists (notes_of r) u ≡ true → m'.sounding u ≡ true → m.sounding u ≡ true) → count (notes_of r') r'.below ≤ count (notes_of r) r.below + k
    fewer_after k e f =
        let same = ap (λ (x : Roll). count (listed x) r'.below) e in
        let le = fewer m'.sounding m.sounding (notes_of r) f in
        omega arith

    as_before : (k : ℕ) → r'.roll ≡ r.roll → r'.below ≡ r.below → count (notes_of r') r'.below ≤ count (notes_of r) r.below + k
    as_before k e q = fewer_after k e (λ u _ g. sym (ap (λ z. (meaning z).sounding u) q) ∙ g)

    ended_silent : (t u : ℕ) → Ended m t m' → m'.sounding u ≡ true → m.sounding u ≡ true
    ended_silent t u d = same_or (λ v. m'.sounding v ≡ true → m.sounding v ≡ true) t u d.stays_silent (λ f q. sym (d.sounding u f) ∙ q)

    pub count_after : (c : Call) (b : Answer F) → Means sees meaning r.below c b r'.below → RollAfter c (passed b) r.roll r'.roll → count (notes_of r') r'.below ≤ count (notes_of r) r.below + starts c
    count_after (Start p c k v) (ticket t) d j =
        let n = new_note t c k v in
        let same = ap (λ l. count l r'.below) j in
        let le = join (full (notes_of r)) m'.sounding (notes_of r) n in
        let lf = fewer m'.sounding m.sounding (notes_of r) (λ u e. d.1.others u (new u e (t == u) refl)) in
        omega arith
      where
        new : (u : ℕ) → lists (notes_of r) u ≡ true → (b : Bool) → (t == u) ≡ b → b ≡ false
        new u e true q = clash (m.owed t) (h.exact t ∙ ap (lists (notes_of r)) (eqb-true t u q) ∙ e) d.1.not_owed
        new u e false q = refl
    count_after (Start p c k v) done d j = absurd d
    count_after (Start p c k v) (denied f) d j = as_before 1 j d.same
    count_after (Release p t v) (ticket x) d j = absurd d
    count_after (Release p t v) done d j =
        let same = ap (λ l. count l r'.below) j in
        let le = leave m'.sounding (picked (Ticket t)) (notes_of r) in
        let lf = fewer m'.sounding m.sounding (notes_of r) (λ u _. ended_silent t u d.1) in
        omega arith
    count_after (Release p t v) (denied f) d j = as_before 0 j d.same
    count_after (Hush p t) (ticket x) d j = absurd d
    count_after (Hush p t) done d j = fewer_after 0 j (λ u _ e. (and_parts (m.sounding u) (not (t == u)) (sym (d.sounding u) ∙ e)).0)
    count_after (Hush p t) (denied f) d j = as_before 0 j d.same
    count_after (Tell p c n v) (ticket x) d j = absurd d
    count_after (Tell p c n v) done d j = fewer_after 0 j (λ u _. d.1.sounding u)
    count_after (Tell p c n v) (denied f) d j = as_before 0 j d.same
    count_after (Set p e i v) (ticket x) d j = absurd d
    count_after (Set p e i v) done d j = fewer_after 0 j (λ u _. d.sounding u)
    count_after (Set p e i v) (denied f) d j = as_before 0 j d.same
    count_after (Clear p) (ticket x) d j = absurd d
    count_after (Clear p) done d j = fewer_after 0 j (λ u e f. sym (d.sounding u (h.exact u ∙ e)) ∙ f)
    count_after (Clear p) (denied f) d j = absurd d

-- no more owed tickets sound than notes of the roll do
pub at_most : {S : Type 0} {meaning : S → Meaning} {sound : S → Type 0} (r : Rolled S) (k : ℕ) → RollSound meaning sound r → sounding_count meaning (notes_of r) r.below ≤ k → AtMost k (rolled_meaning keeps_none meaning r)
at_most {S} {meaning} r k h few ks once each =
    let le = no_more ks (sounding_among (meaning r.below).sounding (notes_of r)) once (λ u e. sounds_among (meaning r.below).sounding (notes_of r) u (sym (h.exact u) ∙ (and_parts ((meaning r.below).owed u) true (and_parts ((meaning r.below).owed u && true) ((meaning r.below).sounding u) (each u e)).0).0) (and_parts ((meaning r.below).owed u && true) ((meaning r.below).sounding u) (each u e)).1) in
    omega arith

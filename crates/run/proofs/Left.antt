-- No run leaves a note: by induction on its past, from the laws of the sink alone.
use Rattle.std.proofs.Common.{◌≡◌, ℕ, ◌+◌, ◌*◌, ◌<◌, ◌≤◌, true, false, ◌||◌, leb, ◌⊎◌, List, [], ◌∷◌, ◌++◌, length, set, replicate, Some, None, Option, sym, refl, ap, ◌∙◌, subst, ap₂, inl, inr, append_assoc, append-nil, arith, length-append, get_or-set_same}
use mathlib.Core.Path.{subst₃}
use native.Mathlib.Decide.{ℕ_discrete}
use Rattle.std.proofs.lemmas.Bool.Decides.{nat_tests}
use Rattle.std.specs.List.{AllByRecursion}
use Rattle.sink.specs.declared.fault.refusal.Refusal
use Rattle.sink.specs.declared.sink.Sink
use Rattle.sink.specs.Calls.{startable, Call, Start, Release, Hush, Tell, Set, Clear, Answer, ticket, done, denied}
use Rattle.sink.specs.Meaning.{Meaning, Idle, Orderly, Means}
use Rattle.sink.specs.Faults.{Denial}
use Rattle.sink.specs.Ends.{Each, clean, complete}
use Rattle.reader.specs.declared.items.Message.{Message}
use Rattle.reader.specs.declared.items.Message.TheVariants as m
use Rattle.reader.specs.declared.states.State.TheVariants as s
use Rattle.reader.specs.Rules.{Reading, message, part, reads, reaches}
use Rattle.reader.specs.Ranges.{Ranged}
use Rattle.reader.proofs.Joins.{states_join}
use Rattle.run.specs.declared.counts.Counts.{Counts}
use Rattle.run.specs.declared.counts.Tally.{Tally}
use Rattle.run.specs.declared.player.acts.ControlUse.{ControlUse}
use Rattle.run.specs.declared.player.acts.ControlUse.TheVariants as use_is
use Rattle.run.specs.declared.player.Player.{Player}
use Rattle.run.specs.declared.runs.Run.{Run}
use Rattle.run.specs.Counting.{fresh, tally_of, returned_by, started_by, strayed, passed_over, spot, at, entered, use_of}
use Rattle.run.specs.Steps.{Event, start, release, InRanges, unchanged, Returned, Counted, Started, Called, Emptied, Swept, swept_none, swept_more, SweptThen, OnNoteOn, OnNoteOff, OnControl, OnMessage, OnReading, Played, played_none, played_more}
use Rattle.run.specs.Past.{taken_in, denied_in, returned_in, number, Fair, tickets, Owes, Closed, Past, opened, fed, fed_denied, set as setting, tallied, Stands, Rests, Closes, NoNoteLeft}
use Rattle.run.proofs.Notes.{on_count, on_counts, counts_append, counts_join}
use Rattle.run.proofs.Tables.{none_some, true_false, false_if, in_table, emptied, filled, no_tickets, none_at, written, owes_ended, owes_began, owes_same, owes_none}

number_append : {F : Type 0} (of : Event F → ℕ) (es fs : List (Event F)) → number of (es ++ fs) ≡ number of es + number of fs
number_append of [] fs = omega arith
number_append of (e ∷ es) fs = omega (arith, number_append of es fs)

every_append : {F : Type 0} (sees : F → Denial) (es fs : List (Event F)) → AllByRecursion (Fair sees) es → AllByRecursion (Fair sees) fs → AllByRecursion (Fair sees) (es ++ fs)
every_append sees [] fs p q = q
every_append sees (e ∷ es) fs p q = (p.0, every_append sees es fs p.1 q)

-- a call by which nothing is started or given back
abbrev Calm : Call → Type 0
Calm (Start p c k v) = ⊥
Calm (Release p t v) = ⊥
Calm (Hush p t) = ⊥
Calm (Tell p c n v) = Unit {0}
Calm (Set p d n v) = Unit {0}
Calm (Clear p) = Unit {0}

ranged_in : (c k v : ℕ) → c < 16 → k < 128 → 0 < v → v < 128 → startable c k v ≡ true
ranged_in c k v hc hk lv hv = grind (arith, nat_tests)

-- what is neither owed nor kept does not sound
silent : (m : Meaning) (u : ℕ) → Orderly m → m.owed u ≡ false → m.kept u ≡ false → m.sounding u ≡ false
silent m u o owed kept = false_if (m.sounding u) (λ e. true_false (o.sounding u e) (ap₂ (λ a b. a || b) owed kept))

low_velocity : (v : ℕ) → v < 128 → leb v 127 ≡ true
low_velocity v h = grind (arith, nat_tests)

-- the laws of a sink, at the ghosts of a run
pub record Law {S F : Type 0} (gs : Sink.Ghosts S F) (gf : Refusal.Ghosts F) : Type 0 where
  pub orderly : (s : S) → gs.sound s → Orderly (gs.meaning s)
  pub stays : (s : S) (c : Call) (a : Answer F) (t : S) → gs.sound s → gs.does s c a t → gs.sound t
  pub means : (s : S) (c : Call) (a : Answer F) (t : S) → gs.sound s → gs.does s c a t → Means gf.denial gs.meaning s c a t
  pub cleanly : (s : S) → gs.sound s → Each clean (gs.ends s)
  pub completes : (s : S) → gs.sound s → ((u : ℕ) → (gs.meaning s).sounding u ≡ false) → Each complete (gs.ends s)

module _ {S F : Type 0} (gs : Sink.Ghosts S F) (gf : Refusal.Ghosts F) (law : Law gs gf) where
  record Good (s : S) (T : List (Option ℕ)) (y : Counts F) (es : List (Event F)) : Type 0 where
    healthy : gs.sound s
    owes : Owes (gs.meaning s) T
    starts : y.note_ons ≡ y.taken + y.denied
    tickets : y.taken ≡ y.returned + tickets T
    taken : y.taken ≡ number taken_in es
    denied : y.denied ≡ number denied_in es
    returned : y.returned ≡ number returned_in es
    fair : AllByRecursion (Fair gf.denial) es

  abbrev GoodAt : Player S F gs gf → List (Event F) → Type 0
  GoodAt b es = Good b.stack b.table b.counts es

  carried : {s : S} {T T' : List (Option ℕ)} {y y' : Counts F} {es es' : List (Event F)} → T' ≡ T → y' ≡ y → es' ≡ es → Good s T y es → Good s T' y' es'
  carried {s} p q r good = subst₃ (λ T y es. Good s T y es) (sym p) (sym q) (sym r) good

  -- from a good player, with more events, to a good player, n Note-ons later
  abbrev Grows : Player S F gs gf → List (Event F) → Player S F gs gf → ℕ → Type 0
  Grows b fs b' n = (es : List (Event F)) → GoodAt b es → GoodAt b' (es ++ fs) × (b'.counts.note_ons ≡ b.counts.note_ons + n)

  then_grows : (b b₁ b' : Player S F gs gf) (es fs : List (Event F)) (n k : ℕ) → Grows b es b₁ n → Grows b₁ fs b' k → Grows b (es ++ fs) b' (n + k)
  then_grows b b₁ b' es fs n k p q ds good =
      let one = p ds good in
      let two = q (ds ++ es) one.0 in
      (carried refl refl (sym (append_assoc ds es fs)) two.0, omega (arith, one.1, two.1))

  -- what a calm call leaves
  calm_owed : (c : Call) (a : Answer F) (s t : S) → Calm c → gs.sound s → gs.does s c a t → (u : ℕ) → (gs.meaning t).owed u ≡ (gs.meaning s).owed u
  calm_owed (Start p c k v) a s t calm ok d u = absurd calm
  calm_owed (Release p x v) a s t calm ok d u = absurd calm
  calm_owed (Hush p x) a s t calm ok d u = absurd calm
  calm_owed (Tell p c n v) (ticket x) s t calm ok d u = absurd (law.means s (Tell p c n v) (ticket x) t ok d)
  calm_owed (Tell p c n v) done s t calm ok d u = (law.means s (Tell p c n v) done t ok d).1.owed u
  calm_owed (Tell p c n v) (denied f) s t calm ok d u = ap (λ x. (gs.meaning x).owed u) (law.means s (Tell p c n v) (denied f) t ok d).same
  calm_owed (Set p e n v) (ticket x) s t calm ok d u = absurd (law.means s (Set p e n v) (ticket x) t ok d)
  calm_owed (Set p e n v) done s t calm ok d u = (law.means s (Set p e n v) done t ok d).owed u
  calm_owed (Set p e n v) (denied f) s t calm ok d u = ap (λ x. (gs.meaning x).owed u) (law.means s (Set p e n v) (denied f) t ok d).same
  calm_owed (Clear p) (ticket x) s t calm ok d u = absurd (law.means s (Clear p) (ticket x) t ok d)
  calm_owed (Clear p) done s t calm ok d u = (law.means s (Clear p) done t ok d).owed u
  calm_owed (Clear p) (denied f) s t calm ok d u = absurd (law.means s (Clear p) (denied f) t ok d)

  cleared_kept : (p : ℕ) (a : Answer F) (s t : S) → gs.sound s → gs.does s (Clear p) a t → (u : ℕ) → (gs.meaning t).kept u ≡ false
  cleared_kept p (ticket x) s t ok d u = absurd (law.means s (Clear p) (ticket x) t ok d)
  cleared_kept p done s t ok d u = (law.means s (Clear p) done t ok d).kept u
  cleared_kept p (denied f) s t ok d u = absurd (law.means s (Clear p) (denied f) t ok d)

  told_grows : {b b' : Player S F gs gf} {fs : List (Event F)} (c : Call) → Calm c → Called c b fs b' → Grows b fs b' 0
  told_grows {b} {b'} c calm told es good = (
    carried told.table told.counts (ap (λ l. es ++ l) told.events ∙ append-nil es)
        (record {
          healthy = law.stays b.stack c told.answer b'.stack good.healthy told.call;
          owes = owes_same _ _ _ (calm_owed c told.answer b.stack b'.stack calm good.healthy told.call) good.owes;
          starts = good.starts;
          tickets = good.tickets;
          taken = good.taken;
          denied = good.denied;
          returned = good.returned;
          fair = good.fair;
        }),
    omega (arith, ap (λ y. y.note_ons) told.counts),
  )

  -- only what is not spoken of is counted
  record Plain (f : Counts F → Counts F) : Type 0 where
    note_ons : (y : Counts F) → (f y).note_ons ≡ y.note_ons
    taken : (y : Counts F) → (f y).taken ≡ y.taken
    denied : (y : Counts F) → (f y).denied ≡ y.denied
    returned : (y : Counts F) → (f y).returned ≡ y.returned

  noted_grows : {b b' : Player S F gs gf} {fs : List (Event F)} (f : Counts F → Counts F) → Plain f → Counted f b fs b' → Grows b fs b' 0
  noted_grows {b} {b'} f plain noted es good =
      let y = b.counts in (
        carried noted.table noted.counts (ap (λ l. es ++ l) noted.events ∙ append-nil es)
            (record {
              healthy = subst gs.sound (sym noted.stack) good.healthy;
              owes = subst (λ p. Owes (gs.meaning p) b.table) (sym noted.stack) good.owes;
              starts = omega (arith, good.starts, plain.note_ons y, plain.taken y, plain.denied y);
              tickets = omega (arith, good.tickets, plain.taken y, plain.returned y);
              taken = plain.taken y ∙ good.taken;
              denied = plain.denied y ∙ good.denied;
              returned = plain.returned y ∙ good.returned;
              fair = good.fair;
            }),
        omega (arith, ap (λ z. z.note_ons) noted.counts, plain.note_ons y),
      )

  plain_same : Plain unchanged
  plain_same = record { note_ons = λ y. refl; taken = λ y. refl; denied = λ y. refl; returned = λ y. refl }

  plain_stray : Plain strayed
  plain_stray = record { note_ons = λ y. refl; taken = λ y. refl; denied = λ y. refl; returned = λ y. refl }

  plain_passed : Plain passed_over
  plain_passed = record { note_ons = λ y. refl; taken = λ y. refl; denied = λ y. refl; returned = λ y. refl }

  -- ---- a ticket given back

  gave_by : (b b' : Player S F gs gf) (p i t v : ℕ) (es : List (Event F)) (a : Answer F) → v < 128 → GoodAt b es → at b.table i ≡ Some t → gs.does b.stack (Release p t v) a b'.stack → Good b'.stack (set b.table i None) (returned_by a b.counts) (es ++ (release t a ∷ [])) × ((returned_by a b.counts).note_ons ≡ b.counts.note_ons + 0)
  gave_by b b' p i t v es (ticket x) h good held d = absurd (law.means b.stack (Release p t v) (ticket x) b'.stack good.healthy d)
  gave_by b b' p i t v es (denied f) h good held d =
      absurd (true_false (good.owes.owed i t held) ((law.means b.stack (Release p t v) (denied f) b'.stack good.healthy d).because.1 (low_velocity v h)).0)
  gave_by b b' p i t v es done h good held d =
      let ended = (law.means b.stack (Release p t v) done b'.stack good.healthy d).1 in (
        record {
          healthy = law.stays b.stack (Release p t v) done b'.stack good.healthy d;
          owes = owes_ended _ _ b.table i t good.owes held ended;
          starts = good.starts;
          tickets = omega (arith, good.tickets, emptied b.table i t held);
          taken = omega (arith, good.taken, number_append taken_in es (release t done ∷ []));
          denied = omega (arith, good.denied, number_append denied_in es (release t done ∷ []));
          returned = omega (arith, good.returned, number_append returned_in es (release t done ∷ []));
          fair = every_append gf.denial es (release t done ∷ []) good.fair (refl, tt);
        },
        omega arith,
      )

  gave_grows : {b b' : Player S F gs gf} {fs : List (Event F)} (p i t v : ℕ) → v < 128 → Returned p i t v b fs b' → Grows b fs b' 0
  gave_grows {b} {b'} p i t v h back es good =
      let one = gave_by b b' p i t v es back.answer h good back.held back.call in
      (carried back.table back.counts (ap (λ l. es ++ l) back.events) one.0, ap (λ y. y.note_ons) back.counts ∙ one.1)

  lifted_grows : {b b' : Player S F gs gf} {fs : List (Event F)} (p i : ℕ) → Emptied p i b fs b' → Grows b fs b' 0
  lifted_grows p i (inl x) = noted_grows unchanged plain_same x.1
  lifted_grows p i (inr x) = gave_grows p i x.0 64 (omega arith) x.1

  -- ---- which places are empty after it

  lifted_empties : {b b' : Player S F gs gf} {fs : List (Event F)} (p i : ℕ) → Emptied p i b fs b' → at b'.table i ≡ None
  lifted_empties p i (inl x) = ap (λ T. at T i) x.1.table ∙ x.0
  lifted_empties {b} p i (inr x) = ap (λ T. at T i) x.1.table ∙ get_or-set_same b.table i None None (in_table b.table i x.0 x.1.held)

  lifted_leaves : {b b' : Player S F gs gf} {fs : List (Event F)} (p i j : ℕ) → Emptied p i b fs b' → at b.table j ≡ None → at b'.table j ≡ None
  lifted_leaves p i j (inl x) free = ap (λ T. at T j) x.1.table ∙ free
  lifted_leaves {b} p i j (inr x) free = ap (λ T. at T j) x.1.table ∙ go (written b.table i j None (in_table b.table i x.0 x.1.held))
    where
      go : ((j ≡ i) × (at (set b.table i None) j ≡ None)) ⊎ ((j ≡ i → ⊥) × (at (set b.table i None) j ≡ at b.table j)) → at (set b.table i None) j ≡ None
      go (inl q) = q.1
      go (inr q) = q.1 ∙ free

  swept_grows : (p from to : ℕ) {b b' : Player S F gs gf} {fs : List (Event F)} → Swept p from to b fs b' → Grows b fs b' 0
  swept_grows p from _ swept_none es good = (carried refl refl (append-nil es) good, omega arith)
  swept_grows p from _ (swept_more {i} {b} {b₁} {b'} {es} {es₁} before lifted) ds good = then_grows b b₁ b' es es₁ 0 0 (swept_grows p from i before) (lifted_grows p i lifted) ds good

  swept_empties : (p from to : ℕ) {b b' : Player S F gs gf} {fs : List (Event F)} → Swept p from to b fs b' → (j : ℕ) → from ≤ j → j < to → at b'.table j ≡ None
  swept_empties p from _ swept_none j low high = absurd (omega arith)
  swept_empties p from _ (swept_more {i} {b} {b₁} {b'} before lifted) j low high = go (swept_empties p from i before j low) (ℕ_discrete j i)
    where
      go : (j < i → at b₁.table j ≡ None) → Dec (j ≡ i) → at b'.table j ≡ None
      go ih (yes e) = ap (at b'.table) e ∙ lifted_empties p i lifted
      go ih (no ne) = lifted_leaves p i j lifted (ih (omega arith))

  dropped_grows : {b b' : Player S F gs gf} {fs : List (Event F)} (p from to : ℕ) (c : Call) → Calm c → SweptThen p from to c b fs b' → Grows b fs b' 0
  dropped_grows p from to c calm dropped es good =
      let one = swept_grows p from to dropped.swept es good in
      let two = told_grows c calm dropped.called (es ++ _) one.0 in
      (carried refl refl (sym (append-nil _)) two.0, omega (arith, one.1, two.1))

  -- ---- a note started

  struck_by : (b b' : Player S F gs gf) (p c k v : ℕ) (es : List (Event F)) (a : Answer F) → startable c k v ≡ true → spot c k < length b.table → at b.table (spot c k) ≡ None → GoodAt b es → gs.does b.stack (Start p c k v) a b'.stack → Good b'.stack (entered (spot c k) a b.table) (started_by p c k a b.counts) (es ++ (start (gs.meaning b.stack).ready a ∷ [])) × ((started_by p c k a b.counts).note_ons ≡ b.counts.note_ons + 1)
  struck_by b b' p c k v es done ranged fits free good d = absurd (law.means b.stack (Start p c k v) done b'.stack good.healthy d)
  struck_by b b' p c k v es (ticket t) ranged fits free good d =
      let began = (law.means b.stack (Start p c k v) (ticket t) b'.stack good.healthy d).1 in
      let e = start (gs.meaning b.stack).ready (ticket t) in (
        record {
          healthy = law.stays b.stack (Start p c k v) (ticket t) b'.stack good.healthy d;
          owes = owes_began _ _ b.table (spot c k) t good.owes fits free began;
          starts = omega (arith, good.starts);
          tickets = omega (arith, good.tickets, filled b.table (spot c k) t fits free);
          taken = omega (arith, good.taken, number_append taken_in es (e ∷ []));
          denied = omega (arith, good.denied, number_append denied_in es (e ∷ []));
          returned = omega (arith, good.returned, number_append returned_in es (e ∷ []));
          fair = every_append gf.denial es (e ∷ []) good.fair (began.was_ready, tt);
        },
        omega arith,
      )
  struck_by b b' p c k v es (denied f) ranged fits free good d =
      let told = law.means b.stack (Start p c k v) (denied f) b'.stack good.healthy d in
      let e = start (gs.meaning b.stack).ready (denied f) in (
        record {
          healthy = law.stays b.stack (Start p c k v) (denied f) b'.stack good.healthy d;
          owes = subst (λ s. Owes (gs.meaning s) b.table) (sym told.same) good.owes;
          starts = omega (arith, good.starts);
          tickets = good.tickets;
          taken = omega (arith, good.taken, number_append taken_in es (e ∷ []));
          denied = omega (arith, good.denied, number_append denied_in es (e ∷ []));
          returned = omega (arith, good.returned, number_append returned_in es (e ∷ []));
          fair = every_append gf.denial es (e ∷ []) good.fair (told.because.1 ranged, tt);
        },
        omega arith,
      )

  struck_grows : {b b' : Player S F gs gf} {fs : List (Event F)} (p c k v : ℕ) → (c < 16) × (k < 128) × (0 < v) × (v < 128) → at b.table (spot c k) ≡ None → Started p c k v b fs b' → Grows b fs b' 1
  struck_grows {b} {b'} p c k v h free struck es good =
      let one = struck_by b b' p c k v es struck.answer (ranged_in c k v h.0 h.1 h.2 h.3) (omega (arith, b.long, h.0, h.1)) free good struck.call in
      (carried struck.table struck.counts (ap (λ l. es ++ l) struck.events) one.0, ap (λ y. y.note_ons) struck.counts ∙ one.1)

  on_grows : {b b' : Player S F gs gf} {fs : List (Event F)} (p c k v : ℕ) → (c < 16) × (k < 128) × (0 < v) × (v < 128) → OnNoteOn p c k v b fs b' → Grows b fs b' 1
  on_grows {b} {b'} p c k v h step es good =
      let both = then_grows b step.between b' step.before step.after 0 1 (lifted_grows p (spot c k) step.emptied) (struck_grows p c k v h (lifted_empties p (spot c k) step.emptied) step.started) es good in
      (carried refl refl (ap (λ l. es ++ l) step.events) both.0, both.1)

  off_grows : {b b' : Player S F gs gf} {fs : List (Event F)} (p c k v : ℕ) → v < 128 → OnNoteOff p c k v b fs b' → Grows b fs b' 0
  off_grows p c k v h (inl x) = noted_grows strayed plain_stray x.1
  off_grows p c k v h (inr x) = gave_grows p (spot c k) x.0 v h x.1

  worked_grows : (b b' : Player S F gs gf) (fs : List (Event F)) (w : ControlUse) (p c n v : ℕ) → OnControl w p c n v b fs b' → Grows b fs b' 0
  worked_grows b b' fs use_is.Tell p c n v step = told_grows (Tell p c n v) tt step
  worked_grows b b' fs use_is.ReleaseAndTell p c n v step = dropped_grows p (128 * c) (128 * c + 128) (Tell p c n v) tt step
  worked_grows b b' fs use_is.PassOver p c n v step = noted_grows passed_over plain_passed step

  acted_grows : (b b' : Player S F gs gf) (fs : List (Event F)) (p : ℕ) (x : Message) → Ranged x → OnMessage p x b fs b' → Grows b fs b' (on_count (message p x))
  acted_grows b b' fs p m.Reset h step = dropped_grows p 0 2048 (Clear p) tt step
  acted_grows b b' fs p m.Undefined h step = noted_grows unchanged plain_same step
  acted_grows b b' fs p (m.RealTime x) h step = noted_grows unchanged plain_same step
  acted_grows b b' fs p m.Cut h step = noted_grows unchanged plain_same step
  acted_grows b b' fs p m.ExclusiveBegun h step = noted_grows unchanged plain_same step
  acted_grows b b' fs p (m.ExclusiveEnded x) h step = noted_grows unchanged plain_same step
  acted_grows b b' fs p m.TuneRequest h step = noted_grows unchanged plain_same step
  acted_grows b b' fs p m.Stray h step = noted_grows unchanged plain_same step
  acted_grows b b' fs p (m.Program c v) h step = noted_grows passed_over plain_passed step
  acted_grows b b' fs p (m.ChannelPressure c v) h step = noted_grows passed_over plain_passed step
  acted_grows b b' fs p (m.NoteOff c k v) h step = off_grows p c k v h.2 step
  acted_grows b b' fs p (m.NoteOn c k v) h step = on_grows p c k v h step
  acted_grows b b' fs p (m.KeyPressure c k v) h step = noted_grows passed_over plain_passed step
  acted_grows b b' fs p (m.Control c n v) h step = worked_grows b b' fs (use_of n) p c n v step
  acted_grows b b' fs p (m.Bend c v) h step = noted_grows passed_over plain_passed step
  acted_grows b b' fs p (m.QuarterFrame v) h step = noted_grows unchanged plain_same step
  acted_grows b b' fs p (m.SongSelect v) h step = noted_grows unchanged plain_same step
  acted_grows b b' fs p (m.SongPosition v) h step = noted_grows unchanged plain_same step

  heeded_grows : (b b' : Player S F gs gf) (fs : List (Event F)) (h : Reading) → InRanges h → OnReading h b fs b' → Grows b fs b' (on_count h)
  heeded_grows b b' fs (part p xs) ranged step = noted_grows unchanged plain_same step
  heeded_grows b b' fs (message p x) ranged step = acted_grows b b' fs p x ranged step

  played_grows : {hs : List Reading} {b b' : Player S F gs gf} {fs : List (Event F)} → Played hs b fs b' → Grows b fs b' (on_counts hs)
  played_grows played_none es good = (carried refl refl (append-nil es) good, omega arith)
  played_grows (played_more h {rs = hs} {b} {b₁} {b'} {es} es₁ before ranged step) ds good =
      let both = then_grows b b₁ b' es es₁ (on_counts hs) (on_count h) (played_grows before) (heeded_grows b₁ b' es₁ h ranged step) ds good in
      (both.0, omega (arith, both.1, counts_append hs (h ∷ [])))

  -- ---- every past

  record Kept (r : Run S F gs gf) (bytes : List ℕ) (es : List (Event F)) : Type 0 where
    good : GoodAt r.player es
    state : r.reader.state ≡ reaches s.Idle bytes
    count : r.count ≡ length bytes
    ons : r.player.counts.note_ons ≡ on_counts (reads s.Idle 0 bytes)

  good_fresh : (stack : S) (n : ℕ) → gs.sound stack → Idle (gs.meaning stack) → Good stack (replicate n None) fresh []
  good_fresh stack n ok idle = record {
    healthy = ok;
    owes = owes_none (gs.meaning stack) n idle;
    starts = refl;
    tickets = omega (arith, no_tickets (replicate n None) (λ j t e. none_some (none_at n j) e));
    taken = refl;
    denied = refl;
    returned = refl;
    fair = tt;
  }

  past_kept : {r : Run S F gs gf} {bytes : List ℕ} {es : List (Event F)} → Past r bytes es → Kept r bytes es
  past_kept (opened {r} stack ok idle new) = record {
    good = subst (λ x. Good x r.player.table r.player.counts []) (sym new.stack) (carried new.table new.counts refl (good_fresh stack 2048 ok idle));
    state = new.state;
    count = new.count;
    ons = ap (λ y. y.note_ons) new.counts;
  }
  past_kept (fed {r} {r'} {bytes} {es} {es'} piece before step) =
      let k = past_kept before in
      let one = played_grows step.played es k.good in
      let join = counts_join s.Idle 0 bytes piece in
      let from : r.count ≡ 0 + length bytes = omega (arith, k.count) in
      let here : on_counts (reads r.reader.state r.count piece) ≡ on_counts (reads (reaches s.Idle bytes) (0 + length bytes) piece) =
      ap (λ st. on_counts (reads st r.count piece)) k.state ∙ ap (λ n. on_counts (reads (reaches s.Idle bytes) n piece)) from in
      record {
        good = one.0;
        state = step.state ∙ ap (λ x. reaches x piece) k.state ∙ states_join s.Idle bytes piece;
        count = omega (arith, step.count, k.count, length-append bytes piece);
        ons = omega (arith, one.1, k.ons, join, here);
      }
  past_kept (fed_denied {r} {r'} {bytes} {es} e piece before step) = subst (λ x. Kept x bytes es) (sym step.1) (past_kept before)
  past_kept (setting {r} {r'} {bytes} {es} {a} depth item value before step) =
      let k = past_kept before in
      let told : Called (Set r.count depth item value) r.player [] r'.player = record { answer = a; call = step.call; table = step.table; counts = step.counts; events = refl } in
      let one = told_grows (Set r.count depth item value) tt told es k.good in
      record {
        good = carried refl refl (sym (append-nil es)) one.0;
        state = step.state ∙ k.state;
        count = step.count ∙ k.count;
        ons = ap (λ y. y.note_ons) step.counts ∙ k.ons;
      }
  past_kept (tallied before) = past_kept before

  stands_by : (b : Player S F gs gf) (bytes : List ℕ) (es : List (Event F)) → GoodAt b es → b.counts.note_ons ≡ on_counts (reads s.Idle 0 bytes) → Stands b bytes es
  stands_by b bytes es good ons = record {
    owes = good.owes;
    agree = record { note_ons = ons; starts = good.starts; tickets = good.tickets; taken = good.taken; denied = good.denied; returned = good.returned; fair = good.fair };
    clean = law.cleanly b.stack good.healthy;
  }

  rests_by : (b : Player S F gs gf) (es : List (Event F)) (tally : Tally F) (stack : S) → GoodAt b es → ((j t : ℕ) → at b.table j ≡ Some t → ⊥) → ((u : ℕ) → (gs.meaning b.stack).kept u ≡ false) → (n : ℕ) → tally ≡ tally_of n b.counts → stack ≡ b.stack → Rests gs stack tally
  rests_by b es tally stack good empty kept n answered at_last =
      subst (λ p. Rests gs p tally) (sym at_last) (record {
        sound_left = good.healthy;
        idle = record { owed = owed; kept = kept; sounding = sounding };
        even = ap (λ y. y.taken) answered ∙ even ∙ sym (ap (λ y. y.returned) answered);
        complete = law.completes b.stack good.healthy sounding;
      })
    where
      owed : (u : ℕ) → (gs.meaning b.stack).owed u ≡ false
      owed u = false_if _ (λ e. empty (good.owes.listed u e).0 u (good.owes.listed u e).1)

      sounding : (u : ℕ) → (gs.meaning b.stack).sounding u ≡ false
      sounding u = silent (gs.meaning b.stack) u (law.orderly b.stack good.healthy) (owed u) (kept u)

      even : b.counts.taken ≡ b.counts.returned
      even = omega (arith, good.tickets, no_tickets b.table empty)

  closes : (r : Run S F gs gf) (bytes : List ℕ) (es es' : List (Event F)) (b : Player S F gs gf) (tally : Tally F) (stack : S) → Kept r bytes es → Closed r es' b tally stack → Closes bytes (es ++ es') b tally stack
  closes r bytes es es' b tally stack k closed =
      let dropped = closed.swept in
      let one = dropped_grows r.count 0 2048 (Clear r.count) tt dropped es k.good in
      record {
        stands = stands_by b bytes (es ++ es') one.0 (omega (arith, one.1, k.ons));
        rests = rests_by b (es ++ es') tally stack one.0 empty kept r.count closed.answered closed.stack;
      }
    where
      empty : (j t : ℕ) → at b.table j ≡ Some t → ⊥
      empty j t e = none_some (ap (λ T. at T j) closed.swept.called.table ∙ swept_empties r.count 0 2048 closed.swept.swept j (omega arith) (omega (arith, in_table b.table j t e, b.long))) e

      kept : (u : ℕ) → (gs.meaning b.stack).kept u ≡ false
      kept = cleared_kept r.count closed.swept.called.answer closed.swept.between.stack b.stack (swept_grows r.count 0 2048 closed.swept.swept es k.good).0.healthy closed.swept.called.call

  pub no_note_left : NoNoteLeft gs gf
  no_note_left r bytes es past =
      let k = past_kept past in
      (stands_by r.player bytes es k.good k.ons, λ es' b tally stack closed. closes r bytes es es' b tally stack k closed)

-- Every past of a run, and what is true after it.
use Rattle.std.specs.Prelude.{◌≡◌, ℕ, ◌+◌, ◌<◌, ◌≤◌, true, List, [], ◌∷◌, ◌++◌, length, replicate, ℤ, Some, None, Ok, Err, Option, Result}
use Rattle.std.specs.List.{AllByRecursion}
use Rattle.sink.specs.declared.fault.refusal.Refusal
use Rattle.sink.specs.declared.sink.Sink
use Rattle.sink.specs.Calls.{Set, Clear, Answer, ticket, done, denied}
use Rattle.sink.specs.Meaning.{Meaning, is_ready, refuses, Idle}
use Rattle.sink.specs.Faults.{Denial}
use Rattle.sink.specs.Ends.{Each, clean, complete}
use Rattle.reader.specs.Rules.{reads, reaches}
use Rattle.reader.specs.Laws.{note_ons_of}
use Rattle.reader.specs.declared.states.State.TheVariants as s
use Rattle.run.specs.declared.counts.Counts.{Counts}
use Rattle.run.specs.declared.counts.Tally.{Tally}
use Rattle.run.specs.declared.counts.TooManyBytes.{TooManyBytes}
use Rattle.run.specs.declared.player.Player.{Player}
use Rattle.run.specs.declared.runs.Run.{Run}
use Rattle.run.specs.Counting.{fresh, tally_of, at}
use Rattle.run.specs.Steps.{Event, start, release, Played, SweptThen}

-- ---- counting events

abbrev pub taken_in : {F : Type 0} → Event F → ℕ
taken_in (start rd (ticket t)) = 1
taken_in (start rd done) = 0
taken_in (start rd (denied f)) = 0
taken_in (release t a) = 0

abbrev pub denied_in : {F : Type 0} → Event F → ℕ
denied_in (start rd (ticket t)) = 0
denied_in (start rd done) = 0
denied_in (start rd (denied f)) = 1
denied_in (release t a) = 0

abbrev pub returned_in : {F : Type 0} → Event F → ℕ
returned_in (start rd a) = 0
returned_in (release t (ticket u)) = 0
returned_in (release t done) = 1
returned_in (release t (denied f)) = 0

abbrev pub number : {F : Type 0} → (Event F → ℕ) → List (Event F) → ℕ
number of [] = 0
number of (e ∷ es) = of e + number of es

-- no release is denied; a start is denied exactly when the stack is not ready at that moment, and for that reason
abbrev pub Fair : {F : Type 0} → (F → Denial) → Event F → Type 0
Fair sees (start rd (ticket t)) = rd ≡ is_ready
Fair sees (start rd done) = ⊥
Fair sees (start rd (denied f)) = rd ≡ refuses (sees f)
Fair sees (release t a) = a ≡ done

abbrev pub one_if : Option ℕ → ℕ
one_if None = 0
one_if (Some t) = 1

-- how many tickets are in the key table
abbrev pub tickets : List (Option ℕ) → ℕ
tickets [] = 0
tickets (o ∷ T) = one_if o + tickets T

-- ---- the sentences

-- the stack owes just the tickets that stand in the key table, each at one place of it
pub record Owes (m : Meaning) (T : List (Option ℕ)) : Type 0 where
  pub listed : (t : ℕ) → m.owed t ≡ true → (i : ℕ) × (at T i ≡ Some t)
  pub owed : (i t : ℕ) → at T i ≡ Some t → m.owed t ≡ true
  pub once : (i j t : ℕ) → at T i ≡ Some t → at T j ≡ Some t → i ≡ j

-- the counts agree with the bytes, the table and the events
pub record Agree {F : Type 0} (sees : F → Denial) (y : Counts F) (T : List (Option ℕ)) (bytes : List ℕ) (es : List (Event F)) : Type 0 where
  pub note_ons : y.note_ons ≡ length (note_ons_of (reads s.Idle 0 bytes))
  pub starts : y.note_ons ≡ y.taken + y.denied
  pub tickets : y.taken ≡ y.returned + tickets T
  pub taken : y.taken ≡ number taken_in es
  pub denied : y.denied ≡ number denied_in es
  pub returned : y.returned ≡ number returned_in es
  pub fair : AllByRecursion (Fair sees) es

-- after a close besides: no ticket is left in any of the three sets, and every note begun is stopped
pub record Rests {S F : Type 0} (gs : Sink.Ghosts S F) (stack : S) (tally : Tally F) : Type 0 where
  pub sound_left : gs.sound stack
  pub idle : Idle (gs.meaning stack)
  pub even : tally.taken ≡ tally.returned
  pub complete : Each complete (gs.ends stack)

-- a run's type carries what its stack and the stack's fault mean, gs and gf, and the relations read it there
module _ {S F : Type 0} {gs : Sink.Ghosts S F} {gf : Refusal.Ghosts F} where
  -- ---- the calls of a run

  pub record Opened (over : S) (r : Run S F gs gf) : Type 0 where
    pub stack : r.player.stack ≡ over
    pub table : r.player.table ≡ replicate 2048 None
    pub counts : r.player.counts ≡ fresh
    pub state : r.reader.state ≡ s.Idle
    pub count : r.count ≡ 0

  pub record Fed (bytes : List ℕ) (r : Run S F gs gf) (es : List (Event F)) (r' : Run S F gs gf) : Type 0 where
    pub fits : r.count + length bytes ≤ 4000000000
    pub played : Played (reads r.reader.state r.count bytes) r.player es r'.player
    pub state : r'.reader.state ≡ reaches r.reader.state bytes
    pub count : r'.count ≡ r.count + length bytes

  -- a feed is denied exactly if the bytes would pass 4,000,000,000, and changes nothing then
  abbrev pub Feeds : List ℕ → Run S F gs gf → Result (Unit {0}) TooManyBytes → Run S F gs gf → Type 0
  Feeds bytes r (Ok _) r' = (es : List (Event F)) × Fed bytes r es r'
  Feeds bytes r (Err e) r' = (4000000000 < r.count + length bytes) × (r' ≡ r)

  -- the stack is set at the place reached
  pub record Sets (depth item : ℕ) (value : ℤ) (r : Run S F gs gf) (a : Answer F) (r' : Run S F gs gf) : Type 0 where
    pub call : gs.does r.player.stack (Set r.count depth item value) a r'.player.stack
    pub table : r'.player.table ≡ r.player.table
    pub counts : r'.player.counts ≡ r.player.counts
    pub state : r'.reader.state ≡ r.reader.state
    pub count : r'.count ≡ r.count

  -- all tickets are released at the place reached, and then the stack is cleared
  pub record Closed (r : Run S F gs gf) (es : List (Event F)) (b : Player S F gs gf) (tally : Tally F) (left : S) : Type 0 where
    pub swept : SweptThen r.count 0 2048 (Clear r.count) r.player es b
    pub answered : tally ≡ tally_of r.count b.counts
    pub stack : left ≡ b.stack

  abbrev pub ClosesBy : Run S F gs gf → Tally F → S → Type 0
  ClosesBy r tally left = (es : List (Event F)) × (b : Player S F gs gf) × Closed r es b tally left

  -- ---- every past: a run opened over an idle stack, and then whatever calls were made of it, taken or denied,
  -- with the bytes of the feeds taken, and the starts and releases so far

  pub data Past : Run S F gs gf → List ℕ → List (Event F) → Type 0 where
    opened : {r : Run S F gs gf} (stack : S) → gs.sound stack → Idle (gs.meaning stack) → Opened stack r → Past r [] []
    fed : {r r' : Run S F gs gf} {bytes : List ℕ} {es es' : List (Event F)} (piece : List ℕ) → Past r bytes es → Fed piece r es' r' → Past r' (bytes ++ piece) (es ++ es')
    fed_denied : {r r' : Run S F gs gf} {bytes : List ℕ} {es : List (Event F)} (e : TooManyBytes) (piece : List ℕ) → Past r bytes es → Feeds piece r (Err e) r' → Past r' bytes es
    set : {r r' : Run S F gs gf} {bytes : List ℕ} {es : List (Event F)} {a : Answer F} (depth item : ℕ) (value : ℤ) → Past r bytes es → Sets depth item value r a r' → Past r' bytes es
    tallied : {r : Run S F gs gf} {bytes : List ℕ} {es : List (Event F)} → Past r bytes es → Past r bytes es

  -- after every past
  pub record Stands (b : Player S F gs gf) (bytes : List ℕ) (es : List (Event F)) : Type 0 where
    pub owes : Owes (gs.meaning b.stack) b.table
    pub agree : Agree gf.denial b.counts b.table bytes es
    pub clean : Each clean (gs.ends b.stack)

  pub record Closes (bytes : List ℕ) (es : List (Event F)) (b : Player S F gs gf) (tally : Tally F) (stack : S) : Type 0 where
    pub stands : Stands b bytes es
    pub rests : Rests gs stack tally

  -- of one run: after every past the first, after a past and a close both
  abbrev pub PastStands : Run S F gs gf → Type 0
  PastStands r = (bytes : List ℕ) (es : List (Event F)) → Past r bytes es → Stands r.player bytes es

  abbrev pub PastCloses : Run S F gs gf → Tally F → S → Type 0
  PastCloses r tally stack = (bytes : List ℕ) (es : List (Event F)) → Past r bytes es → (es' : List (Event F)) × (b : Player S F gs gf) × Closed r es' b tally stack × Closes bytes (es ++ es') b tally stack

-- no note is left: after every past of any run the first, after a past and a close both
module _ {S F : Type 0} (gs : Sink.Ghosts S F) (gf : Refusal.Ghosts F) where
  abbrev pub NoNoteLeft : Type 0
  NoNoteLeft =
      (r : Run S F gs gf) (bytes : List ℕ) (es : List (Event F)) → Past r bytes es →
      Stands r.player bytes es ×
      ((es' : List (Event F)) (b : Player S F gs gf) (tally : Tally F) (stack : S) → Closed r es' b tally stack → Closes bytes (es ++ es') b tally stack)

-- Which calls a run makes at each row.
use Rattle.std.proofs.Common.{◌≡◌, ℕ, ◌+◌, ◌≤◌, List, [], ◌∷◌, ◌++◌, length, set, pos, Some, None, Ok, Err, Option, Result, sym, refl, ap, ◌∙◌, subst, subst₂, inl, inr, ⊎_elim, arith, lit≤, length-set, get_or-set_other, get_or-set_same}
use Rattle.reader.specs.declared.items.Message.TheVariants as m
use Rattle.reader.specs.declared.states.State.{State}
use Rattle.reader.specs.declared.states.State.TheVariants as s
use Rattle.reader.specs.Rules.{Reading, message, reads, reaches}
use Rattle.sink.specs.declared.fault.refusal.Refusal
use Rattle.sink.specs.declared.sink.Sink
use Rattle.sink.specs.Calls.{Call, Start, Release, Tell, Set, Clear, Answer, ticket}
use Rattle.run.specs.declared.counts.TooManyBytes.{TooManyBytes}
use Rattle.run.specs.declared.player.Player.{Player}
use Rattle.run.specs.declared.runs.Run.{Run}
use Rattle.run.specs.Counting.{at, entered}
use Rattle.run.specs.Steps.{Event, Swept, swept_none, swept_more, OnReading, OnNoteOn, OnNoteOff, Played, played_none, played_more}
use Rattle.run.specs.Past.{Feeds}
use Rattle.run.proofs.Tables.{none_some, some_same, none_at, written}
use Rattle.exam_table.specs.Rows.{Fed, Plays}

pub not_nil : {A : Type 0} (xs : List A) (x : A) → xs ++ (x ∷ []) ≡ [] → ⊥
not_nil [] x e = cc
not_nil (y ∷ xs) x e = cc

pub only_one : {A : Type 0} (xs : List A) (x y : A) → xs ++ (x ∷ []) ≡ y ∷ [] → (xs ≡ []) × (x ≡ y)
only_one [] x y e = (refl, cc)
only_one (z ∷ xs) x y e = let rest : xs ++ (x ∷ []) ≡ [] = cc in absurd (not_nil xs x rest)

-- the place filled and emptied
empty_again : (T : List (Option ℕ)) (t i : ℕ) → length T ≡ 2048 → at T i ≡ None → at (set (set T 60 (Some t)) 60 None) i ≡ None
empty_again T t i wide none =
    let long = length-set T 60 (Some t) in
    ⊎_elim (λ k. k.1) (λ k. k.1 ∙ get_or-set_other T 60 i (Some t) None k.0 ∙ none) (written (set T 60 (Some t)) 60 i None (omega arith))

module _ {S F : Type 0} (does : S → Call → Answer F → S → Type 0) where
  -- the calls that the stack gets, in their order
  pub record CalledRows (t : ℕ) (s₀ s₁ s₂ s₃ s₄ s₅ left : S) : Type 0 where
    pub a₂ : Answer F
    pub a₃ : Answer F
    pub a₄ : Answer F
    pub a₅ : Answer F
    pub a₆ : Answer F
    pub key_down : does s₀ (Start 2 0 60 100) (ticket t) s₁
    pub transpose : does s₁ (Set 3 0 0 (pos 12)) a₂ s₂
    pub pedal_down : does s₂ (Tell 5 0 64 127) a₃ s₃
    pub key_up : does s₃ (Release 8 t 64) a₄ s₄
    pub pedal_up : does s₄ (Tell 11 0 64 0) a₅ s₅
    pub clear : does s₅ (Clear 12) a₆ left

module _ {S F : Type 0} {gs : Sink.Ghosts S F} {gf : Refusal.Ghosts F} where
  -- ---- one reading

  played_nil : {rs : List Reading} {b b' : Player S F gs gf} {es : List (Event F)} → rs ≡ [] → Played rs b es b' → b ≡ b'
  played_nil e played_none = refl
  played_nil e (played_more r {rs} es₁ before ranged step) = absurd (not_nil rs r e)

  played_one : {rs : List Reading} {b b' : Player S F gs gf} {es : List (Event F)} (x : Reading) → rs ≡ x ∷ [] → Played rs b es b' → (es₁ : List (Event F)) × OnReading x b es₁ b'
  played_one x e played_none = cc
  played_one x e (played_more r {rs} {b} {b₁} {b'} es₁ before ranged step) =
      let k = only_one rs r x e in
      (es₁, subst₂ (λ y c. OnReading y c es₁ b') k.1 (sym (played_nil k.0 before)) step)

  -- a piece that gives one reading, and the reader behind it
  record Read (x : Reading) (st : State) (n : ℕ) (r r' : Run S F gs gf) : Type 0 where
    events : List (Event F)
    on : OnReading x r.player events r'.player
    state : r'.reader.state ≡ st
    count : r'.count ≡ n

  taken : (bytes : List ℕ) (n : ℕ) (r r' : Run S F gs gf) (a : Result (Unit {0}) TooManyBytes) → r.count ≡ n → n + length bytes ≤ 4000000000 → Feeds bytes r a r' → (u : Unit {0}) × Feeds bytes r (Ok u) r'
  taken bytes n r r' (Ok u) e h d = (u, d)
  taken bytes n r r' (Err x) e h d = let over = d.0 in absurd (omega arith)

  fed : (bytes : List ℕ) (st : State) (n : ℕ) (x : Reading) (r r' : Run S F gs gf) → reads st n bytes ≡ x ∷ [] → n + length bytes ≤ 4000000000 → r.reader.state ≡ st → r.count ≡ n → Fed bytes r r' → Read x (reaches st bytes) (n + length bytes) r r'
  fed bytes st n x r r' one h es ec d =
      let f = (taken bytes n r r' d.answer ec h d.feeds).1 in
      let p = played_one x (ap (λ z. reads z r.count bytes) es ∙ ap (λ c. reads st c bytes) ec ∙ one) f.1.played in
      record { events = p.0; on = p.1; state = f.1.state ∙ ap (λ z. reaches z bytes) es; count = f.1.count ∙ ap (λ c. c + length bytes) ec }

  -- ---- the key table

  -- key 60 is struck while its place in the table is empty
  struck : {b b' : Player S F gs gf} {es : List (Event F)} → at b.table 60 ≡ None → OnNoteOn 2 0 60 100 b es b' → (a : Answer F) × gs.does b.stack (Start 2 0 60 100) a b'.stack × (b'.table ≡ entered 60 a b.table)
  struck {b} {b'} none d =
      let st = d.started in
      let same : (d.between.stack ≡ b.stack) × (d.between.table ≡ b.table) = ⊎_elim (λ k. (k.1.stack, k.1.table)) (λ k. absurd (none_some none k.1.held)) d.emptied in
      (st.answer, subst (λ x. gs.does x (Start 2 0 60 100) st.answer b'.stack) same.0 st.call, st.table ∙ ap (entered 60 st.answer) same.1)

  -- and comes up while the table has its ticket
  let_go : {b b' : Player S F gs gf} {es : List (Event F)} (t : ℕ) → at b.table 60 ≡ Some t → OnNoteOff 8 0 60 64 b es b' → (a : Answer F) × gs.does b.stack (Release 8 t 64) a b'.stack × (b'.table ≡ set b.table 60 None)
  let_go {b} {b'} t has (inl k) = absurd (none_some k.0 has)
  let_go {b} {b'} t has (inr k) = (k.1.answer, subst (λ u. gs.does b.stack (Release 8 u 64) k.1.answer b'.stack) (some_same k.1.held has) k.1.call, k.1.table)

  -- nothing is swept out of an empty table
  swept_nothing : (p from to : ℕ) {b b' : Player S F gs gf} {es : List (Event F)} → ((i : ℕ) → at b.table i ≡ None) → Swept p from to b es b' → (b'.stack ≡ b.stack) × (b'.table ≡ b.table)
  swept_nothing p from _ none swept_none = (refl, refl)
  swept_nothing p from _ none (swept_more {i} {b} {b₁} {b'} {es} {es₁} before next) =
      let k = swept_nothing p from i none before in
      ⊎_elim (λ w. (w.1.stack ∙ k.0, w.1.table ∙ k.1)) (λ w. absurd (none_some (ap (λ T. at T i) k.1 ∙ none i) w.1.held)) next

  -- ---- the rows

  module _ (s₀ left : S) (p : Plays gs gf s₀ left) (starts : (a : Answer F) (s : S) → gs.does s₀ (Start 2 0 60 100) a s → (t : ℕ) × (a ≡ ticket t)) where
    pub called : (t : ℕ) × CalledRows gs.does t s₀ p.r₁.player.stack p.r₂.player.stack p.r₃.player.stack p.r₄.player.stack p.r₅.player.stack left
    called =
        let o = p.opens in
        let T = p.r₀.player.table in
        let wide = p.r₀.player.long in
        let f₁ = fed (0x90 ∷ 60 ∷ 100 ∷ []) s.Idle 0 (message 2 (m.NoteOn 0 60 100)) p.r₀ p.r₁ refl (lit≤ tt) o.state o.count p.key_down in
        let k₁ = struck (ap (λ x. at x 60) o.table ∙ none_at 2048 60) f₁.on in
        let first = subst (λ x. gs.does x (Start 2 0 60 100) k₁.0 p.r₁.player.stack) o.stack k₁.1 in
        let tk = starts k₁.0 p.r₁.player.stack first in
        let t = tk.0 in
        let f₂ = p.transpose.1 in
        let f₃ = fed (0xB0 ∷ 64 ∷ 127 ∷ []) (s.Channel 0x90) 3 (message 5 (m.Control 0 64 127)) p.r₂ p.r₃ refl (lit≤ tt) (f₂.state ∙ f₁.state) (f₂.count ∙ f₁.count) p.pedal_down in
        let held : p.r₃.player.table ≡ set T 60 (Some t) = f₃.on.table ∙ f₂.table ∙ k₁.2 ∙ ap (λ a. entered 60 a T) tk.1 in
        let f₄ = fed (0x80 ∷ 60 ∷ 64 ∷ []) (s.Channel 0xB0) 6 (message 8 (m.NoteOff 0 60 64)) p.r₃ p.r₄ refl (lit≤ tt) f₃.state f₃.count p.key_up in
        let k₄ = let_go t (ap (λ x. at x 60) held ∙ get_or-set_same T 60 (Some t) None (omega (arith, wide))) f₄.on in
        let f₅ = fed (0xB0 ∷ 64 ∷ 0 ∷ []) (s.Channel 0x80) 9 (message 11 (m.Control 0 64 0)) p.r₄ p.r₅ refl (lit≤ tt) f₄.state f₄.count p.pedal_up in
        let none : (i : ℕ) → at p.r₅.player.table i ≡ None = λ i. ap (λ x. at x i) (f₅.on.table ∙ k₄.2 ∙ ap (λ x. set x 60 None) held) ∙ empty_again T t i wide (ap (λ x. at x i) o.table ∙ none_at 2048 i) in
        let c = p.closes.2 in
        let swept = swept_nothing p.r₅.count 0 2048 none c.swept.swept in (
          t,
          record {
            a₂ = p.transpose.0;
            a₃ = f₃.on.answer;
            a₄ = k₄.0;
            a₅ = f₅.on.answer;
            a₆ = c.swept.called.answer;
            key_down = subst (λ a. gs.does s₀ (Start 2 0 60 100) a p.r₁.player.stack) tk.1 first;
            transpose = subst (λ n. gs.does p.r₁.player.stack (Set n 0 0 (pos 12)) p.transpose.0 p.r₂.player.stack) f₁.count f₂.call;
            pedal_down = f₃.on.call;
            key_up = k₄.1;
            pedal_up = f₅.on.call;
            clear = subst (gs.does p.r₅.player.stack (Clear 12) c.swept.called.answer) (sym c.stack) (subst₂ (λ x n. gs.does x (Clear n) c.swept.called.answer p.closes.1.stack) swept.0 f₅.count c.swept.called.call);
          },
        )

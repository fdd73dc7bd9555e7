-- Longer sweeps from shorter ones.
use Rattle.std.proofs.Common.{◌≡◌, ℕ, ◌+◌, ◌*◌, List, [], ◌++◌, sym, subst, append_assoc, append-nil, arith}
use Rattle.sink.specs.declared.fault.refusal.Refusal
use Rattle.sink.specs.declared.sink.Sink
use Rattle.run.specs.declared.player.Player.{Player}
use Rattle.run.specs.Counting.{spot}
use Rattle.run.specs.Steps.{Event, Emptied, Swept, swept_none, swept_more}

module _ {S F : Type 0} {gs : Sink.Ghosts S F} {gf : Refusal.Ghosts F} where
  swept_both : {p a b c : ℕ} {x y z : Player S F gs gf} {es fs : List (Event F)} → Swept p a b x es y → Swept p b c y fs z → Swept p a c x (es ++ fs) z
  swept_both {p} {a} {b} {x = x} {y = y} {es = es} before swept_none = subst (λ l. Swept p a b x l y) (sym (append-nil es)) before
  swept_both {p} {a} {x = x} {es = es} before (swept_more {i} {b' = z} {es = fs} {es₁ = last} after one) = subst (λ l. Swept p a (i + 1) x l z) (append_assoc es fs last) (swept_more (swept_both before after) one)

  -- no key of a channel yet
  pub no_key : (p c : ℕ) {x : Player S F gs gf} → (es : List (Event F)) × Swept p (128 * c) (128 * c + 0) x es x
  no_key p c {x} =
      let to : 128 * c ≡ 128 * c + 0 = omega arith in
      ([], subst (λ i. Swept p (128 * c) i x [] x) to swept_none)

  -- one key more of a channel
  pub next_key : (p c n : ℕ) {x y z : Player S F gs gf} → (es : List (Event F)) × Swept p (128 * c) (128 * c + n) x es y → (es : List (Event F)) × Emptied p (spot c n) y es z → (es : List (Event F)) × Swept p (128 * c) (128 * c + (n + 1)) x es z
  next_key p c n {x} {y} {z} before one =
      let to : (128 * c + n) + 1 ≡ 128 * c + (n + 1) = omega arith in
      (before.0 ++ one.0, subst (λ i. Swept p (128 * c) i x (before.0 ++ one.0) z) to (swept_more before.1 one.1))

  -- one channel more
  pub next_channel : (p c : ℕ) {x y z : Player S F gs gf} → (es : List (Event F)) × Swept p 0 (128 * c) x es y → (es : List (Event F)) × Swept p (128 * c) (128 * c + 128) y es z → (es : List (Event F)) × Swept p 0 (128 * (c + 1)) x es z
  next_channel p c {x} {y} {z} before one =
      let to : 128 * c + 128 ≡ 128 * (c + 1) = omega arith in
      (before.0 ++ one.0, subst (λ i. Swept p 0 i x (before.0 ++ one.0) z) to (swept_both before.1 one.1))

-- What the receiver has heard, one message more.
use Rattle.std.specs.Prelude.{◌≡◌, ℕ, zero, suc, ◌+◌, ◌<◌, ◌≤◌, Bool, true, false, not, ◌&&◌, ◌||◌, List, [], ◌∷◌, ◌++◌, length, take, replicate, Some, None, Option, slice_set, refl}
use Rattle.std.proofs.Common.{sym, ap, ap₂, subst, ◌∙◌, arith}
use Rattle.reader.specs.declared.states.State.TheVariants as s
use Rattle.sink.proofs.Bools.{self_eq}
use Rattle.roll.specs.Voices.{one, voice, passes, sounding_with}
use Rattle.roll.proofs.Tallies.{one_le, with_set, with_one, with_none, with_stop}
use Rattle.byte_writer.specs.Keys.{is_key}
use Rattle.byte_writer.specs.Messages.{Ranged, bytes_of, as_read, readings, AllRanged}
use Rattle.byte_writer.specs.Receiver.{Keys, none, hears, keys_on, Expected, Orderly, received, Clean}
use Rattle.byte_writer.specs.Writer.{Told}
use Rattle.byte_writer.specs.declared.key.Key.{Key}
use Rattle.byte_writer.specs.declared.message.NoteMessage.{NoteMessage}
use Rattle.byte_writer.specs.declared.message.NoteMessage.TheVariants.{On, Off}
use Rattle.byte_writer.specs.Reading.{reads_back, front_reads}
use Rattle.byte_writer.specs.Wrote.{bytes_of_append, same_key}

orderly_take : (on : Keys) (p j : ℕ) (xs : List NoteMessage) → Orderly on (readings p xs) → Orderly on (readings p (take j xs))
orderly_take on p zero xs o = tt
orderly_take on p (suc j) [] o = tt
orderly_take on p (suc j) (x ∷ xs) o = (o.0, orderly_take (hears on (as_read x)) (p + 3) j xs o.1)

orderly_snoc : (on : Keys) (p : ℕ) (xs : List NoteMessage) (x : NoteMessage) → Orderly on (readings p xs) → Expected (keys_on on (readings p xs)) (as_read x) → Orderly on (readings p (xs ++ (x ∷ [])))
orderly_snoc on p [] x o e = (e, tt)
orderly_snoc on p (y ∷ xs) x o e = (o.0, orderly_snoc (hears on (as_read y)) (p + 3) xs x o.1 e)

keys_snoc : (on : Keys) (p : ℕ) (xs : List NoteMessage) (x : NoteMessage) → keys_on on (readings p (xs ++ (x ∷ []))) ≡ hears (keys_on on (readings p xs)) (as_read x)
keys_snoc on p [] x = refl
keys_snoc on p (y ∷ xs) x = keys_snoc (hears on (as_read y)) (p + 3) xs x

ranged_snoc : (xs : List NoteMessage) (x : NoteMessage) → AllRanged xs → Ranged x → AllRanged (xs ++ (x ∷ []))
ranged_snoc [] x r e = (e, tt)
ranged_snoc (y ∷ xs) x r e = (r.0, ranged_snoc xs x r.1 e)

bytes_snoc : (bs : List ℕ) (xs : List NoteMessage) (x : NoteMessage) → bs ≡ bytes_of xs → bs ++ bytes_of (x ∷ []) ≡ bytes_of (xs ++ (x ∷ []))
bytes_snoc bs xs x e = ap (λ l. l ++ bytes_of (x ∷ [])) e ∙ sym (bytes_of_append xs (x ∷ []))

pub is_on_lem : (b : Bool) → 1 ≤ one b → b ≡ true
is_on_lem true h = refl
is_on_lem false h = absurd (omega arith)

pub is_off : (b : Bool) → one b ≡ 0 → b ≡ false
is_off true h = absurd (omega arith)
is_off false h = refl

key_removed : (on h : Bool) → one h ≤ one on → one (on && not h) + one h ≡ one on
key_removed true true e = refl
key_removed true false e = refl
key_removed false true e = absurd (omega arith)
key_removed false false e = refl

key_added : (h on : Bool) → one on + one h ≤ 1 → one (h || on) ≡ one on + one h
key_added true true e = absurd (omega arith)
key_added true false e = refl
key_added false true e = refl
key_added false false e = refl

pub itself : (x : Key) → is_key x.channel x.number x ≡ true
itself x = ap₂ ◌&&◌ (self_eq x.channel) (self_eq x.number)

module _ (bs : List ℕ) (xs : List (Option Key)) (told : Told bs xs) where
  abbrev on : Keys
  on = keys_on none (readings 0 told.messages)

  -- a ticket that sounds is stopped
  pub told_off : (u : ℕ) (x : Key) (v : ℕ) → voice xs u ≡ Some x → v < 128 → Told (bs ++ bytes_of (Off x.channel x.number v ∷ [])) (slice_set xs u None)
  told_off u x v sounds small =
      let off = Off x.channel x.number v in
      record {
        messages = told.messages ++ (off ∷ []);
        ranged = ranged_snoc told.messages off told.ranged (x.channels, x.numbers, small);
        bytes = bytes_snoc bs told.messages off told.bytes;
        orderly = orderly_snoc none 0 told.messages off told.orderly (is_on_lem (on x.channel x.number) (
            let held = ap (λ y. one (passes (is_key x.channel x.number) y)) sounds ∙ ap one (itself x) in
            let least = with_one (is_key x.channel x.number) xs u in
            let now = told.keys x.channel x.number in
            omega arith));
        keys = λ c k.
            let held : one (passes (is_key c k) (voice xs u)) ≡ one (is_key c k x) = ap (λ y. one (passes (is_key c k) y)) sounds in
            let least = with_one (is_key c k) xs u in
            let was = told.keys c k in
            let fewer = with_stop (is_key c k) xs u in
            let less = key_removed (on c k) (is_key c k x) (omega arith) in
            ap (λ f. one (f c k)) (keys_snoc none 0 told.messages off) ∙ omega arith;
      }

  -- a silent ticket begins to sound, with a key that no other ticket sounds with
  pub told_on : (i : ℕ) (x : Key) (v : ℕ) → i < length xs → voice xs i ≡ None → sounding_with (is_key x.channel x.number) xs ≡ 0 → 1 ≤ v → v < 128 → Told (bs ++ bytes_of (On x.channel x.number v ∷ [])) (slice_set xs i (Some x))
  told_on i x v lt silent alone low small =
      let new = On x.channel x.number v in
      let was-off : on x.channel x.number ≡ false = is_off (on x.channel x.number) (told.keys x.channel x.number ∙ alone) in
      record {
        messages = told.messages ++ (new ∷ []);
        ranged = ranged_snoc told.messages new told.ranged (x.channels, x.numbers, low, small);
        bytes = bytes_snoc bs told.messages new told.bytes;
        orderly = orderly_snoc none 0 told.messages new told.orderly was-off;
        keys = λ c k.
            let none-held : one (passes (is_key c k) (voice xs i)) ≡ 0 = ap (λ y. one (passes (is_key c k) y)) silent in
            let more = with_set (is_key c k) xs i (Some x) lt in
            let was = told.keys c k in
            let added = key_added (is_key c k x) (on c k) (not_both was-off c k (is_key c k x) refl) in
            ap (λ f. one (f c k)) (keys_snoc none 0 told.messages new) ∙ omega arith;
      }
    where
      not_both : on x.channel x.number ≡ false → (c k : ℕ) (b : Bool) → is_key c k x ≡ b → one (on c k) + one b ≤ 1
      not_both was-off c k true e =
          let same = same_key c k x e in
          let off : on c k ≡ false = ap₂ on (sym same.0) (sym same.1) ∙ was-off in
          let z = ap one off in
          omega arith
      not_both was-off c k false e = let z = one_le (on c k) in omega arith

  pub told_received : received bs ≡ readings 0 told.messages
  told_received = ap received told.bytes ∙ reads_back s.Idle tt 0 told.messages told.ranged

  pub told_clean : Clean bs
  told_clean n =
      let front = front_reads s.Idle tt 0 n told.messages told.ranged in
      subst (Orderly none) (sym (ap (λ l. received (take n l)) told.bytes ∙ front.1)) (orderly_take none 0 front.0 told.messages told.orderly)

  -- the receiver's keys on are counted by the tickets that sound with them
  pub told_keys : (c k : ℕ) → one (keys_on none (received bs) c k) ≡ sounding_with (is_key c k) xs
  told_keys c k = ap (λ rs. one (keys_on none rs c k)) told_received ∙ told.keys c k

pub told_none : (n : ℕ) → Told [] (replicate n None)
told_none n = record { messages = []; ranged = tt; bytes = refl; orderly = tt; keys = λ c k. sym (with_none (is_key c k) n) }

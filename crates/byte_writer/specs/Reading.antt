-- How a reader finds the messages again.
use Rattle.std.specs.Prelude.{◌≡◌, ℕ, zero, suc, ◌+◌, ◌%◌, ◌<◌, ◌≤◌, List, [], ◌∷◌, ◌++◌, take, refl}
use Rattle.std.proofs.Common.{ap, ap₂, ◌∙◌, arith}
use Rattle.std.proofs.lemmas.Bool.Decides.{nat_tests}
use Rattle.reader.specs.Rules.{message, joined, reading, bytewise, leads, paired, reads}
use Rattle.reader.specs.declared.items.Message.TheVariants as m
use Rattle.reader.specs.declared.states.State.{State}
use Rattle.reader.specs.declared.states.State.TheVariants as s
use Rattle.byte_writer.specs.Messages.{Ranged, message_bytes, bytes_of, as_read, readings, AllRanged}
use Rattle.byte_writer.specs.declared.message.NoteMessage.{NoteMessage}
use Rattle.byte_writer.specs.declared.message.NoteMessage.TheVariants.{On, Off}

-- between two messages
abbrev pub Rests : State → Type 0
Rests s.Idle = Unit {0}
Rests (s.Channel x) = Unit {0}
Rests (s.Half x d) = ⊥
Rests (s.Common x) = ⊥
Rests s.Exclusive = ⊥

-- ---- byte by byte, under the status of a Note-on or a Note-off

status_gives : (st : State) → Rests st → (p a : ℕ) → 0x80 ≤ a → a < 0xA0 → reading st p a ≡ []
status_gives s.Idle r p a low high = grind (arith, nat_tests)
status_gives (s.Channel x) r p a low high = grind (arith, nat_tests)
status_gives (s.Half x d) r p a low high = absurd r
status_gives (s.Common x) r p a low high = absurd r
status_gives s.Exclusive r p a low high = absurd r

status_leads : (st : State) (a : ℕ) → 0x80 ≤ a → a < 0xA0 → leads st a ≡ s.Channel a
status_leads st a low high = grind (arith, nat_tests)

first_gives : (p a k : ℕ) → a < 0xA0 → k < 0x80 → reading (s.Channel a) p k ≡ []
first_gives p a k high d = grind (arith, nat_tests)

first_leads : (a k : ℕ) → a < 0xA0 → k < 0x80 → leads (s.Channel a) k ≡ s.Half a k
first_leads a k high d = grind (arith, nat_tests)

second_gives : (p a k v : ℕ) → v < 0x80 → reading (s.Half a k) p v ≡ message p (paired a k v) ∷ []
second_gives p a k v d = grind (arith, nat_tests)

second_leads : (a k v : ℕ) → a < 0xA0 → v < 0x80 → leads (s.Half a k) v ≡ s.Channel a
second_leads a k v high d = grind (arith, nat_tests)

module _ (st : State) (rest : Rests st) (p a : ℕ) (low : 0x80 ≤ a) (high : a < 0xA0) where
  one_byte : bytewise st p (a ∷ []) ≡ []
  one_byte = ap (λ rs. rs ++ []) (status_gives st rest p a low high)

  two_bytes : (k : ℕ) → k < 0x80 → bytewise st p (a ∷ k ∷ []) ≡ []
  two_bytes k d =
      ap₂ (λ rs x. rs ++ (reading x (p + 1) k ++ [])) (status_gives st rest p a low high) (status_leads st a low high)
      ∙ ap (λ rs. rs ++ []) (first_gives (p + 1) a k high d)

  three_bytes : (k v : ℕ) (bs : List ℕ) → k < 0x80 → v < 0x80 → bytewise st p (a ∷ k ∷ v ∷ bs) ≡ message (p + 2) (paired a k v) ∷ bytewise (s.Channel a) (p + 3) bs
  three_bytes k v bs d e =
      let q : (p + 1) + 1 ≡ p + 2 = omega arith in
      let q' : ((p + 1) + 1) + 1 ≡ p + 3 = omega arith in
      ap₂ (λ rs x. rs ++ (reading x (p + 1) k ++ (reading (leads x k) ((p + 1) + 1) v ++ bytewise (leads (leads x k) v) (((p + 1) + 1) + 1) bs))) (status_gives st rest p a low high) (status_leads st a low high)
      ∙ ap₂ (λ rs x. rs ++ (reading x ((p + 1) + 1) v ++ bytewise (leads x v) (((p + 1) + 1) + 1) bs)) (first_gives (p + 1) a k high d) (first_leads a k high d)
      ∙ ap₂ (λ rs x. rs ++ bytewise x (((p + 1) + 1) + 1) bs) (second_gives ((p + 1) + 1) a k v e) (second_leads a k v high e)
      ∙ ap₂ (λ x y. message x (paired a k v) ∷ bytewise (s.Channel a) y bs) q q'

on_read : (c k v : ℕ) → c < 16 → 1 ≤ v → paired (0x90 + c) k v ≡ m.NoteOn c k v
on_read c k v h l = let e : (0x90 + c) % 16 ≡ c = omega arith in grind (arith, nat_tests, e)

off_read : (c k v : ℕ) → c < 16 → paired (0x80 + c) k v ≡ m.NoteOff c k v
off_read c k v h = let e : (0x80 + c) % 16 ≡ c = omega arith in grind (arith, nat_tests, e)

-- ---- message by message

pub status : NoteMessage → ℕ
status (On c k v) = 0x90 + c
status (Off c k v) = 0x80 + c

message_first : (st : State) → Rests st → (p : ℕ) (x : NoteMessage) → Ranged x → (bs : List ℕ) → bytewise st p (message_bytes x ++ bs) ≡ message (p + 2) (as_read x) ∷ bytewise (s.Channel (status x)) (p + 3) bs
unfolding status
message_first st rest p (On c k v) r bs =
    let low : 0x80 ≤ 0x90 + c = omega arith in
    let h = r.0 in
    let high : 0x90 + c < 0xA0 = omega arith in
    three_bytes st rest p (0x90 + c) low high k v bs r.1 r.3 ∙ ap (λ y. message (p + 2) y ∷ bytewise (s.Channel (0x90 + c)) (p + 3) bs) (on_read c k v r.0 r.2)
message_first st rest p (Off c k v) r bs =
    let low : 0x80 ≤ 0x80 + c = omega arith in
    let h = r.0 in
    let high : 0x80 + c < 0xA0 = omega arith in
    three_bytes st rest p (0x80 + c) low high k v bs r.1 r.2 ∙ ap (λ y. message (p + 2) y ∷ bytewise (s.Channel (0x80 + c)) (p + 3) bs) (off_read c k v r.0)

-- the bytes of messages are read as just these messages
pub reads_back : (st : State) → Rests st → (p : ℕ) (xs : List NoteMessage) → AllRanged xs → reads st p (bytes_of xs) ≡ readings p xs
reads_back st rest p [] r = refl
reads_back st rest p (x ∷ xs) r = ap joined (message_first st rest p x r.0 (bytes_of xs)) ∙ ap (λ rs. message (p + 2) (as_read x) ∷ rs) (reads_back (s.Channel (status x)) tt (p + 3) xs r.1)

-- part of a message gives nothing
part_read : (st : State) → Rests st → (p : ℕ) (x : NoteMessage) → Ranged x → (bs : List ℕ) → (reads st p (take 1 (message_bytes x ++ bs)) ≡ []) × (reads st p (take 2 (message_bytes x ++ bs)) ≡ [])
part_read st rest p (On c k v) r bs =
    let low : 0x80 ≤ 0x90 + c = omega arith in
    let h = r.0 in
    let high : 0x90 + c < 0xA0 = omega arith in
    (ap joined (one_byte st rest p (0x90 + c) low high), ap joined (two_bytes st rest p (0x90 + c) low high k r.1))
part_read st rest p (Off c k v) r bs =
    let low : 0x80 ≤ 0x80 + c = omega arith in
    let h = r.0 in
    let high : 0x80 + c < 0xA0 = omega arith in
    (ap joined (one_byte st rest p (0x80 + c) low high), ap joined (two_bytes st rest p (0x80 + c) low high k r.1))

take_past : (n : ℕ) (x : NoteMessage) (bs : List ℕ) → take (suc (suc (suc n))) (message_bytes x ++ bs) ≡ message_bytes x ++ take n bs
take_past n (On c k v) bs = refl
take_past n (Off c k v) bs = refl

-- a front of those bytes is read as a front of the messages
pub front_reads : (st : State) → Rests st → (p n : ℕ) (xs : List NoteMessage) → AllRanged xs → (j : ℕ) × (reads st p (take n (bytes_of xs)) ≡ readings p (take j xs))
front_reads st rest p zero xs r = (0, refl)
front_reads st rest p (suc n) [] r = (0, refl)
front_reads st rest p (suc zero) (x ∷ xs) r = (0, (part_read st rest p x r.0 (bytes_of xs)).0)
front_reads st rest p (suc (suc zero)) (x ∷ xs) r = (0, (part_read st rest p x r.0 (bytes_of xs)).1)
front_reads st rest p (suc (suc (suc n))) (x ∷ xs) r =
    let w = front_reads (s.Channel (status x)) tt (p + 3) n xs r.1 in
    (suc w.0, ap (reads st p) (take_past n x (bytes_of xs)) ∙ ap joined (message_first st rest p x r.0 (take n (bytes_of xs))) ∙ ap (λ rs. message (p + 2) (as_read x) ∷ rs) w.1)

-- Messages written one after the other.
use Rattle.std.specs.Prelude.{◌≡◌, ℕ, true, cond, List, [], ◌∷◌, ◌++◌, Some, None, Ok, Option, ◌==◌, refl}
use Rattle.std.proofs.Common.{sym, ap, ap₂, subst, ◌∙◌, append_assoc, eqb-true}
use Rattle.std.proofs.lemmas.Bool.{and_parts}
use Rattle.sink.specs.Calls.{Answer, Start, startable}
use Rattle.sink.specs.Layered.{Refused}
use Rattle.sink.specs.declared.fault.Cause.{Cause}
use Rattle.sink.specs.declared.fault.Cause.TheVariants.{OutOfRange}
use Rattle.roll.specs.Voices.{voice}
use Rattle.ends.specs.Buffers.{Appended}
use Rattle.ends.specs.declared.buffer.Buffer.{Buffer}
use Rattle.ends.specs.Ending.{IfReady}
use Rattle.ends.proofs.Buffers.{appended_front, appended_more}
use Rattle.byte_writer.specs.Keys.{is_key}
use Rattle.byte_writer.specs.Messages.{message_bytes, bytes_of}
use Rattle.byte_writer.specs.Writer.{written_bytes, voices, writer_check, Wrote, stop_messages, HushedFirst, strike_messages, Begins, WriterDoes}
use Rattle.byte_writer.specs.declared.key.Key.{Key}
use Rattle.byte_writer.specs.declared.message.NoteMessage.{NoteMessage}
use Rattle.byte_writer.specs.declared.message.NoteMessage.TheVariants.{On, Off}
use Rattle.byte_writer.specs.declared.strike.Strike.{Strike}
use Rattle.byte_writer.specs.declared.writer.ByteWriter.{ByteWriter}

pub bytes_of_append : (ms ns : List NoteMessage) → bytes_of (ms ++ ns) ≡ bytes_of ms ++ bytes_of ns
bytes_of_append [] ns = refl
bytes_of_append (m ∷ ms) ns = ap (λ r. message_bytes m ++ r) (bytes_of_append ms ns) ∙ sym (append_assoc (message_bytes m) (bytes_of ms) (bytes_of ns))

-- the bytes written are those before and then those of the messages
pub written_more : (ms : List NoteMessage) (s t : ByteWriter) → Wrote ms s t → written_bytes t ≡ written_bytes s ++ bytes_of ms
written_more ms s t w = appended_front (bytes_of ms) s.bytes t.bytes w

pub same_key : (c k : ℕ) (x : Key) → is_key c k x ≡ true → (x.channel ≡ c) × (x.number ≡ k)
same_key c k x e =
    let both = and_parts (x.channel == c) (x.number == k) e in
    (eqb-true x.channel c both.0, eqb-true x.number k both.1)

-- a key is struck: by what was done first with the ticket that sounded with it
module _ (s m : ByteWriter) (b : Buffer ℕ) (c k v : ℕ) (w : Appended (bytes_of (On c k v ∷ [])) m.bytes b) where
  pub struck : (o : Option ℕ) → ((u : ℕ) → o ≡ Some u → (x : Key) × (voice (voices s) u ≡ Some x) × (is_key c k x ≡ true)) → HushedFirst o s m → Appended (bytes_of (strike_messages o c k v)) s.bytes b
  struck None some e = subst (λ (x : ByteWriter). Appended (bytes_of (On c k v ∷ [])) x.bytes b) e w
  struck (Some u) some h =
      let held = some u refl in
      let key = same_key c k held.0 held.2 in
      let off : stop_messages (voice (voices s) u) 64 ≡ Off c k 64 ∷ [] = ap (λ y. stop_messages y 64) held.1 ∙ ap₂ (λ a b. Off a b 64 ∷ []) key.0 key.1 in
      appended_more (bytes_of (Off c k 64 ∷ [])) (bytes_of (On c k v ∷ [])) s.bytes m.bytes b (subst (λ ms. Wrote ms s m) off h.wrote) w

-- the numbers of a start are those of the strike
pub begins_so : (p c k v : ℕ) (x : Strike) (s : ByteWriter) (a : Answer Cause) (t : ByteWriter) → x.key.channel ≡ c → x.key.number ≡ k → x.velocity ≡ v → Begins p x.key.channel x.key.number x.velocity s a t → Begins p c k v s a t
begins_so p c k v x s a t of_c of_k of_v b = subst (λ z. Begins p c k z s a t) of_v (subst (λ z. Begins p c z x.velocity s a t) of_k (subst (λ z. Begins p z x.key.number x.velocity s a t) of_c b))

pub start_taken : (p c k v : ℕ) (s : ByteWriter) (a : Answer Cause) (t : ByteWriter) → startable c k v ≡ true → writer_check s ≡ Ok tt → Begins p c k v s a t → WriterDoes s (Start p c k v) a t
start_taken p c k v s a t e f b = subst (λ x. cond x (IfReady (writer_check s) (Begins p c k v) s a t) (Refused OutOfRange s a t)) (sym e) (subst (λ r. IfReady r (Begins p c k v) s a t) (sym f) b)

-- An end has the meaning of a sink.
use Rattle.std.proofs.Common.{◌≡◌, ℕ, ◌<◌, Bool, true, false, cond, eqb, leb, List, [], ◌∷◌, ◌++◌, length, set, is_some, Some, None, Ok, Err, Option, Result, sym, refl, ap, ◌∙◌, subst, ap₂, arith}
use Rattle.sink.specs.Faults.{here}
use Rattle.sink.specs.Calls.{Call, Start, Release, Hush, Tell, Set, Clear, Answer, denied, startable, tellable}
use Rattle.sink.specs.Meaning.{Meaning, is_ready, whether, Means, Began, Ended, Hushed}
use Rattle.sink.specs.Layered.{Refused}
use Rattle.sink.specs.declared.fault.Cause.{Cause}
use Rattle.sink.specs.declared.fault.Cause.TheVariants.{OutOfRange, AllOut, NoSpace, NotOwed, TellOutOfRange, NoLayer}
use Rattle.sink.proofs.Bools.{clash}
use Rattle.sink.proofs.Handed.{refused, quieter_same, cleared_same, not_ready}
use Rattle.roll.specs.Notes.{found, lists, full, left_out, picked}
use Rattle.roll.specs.Voices.{voice}
use Rattle.roll.specs.declared.note.Note.{Note}
use Rattle.roll.specs.declared.note.Pick.TheVariants.{Ticket}
use Rattle.roll.proofs.Tickets.{lists_snoc, lists_drop, full_left}
use Rattle.ends.specs.Ending.{check_of, end_meaning, InOrder, Deeds, Same, IfReady, IfOwed, EndDoes}
use Rattle.ends.proofs.Tickets.{silenced, owed_note, sounds_at, at_itself, at_another}

pub check_ok : (x y : Bool) → whether here (check_of x y) ≡ is_ready → (x ≡ false) × (y ≡ false)
check_ok true y e = absurd (not_ready (here AllOut) e)
check_ok false true e = absurd (not_ready (here NoSpace) e)
check_ok false false e = (refl, refl)

module _ {V : Type 0} (ns ms : List Note) (xs ys : List (Option V)) (long : length xs ≡ 128) where
  -- a start is taken; others may fall silent, so that zs sounds before the new ticket
  pub end_began : (r r' : Result (Unit {0}) Cause) (zs : List (Option V)) (n : Note) (v : V) → r ≡ Ok tt → n.ticket < 128 → lists ns n.ticket ≡ false → ms ≡ ns ++ (n ∷ []) → length zs ≡ 128 → ((u : ℕ) → is_some (voice zs u) ≡ true → is_some (voice xs u) ≡ true) → ys ≡ set zs n.ticket (Some v) → Began (end_meaning r ns xs) n.ticket (end_meaning r' ms ys)
  end_began r r' zs n v ok lt fresh roll long' quieter e = record {
    was_ready = ap (whether here) ok;
    not_owed = fresh;
    not_kept = refl;
    owed = λ u. ap (λ l. lists l u) roll ∙ lists_snoc ns n u;
    kept = λ u. refl;
    sounds = at_itself zs ys n.ticket (Some v) long' lt e;
    others = λ u ne f. quieter u (sym (at_another zs ys n.ticket (Some v) long' lt e u ne) ∙ f);
  }

  -- a ticket is released; readiness stays, since its stop was reserved
  pub end_ended : (x x' : Bool) (u : ℕ) → InOrder ns xs → lists ns u ≡ true → ms ≡ left_out (picked (Ticket u)) ns → ys ≡ set xs u None → x' ≡ x → Ended (end_meaning (check_of (full ns) x) ns xs) u (end_meaning (check_of (full ms) x') ms ys)
  end_ended x x' u o out roll e stays =
      let lt = o.small u out in
      record {
        was_owed = out;
        owed = λ w. ap (λ l. lists l w) roll ∙ lists_drop u ns w;
        kept = λ w ne. refl;
        sounding = λ w ne. at_another xs ys u None long lt e w ne;
        falls_silent = λ _. at_itself xs ys u None long lt e;
        stays_silent = λ q. clash (is_some (voice ys u)) q (at_itself xs ys u None long lt e);
        ready = λ q.
            let both = check_ok (full ns) x q in
            ap (whether here) (ap₂ check_of (ap full roll ∙ full_left (picked (Ticket u)) ns both.0) (stays ∙ both.1));
      }

  -- a ticket is hushed
  pub end_hushed : (x x' : Bool) (u : ℕ) → InOrder ns xs → lists ns u ≡ true → ms ≡ ns → ys ≡ set xs u None → x' ≡ x → Hushed (end_meaning (check_of (full ns) x) ns xs) u (end_meaning (check_of (full ms) x') ms ys)
  end_hushed x x' u o out roll e stays = record {
    was_owed = out;
    ready = ap (whether here) (ap₂ check_of (ap full roll) stays);
    owed = λ w. ap (λ l. lists l w) roll;
    kept = λ w. refl;
    sounding = λ w. sounds_at xs ys u None long (o.small u out) e w ∙ silenced (eqb u w) (is_some (voice xs w));
  }

-- With the meaning of a start, a release and a hush that it takes, an end has that of every call.
module _ {S V : Type 0} (d : Deeds S) (voices : S → List (Option V)) (sound : S → Type 0) where
  abbrev meant : S → Meaning
  meant s = end_meaning (d.check s) (d.notes s) (voices s)

  module _ (s : S) (a : Answer Cause) (t : S) (h : sound s)
      (begins : (p c k v : ℕ) → startable c k v ≡ true → d.check s ≡ Ok tt → d.begins p c k v s a t → Means here meant s (Start p c k v) a t × sound t)
      (ends : (p u v : ℕ) (n : Note) → leb v 127 ≡ true → found u (d.notes s) ≡ Some n → d.ends p u v n s a t → Means here meant s (Release p u v) a t × sound t)
      (hushes : (p u : ℕ) (n : Note) → found u (d.notes s) ≡ Some n → d.hushes p u n s a t → Means here meant s (Hush p u) a t × sound t) where
    abbrev Holds : Call → Type 0
    Holds c = Means here meant s c a t × sound t

    denies : (c : Call) (f : Cause) → Refused f s a t → Means here meant s c (denied f) s → Holds c
    denies c f r m = (refused here meant c f s a t r m, subst sound (sym r.same) h)

    start_law : (p c k v : ℕ) (x : Bool) (r : Result (Unit {0}) Cause) → startable c k v ≡ x → d.check s ≡ r → cond x (IfReady r (d.begins p c k v) s a t) (Refused OutOfRange s a t) → Holds (Start p c k v)
    start_law p c k v true (Ok tt) e f w = begins p c k v e f w
    start_law p c k v true (Err why) e f w = denies (Start p c k v) why w record { same = refl; because = (λ z. clash (startable c k v) e z, λ _. ap (whether here) f) }
    start_law p c k v false r e f w = denies (Start p c k v) OutOfRange w record { same = refl; because = (λ _. refl, λ z. clash (startable c k v) z e) }

    release_law : (p u v : ℕ) (x : Bool) (o : Option Note) → leb v 127 ≡ x → found u (d.notes s) ≡ o → cond x (IfOwed o (d.ends p u v) s a t) (Refused OutOfRange s a t) → Holds (Release p u v)
    release_law p u v true (Some n) e f w = ends p u v n e f w
    release_law p u v true None e f w = denies (Release p u v) NotOwed w record { same = refl; because = (λ z. clash (leb v 127) e z, λ _. (owed_note (d.notes s) u None f, refl)) }
    release_law p u v false o e f w = denies (Release p u v) OutOfRange w record { same = refl; because = (λ _. refl, λ z. clash (leb v 127) z e) }

    hush_law : (p u : ℕ) (o : Option Note) → found u (d.notes s) ≡ o → IfOwed o (d.hushes p u) s a t → Holds (Hush p u)
    hush_law p u (Some n) f w = hushes p u n f w
    hush_law p u None f w = denies (Hush p u) NotOwed w record { same = refl; because = (owed_note (d.notes s) u None f, refl) }

    tell_law : (p c n v : ℕ) (x : Bool) → tellable c n v ≡ x → cond x (Same s a t) (Refused TellOutOfRange s a t) → Holds (Tell p c n v)
    tell_law p c n v true e w = (subst (λ x. Means here meant s (Tell p c n v) x t) (sym w.answer) (e, quieter_same (meant s) (meant t) (ap meant w.same)), subst sound (sym w.same) h)
    tell_law p c n v false e w = denies (Tell p c n v) TellOutOfRange w record { same = refl; because = (e, refl) }

    pub end_law : (c : Call) → EndDoes d s c a t → Means here meant s c a t × sound t
    end_law (Start p c k v) w = start_law p c k v (startable c k v) (d.check s) refl refl w
    end_law (Release p u v) w = release_law p u v (leb v 127) (found u (d.notes s)) refl refl w
    end_law (Hush p u) w = hush_law p u (found u (d.notes s)) refl w
    end_law (Tell p c n v) w = tell_law p c n v (tellable c n v) refl w
    end_law (Set p e i v) w = denies (Set p e i v) NoLayer w record { same = refl; because = (omega arith, omega arith) }
    end_law (Clear p) w = (subst (λ x. Means here meant s (Clear p) x t) (sym w.answer) (cleared_same (meant s) (meant t) (ap meant w.same) (λ u. refl)), subst sound (sym w.same) h)

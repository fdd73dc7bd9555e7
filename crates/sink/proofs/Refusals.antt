-- What a layer refuses itself has the meaning of a refusal.
use Rattle.std.proofs.Common.{◌≡◌, ℕ, true, false, leb, ℤ, refl, arith}
use Rattle.sink.specs.Faults.{Denial, layer_denial}
use Rattle.sink.specs.Calls.{Start, Release, Hush, Tell, Set, Answer, startable, tellable}
use Rattle.sink.specs.Meaning.{Meaning, Means}
use Rattle.sink.specs.Layered.{Refused}
use Rattle.sink.specs.declared.fault.Cause.TheVariants.{OutOfRange, NotOwed, TellOutOfRange, NoSuchItem, ValueOutOfRange}
use Rattle.sink.specs.declared.fault.LayerFault.{LayerFault}
use Rattle.sink.specs.declared.fault.LayerFault.TheVariants.{Own}
use Rattle.sink.proofs.Bools.{clash}
use Rattle.sink.proofs.Handed.{refused}

module _ {L F : Type 0} (sees : F → Denial) (meaning : L → Meaning) (s : L) (a : Answer (LayerFault F)) (t : L) where
  pub start_refused : (p c k v : ℕ) → startable c k v ≡ false → Refused (Own OutOfRange) s a t → Means (layer_denial sees) meaning s (Start p c k v) a t
  start_refused p c k v e d = refused (layer_denial sees) meaning (Start p c k v) (Own OutOfRange) s a t d record { same = refl; because = (λ _. refl, λ z. clash (startable c k v) z e) }

  pub release_refused : (p u v : ℕ) → leb v 127 ≡ false → Refused (Own OutOfRange) s a t → Means (layer_denial sees) meaning s (Release p u v) a t
  release_refused p u v e d = refused (layer_denial sees) meaning (Release p u v) (Own OutOfRange) s a t d record { same = refl; because = (λ _. refl, λ z. clash (leb v 127) z e) }

  pub release_not_owed : (p u v : ℕ) → leb v 127 ≡ true → (meaning s).owed u ≡ false → Refused (Own NotOwed) s a t → Means (layer_denial sees) meaning s (Release p u v) a t
  release_not_owed p u v ok e d = refused (layer_denial sees) meaning (Release p u v) (Own NotOwed) s a t d record { same = refl; because = (λ z. clash (leb v 127) ok z, λ z. (e, refl)) }

  pub hush_not_owed : (p u : ℕ) → (meaning s).owed u ≡ false → Refused (Own NotOwed) s a t → Means (layer_denial sees) meaning s (Hush p u) a t
  hush_not_owed p u e d = refused (layer_denial sees) meaning (Hush p u) (Own NotOwed) s a t d record { same = refl; because = (e, refl) }

  pub tell_refused : (p c n v : ℕ) → tellable c n v ≡ false → Refused (Own TellOutOfRange) s a t → Means (layer_denial sees) meaning s (Tell p c n v) a t
  tell_refused p c n v e d = refused (layer_denial sees) meaning (Tell p c n v) (Own TellOutOfRange) s a t d record { same = refl; because = (e, refl) }

  pub item_refused : (p d i : ℕ) (v : ℤ) → Refused (Own NoSuchItem) s a t → Means (layer_denial sees) meaning s (Set p d i v) a t
  item_refused p d i v r = refused (layer_denial sees) meaning (Set p d i v) (Own NoSuchItem) s a t r record { same = refl; because = (omega arith, omega arith) }

  pub value_refused : (p d i : ℕ) (v : ℤ) → Refused (Own ValueOutOfRange) s a t → Means (layer_denial sees) meaning s (Set p d i v) a t
  value_refused p d i v r = refused (layer_denial sees) meaning (Set p d i v) (Own ValueOutOfRange) s a t r record { same = refl; because = (omega arith, omega arith) }

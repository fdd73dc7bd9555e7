-- How the words of a feed are read one by one.
use Rattle.std.proofs.Common.{◌≡◌, ℕ, List, ◌∷◌, ◌++◌, Some, None, Ok, Err, Option, sym, refl, ap, ◌∙◌, append_assoc}
use Rattle.script.specs.declared.unread.Unread.{Unread}
use Rattle.script.specs.declared.unread.Unread.TheVariants.{Memory, Unreadable}
use Rattle.script.specs.Lines.{Tells}
use Rattle.script.specs.Numbers.{hex_bytes, joined_bytes, all_bytes, Adds}
use Rattle.script.specs.Meanings.{feeds_all}

-- a word that is not read leaves no bytes
stops_at : (xs ys : List ℕ) (word rest : Option (List ℕ)) → Adds (Err Unreadable) xs word ys → None ≡ joined_bytes (Some xs) (joined_bytes word rest)
stops_at xs ys None rest adds = refl
stops_at xs ys (Some bs) rest adds = absurd adds

pub not_fed : (e : Unread) (xs ys w : List ℕ) (us ws : List (List ℕ)) (all : Option (List ℕ)) → us ≡ w ∷ ws → Adds (Err e) xs (hex_bytes w) ys → joined_bytes (Some xs) (all_bytes us) ≡ all → Tells (Err e) (feeds_all all)
not_fed (Memory e) xs ys w us ws all split adds sofar = tt
not_fed Unreadable xs ys w us ws all split adds sofar =
    ap feeds_all (stops_at xs ys (hex_bytes w) (all_bytes ws) adds ∙ ap (λ l. joined_bytes (Some xs) (all_bytes l)) (sym split) ∙ sofar)

goes_on_at : (xs ys : List ℕ) (word rest : Option (List ℕ)) → Adds (Ok tt) xs word ys → joined_bytes (Some ys) rest ≡ joined_bytes (Some xs) (joined_bytes word rest)
goes_on_at xs ys None rest adds = absurd adds
goes_on_at xs ys (Some bs) None adds = refl
goes_on_at xs ys (Some bs) (Some cs) adds = ap Some (ap (λ l. l ++ cs) adds ∙ append_assoc xs bs cs)

pub goes_on : (xs ys w : List ℕ) (us ws : List (List ℕ)) (all : Option (List ℕ)) → us ≡ w ∷ ws → Adds (Ok tt) xs (hex_bytes w) ys → joined_bytes (Some xs) (all_bytes us) ≡ all → joined_bytes (Some ys) (all_bytes ws) ≡ all
goes_on xs ys w us ws all e adds sofar =
    goes_on_at xs ys (hex_bytes w) (all_bytes ws) adds ∙ ap (λ l. joined_bytes (Some xs) (all_bytes l)) (sym e) ∙ sofar

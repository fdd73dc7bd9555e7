-- The foremost of some notes, and which of them sound.
use Rattle.std.proofs.Common.{◌≡◌, Bool, true, false, cond, not, ◌&&◌, ◌||◌, List, [], ◌∷◌, ◌++◌, sym, refl, ap, ◌∙◌, subst, ap₂, append-nil, append_assoc}
use Rattle.std.specs.List.{filter, fold, reduce}
use mathlib.Core.Bool.{and-true}
use Rattle.sink.proofs.Bools.{clash}
use Rattle.std.proofs.lemmas.Bool.{and_parts, and_left, and_right}
use Rattle.std.proofs.Math.Bool.{and_assoc, or_self}
use Rattle.roll.specs.declared.note.Note.{Note}
use Rattle.roll.specs.Notes.{left_out}
use Rattle.quota.specs.Orders.{leads, NoneLeads, Foremost, Chosen}

flipped : (b : Bool) (xs ys : List Note) → cond b xs ys ≡ cond (not b) ys xs
flipped true xs ys = refl
flipped false xs ys = refl

-- the notes that pass a test are those left without the others
pub kept_by : (p : Note → Bool) (ns : List Note) → filter p ns ≡ left_out (λ n. not (p n)) ns
unfolding left_out
kept_by p [] = refl
kept_by p (n ∷ ns) = ap (λ l. cond (p n) (n ∷ l) l) (kept_by p ns) ∙ flipped (p n) (n ∷ left_out (λ m. not (p m)) ns) (left_out (λ m. not (p m)) ns)

-- the better of two, the younger last
abbrev pub first_of : (Note → Note → Bool) → Note → Note → Note
first_of before m n = cond (before m n) m n

module _ (before : Note → Note → Bool)
    (total : (m n : Note) → (before m n || before n m) ≡ true)
    (carries : (l m n : Note) → before l m ≡ true → before m n ≡ true → before l n ≡ true) where
  level : (n : Note) → before n n ≡ true
  level n = sym (or_self (before n n)) ∙ total n n

  other : (m n : Note) → before m n ≡ false → before n m ≡ true
  other m n e = sym (ap (λ b. b || before n m) e) ∙ total m n

  leads_snoc : (x n : Note) (l : List Note) → leads before x (l ++ (n ∷ [])) ≡ (leads before x l && before x n)
  unfolding leads
  leads_snoc x n [] = and-true (before x n)
  leads_snoc x n (m ∷ l) = ap (λ b. before x m && b) (leads_snoc x n l) ∙ sym (and_assoc (before x m) (leads before x l) (before x n))

  through : (n m : Note) (l : List Note) → before n m ≡ true → leads before m l ≡ true → leads before n l ≡ true
  unfolding leads
  through n m [] e h = refl
  through n m (x ∷ l) e h = ap₂ ◌&&◌ (carries n m x e (and_parts (before m x) (leads before m l) h).0) (through n m l e (and_parts (before m x) (leads before m l) h).1)

  none_snoc : (xs l : List Note) (n : Note) → NoneLeads before xs l → NoneLeads before xs (l ++ (n ∷ []))
  unfolding NoneLeads
  none_snoc [] l n h = tt
  none_snoc (x ∷ xs) l n h = (leads_snoc x n l ∙ and_left (leads before x l) (before x n) h.0, none_snoc xs l n h.1)

  -- what the best so far leads does not lead a note that goes before the best
  behind_one : (m n x : Note) → before m x ≡ true → before m n ≡ false → (b : Bool) → before x n ≡ b → b ≡ false
  behind_one m n x e f true q = clash (before m n) (carries m x n e q) f
  behind_one m n x e f false q = refl

  behind : (m n : Note) (xs l : List Note) → before m n ≡ false → leads before m xs ≡ true → NoneLeads before xs (l ++ (n ∷ []))
  unfolding NoneLeads leads
  behind m n [] l e h = tt
  behind m n (x ∷ xs) l e h = (
    leads_snoc x n l ∙ and_right (leads before x l) (before x n) (behind_one m n x (and_parts (before m x) (leads before m xs) h).0 e (before x n) refl),
    behind m n xs l e (and_parts (before m x) (leads before m xs) h).1,
  )

  still : (m n : Note) (l : List Note) → before m n ≡ true → Foremost before l m → Foremost before (l ++ (n ∷ [])) m
  still m n l e f = record {
    older = f.older;
    younger = f.younger ++ (n ∷ []);
    place = ap (λ r. r ++ (n ∷ [])) f.place ∙ append_assoc f.older (m ∷ f.younger) (n ∷ []);
    leads_all = leads_snoc m n l ∙ ap₂ ◌&&◌ f.leads_all e;
    oldest = none_snoc f.older l n f.oldest;
  }

  now_first : (m n : Note) (l : List Note) → before m n ≡ false → Foremost before l m → Foremost before (l ++ (n ∷ [])) n
  now_first m n l e f = record {
    older = l;
    younger = [];
    place = refl;
    leads_all = leads_snoc n n l ∙ ap₂ ◌&&◌ (through n m l (other m n e) f.leads_all) (level n);
    oldest = behind m n l l e f.leads_all;
  }

  best_step : (m n : Note) (l : List Note) (b : Bool) → before m n ≡ b → Foremost before l m → Foremost before (l ++ (n ∷ [])) (cond b m n)
  best_step m n l true e f = still m n l e f
  best_step m n l false e f = now_first m n l e f

  alone : (n : Note) → Foremost before (n ∷ []) n
  unfolding leads NoneLeads
  alone n = record { older = []; younger = []; place = refl; leads_all = and-true (before n n) ∙ level n; oldest = tt }

  further : (m : Note) (l ns : List Note) → Foremost before l m → Foremost before (l ++ ns) (fold (first_of before) m ns)
  further m l [] f = subst (λ r. Foremost before r m) (sym (append-nil l)) f
  further m l (n ∷ ns) f =
      subst (λ r. Foremost before r (fold (first_of before) (first_of before m n) ns)) (append_assoc l (n ∷ []) ns) (further (first_of before m n) (l ++ (n ∷ [])) ns (best_step m n l (before m n) refl f))

  pub chosen : (ns : List Note) → Chosen before ns (reduce (first_of before) ns)
  chosen [] = refl
  chosen (n ∷ ns) = further n (n ∷ []) ns (alone n)

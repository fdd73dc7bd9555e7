-- One turn of a feed, and its beginning.
use Rattle.std.proofs.Common.{◌≡◌, ℕ, List, [], ◌∷◌, ◌++◌, length, true, None, Ok, Err, Option, Result, is_ok, sym, ap, ◌∙◌, append_assoc}
use Rattle.reader.specs.Rules.{Reading}
use Rattle.reader.specs.Ahead.{listed, Numbered}
use Rattle.reader.specs.declared.items.Item.{Item}
use Rattle.reader.specs.declared.pieces.Piece.{Piece}

pub one_on : (rs : List Reading) (r : Reading) (now then start : List Reading) → rs ++ now ≡ start → now ≡ r ∷ then → (rs ++ (r ∷ [])) ++ then ≡ start
one_on rs r now then start so_far e = append_assoc rs (r ∷ []) then ∙ ap (λ l. rs ++ l) (sym e) ∙ so_far

pub none_listed : (o : Option Item) → o ≡ None → length (listed o) ≡ 0
none_listed o e = ap (λ p. length (listed p)) e

-- a piece whose places could be numbered has its bytes and no item pending
pub numbered : {E : Type 0} (r : Result (Unit {0}) E) (c c' : Piece) (p : ℕ) → is_ok r ≡ true → Numbered c p r c' → (c'.rest.now ≡ c.rest.now) × (c'.pending ≡ c.pending)
numbered (Ok _) c c' p e n = (n.2, n.3)
numbered (Err _) c c' p e n = absurd (cc)

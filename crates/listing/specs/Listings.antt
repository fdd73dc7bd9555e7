-- What listing one piece more gives.
use Rattle.std.specs.Prelude.{◌≡◌, ℕ, ◌+◌, ◌^◌, ◌<◌, ◌≤◌, List, length, Ok, Err, string_bytes, Result, String}
use Rattle.std.specs.declared.alloc.Global.{Global}
use Rattle.reader.specs.Rules.{reads, reaches}
use Rattle.listing.specs.declared.errors.ListError.{ListError}
use Rattle.listing.specs.declared.errors.ListError.TheVariants.{Memory, Places}
use Rattle.listing.specs.declared.Listing.{Listing}
use Rattle.listing.specs.Lines.{text_of}

-- the piece's lines, and the listing behind it; or nothing changed
abbrev pub Lists : Listing → List ℕ → Result (String Global) ListError → Listing → Type 0
Lists l bs (Ok t) l' =
    (string_bytes t ≡ text_of (reads l.reader.state l.place bs))
    × (l'.reader.state ≡ reaches l.reader.state bs)
    × (l'.place ≡ l.place + length bs)
Lists l bs (Err Places) l' = (2 ^ 64 ≤ l.place + length bs) × (l' ≡ l)
Lists l bs (Err Memory) l' = (l.place + length bs < 2 ^ 64) × (l' ≡ l)

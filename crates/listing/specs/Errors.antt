use Rattle.std.specs.Prelude.{ℕ, List, codes}
use Rattle.listing.specs.declared.errors.ListError.{ListError}
use Rattle.listing.specs.declared.errors.ListError.TheVariants.{Memory, Places}

abbrev pub error_text : ListError → List ℕ
error_text Memory = codes "no memory for the lines"
error_text Places = codes "places pass 64 bits"

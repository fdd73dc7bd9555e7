-- What a chest without wind means: nothing is ever owed.
use Rattle.std.specs.Prelude.{false}
use Rattle.sink.specs.Faults.{Denial, here}
use Rattle.sink.specs.Meaning.{Meaning, refuses}
use Rattle.builder_sinks.specs.declared.windless.ChestFault.{ChestFault}
use Rattle.builder_sinks.specs.declared.windless.ChestFault.TheVariants.{NoWind, Plain}
use Rattle.builder_sinks.specs.declared.windless.Windless.{Windless}

abbrev pub chest_denial : ChestFault → Denial
chest_denial NoWind = record { number = 200; depth = 0 }
chest_denial (Plain cause) = here cause

abbrev pub windless_meaning : Windless → Meaning
windless_meaning s = record {
  ready = refuses (chest_denial NoWind);
  owed = λ u. false;
  kept = λ u. false;
  sounding = λ u. false;
}

abbrev pub WindlessSound : Windless → Type 0
WindlessSound s = Unit {0}

-- What is counted, and the key table.
use Rattle.std.specs.Prelude.{ℕ, ◌+◌, ◌*◌, cond, ◌&&◌, ◌||◌, List, Some, None, Option, ◌==◌, nat_le, slice_index_or, slice_set}
use Rattle.sink.specs.Calls.{Answer, ticket, done, denied}
use Rattle.run.specs.declared.counts.Counts.{Counts}
use Rattle.run.specs.declared.counts.DeniedStart.{DeniedStart}
use Rattle.run.specs.declared.counts.Tally.{Tally}
use Rattle.run.specs.declared.player.acts.ControlUse.{ControlUse}
use Rattle.run.specs.declared.player.acts.ControlUse.TheVariants as use_is

-- all counts together, which bounds each of them
abbrev pub total : {F : Type 0} → Counts F → ℕ
total y = y.note_ons + y.taken + y.denied + y.returned + y.stray + y.passed

abbrev pub fresh : {F : Type 0} → Counts F
fresh = record { note_ons = 0; taken = 0; denied = 0; returned = 0; stray = 0; passed = 0; first = None }

-- the counts with the number of bytes read
abbrev pub tally_of : {F : Type 0} → ℕ → Counts F → Tally F
tally_of n y = record { count = n; note_ons = y.note_ons; taken = y.taken; denied = y.denied; returned = y.returned; stray = y.stray; passed = y.passed; first = y.first }

-- a release, by its answer
abbrev pub returned_by : {F : Type 0} → Answer F → Counts F → Counts F
returned_by (ticket t) y = y
returned_by done y = record { note_ons = y.note_ons; taken = y.taken; denied = y.denied; returned = y.returned + 1; stray = y.stray; passed = y.passed; first = y.first }
returned_by (denied f) y = y

-- the first denial stays
abbrev pub remembered : {F : Type 0} → Option (DeniedStart F) → DeniedStart F → Option (DeniedStart F)
remembered None d = Some d
remembered (Some e) d = Some e

abbrev pub denied_start : {F : Type 0} → (place channel key : ℕ) → F → DeniedStart F
denied_start place channel key f = record { fault = f; place = place; channel = channel; key = key }

-- a Note-on's start, by its answer
abbrev pub started_by : {F : Type 0} → (place channel key : ℕ) → Answer F → Counts F → Counts F
started_by place c k (ticket t) y = record { note_ons = y.note_ons + 1; taken = y.taken + 1; denied = y.denied; returned = y.returned; stray = y.stray; passed = y.passed; first = y.first }
started_by place c k done y = y
started_by place c k (denied f) y = record { note_ons = y.note_ons + 1; taken = y.taken; denied = y.denied + 1; returned = y.returned; stray = y.stray; passed = y.passed; first = remembered y.first (denied_start place c k f) }

-- a Note-off that found no ticket
abbrev pub strayed : {F : Type 0} → Counts F → Counts F
strayed y = record { note_ons = y.note_ons; taken = y.taken; denied = y.denied; returned = y.returned; stray = y.stray + 1; passed = y.passed; first = y.first }

abbrev pub passed_over : {F : Type 0} → Counts F → Counts F
passed_over y = record { note_ons = y.note_ons; taken = y.taken; denied = y.denied; returned = y.returned; stray = y.stray; passed = y.passed + 1; first = y.first }

-- ---- the key table: 128 places for each channel, one for each key

abbrev pub spot : (channel key : ℕ) → ℕ
spot c k = 128 * c + k

abbrev pub at : List (Option ℕ) → ℕ → Option ℕ
at T i = slice_index_or T i None

-- the ticket that a start answers goes into the table
abbrev pub entered : {F : Type 0} → ℕ → Answer F → List (Option ℕ) → List (Option ℕ)
entered i (ticket t) T = slice_set T i (Some t)
entered i done T = T
entered i (denied f) T = T

-- ---- controllers

-- the pedals and Reset All Controllers are told; All Sound Off and the modes from All Notes Off on release the channel's tickets first; any other is passed over
abbrev pub use_of : ℕ → ControlUse
use_of n =
    cond (n == 64 || (n == 66 || n == 121)) use_is.Tell (
    cond (n == 120 || (nat_le 123 n && nat_le n 127)) use_is.ReleaseAndTell use_is.PassOver)

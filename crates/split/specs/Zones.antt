-- Where a split sends a start, and what its items are.
use Rattle.std.specs.Prelude.{◌≡◌, ℕ, Bool, cond, ℤ, pos, Ok, Err, Result, ◌==◌, nat_le, nat_lt}
use Rattle.sink.specs.Calls.{within}
use Rattle.sink.specs.declared.fault.Cause.{Cause}
use Rattle.sink.specs.declared.fault.Cause.TheVariants.{NoSuchItem, ValueOutOfRange}
use Rattle.split.specs.declared.zones.Zones.{Zones}

abbrev pub AllZero : Zones → Type 0
AllZero z = (z.channel ≡ 0) × (z.key ≡ 0) × (z.low ≡ 0) × (z.high ≡ 0)

-- below its key a key goes low, otherwise high
abbrev pub side : Zones → (key : ℕ) → ℕ
side z k = cond (nat_lt k z.key) z.low z.high

-- the channel that a start goes to
abbrev pub sent_to : Zones → (channel key : ℕ) → ℕ
sent_to z c k = cond (c == z.channel) (side z k) c

-- item 1, the key, is 0 to 128; the others are channels
abbrev pub is_value : (item : ℕ) → ℤ → Bool
is_value item value = within 0 (cond (item == 1) 128 15) value

abbrev pub put : (item : ℕ) (value : ℤ) → (this was : ℕ) → ℤ
put item value this was = cond (item == this) value (pos was)

-- one item has the value, the others are as they were
pub record Changed (item : ℕ) (value : ℤ) (z z' : Zones) : Type 0 where
  pub channel : pos z'.channel ≡ put item value 0 z.channel
  pub key : pos z'.key ≡ put item value 1 z.key
  pub low : pos z'.low ≡ put item value 2 z.low
  pub high : pos z'.high ≡ put item value 3 z.high

-- an item set, or why not and the zones as they were
abbrev pub ZonesSet : (item : ℕ) (value : ℤ) → Zones → Result (Unit {0}) Cause → Zones → Type 0
ZonesSet item value z r z' =
    cond (nat_le item 3)
    (cond (is_value item value) ((r ≡ Ok tt) × Changed item value z z') ((r ≡ Err ValueOutOfRange) × (z' ≡ z)))
    ((r ≡ Err NoSuchItem) × (z' ≡ z))

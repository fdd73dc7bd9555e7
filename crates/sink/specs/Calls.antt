-- The calls of a sink and their answers.
use Rattle.std.specs.Prelude.{ℕ, Bool, ◌&&◌, ◌||◌, ℤ, pos, Ok, Err, Result, ◌==◌, int_le, nat_le}

pub data Call : Type 0 where
  Start : (place channel key velocity : ℕ) → Call
  Release : (place ticket velocity : ℕ) → Call
  Hush : (place ticket : ℕ) → Call
  Tell : (place channel controller value : ℕ) → Call
  Set : (place depth item : ℕ) (value : ℤ) → Call
  Clear : (place : ℕ) → Call

-- a ticket for an accepted start, done for any other call that is accepted, or the fault
pub data Answer (F : Type 0) : Type 0 where
  ticket : ℕ → Answer F
  done : Answer F
  denied : F → Answer F

abbrev pub started : {F : Type 0} → Result ℕ F → Answer F
started (Ok t) = ticket t
started (Err f) = denied f

abbrev pub finished : {F : Type 0} → Result (Unit {0}) F → Answer F
finished (Ok _) = done
finished (Err f) = denied f

-- a start's numbers are in range
abbrev pub startable : ℕ → ℕ → ℕ → Bool
startable channel key velocity = nat_le channel 15 && (nat_le key 127 && (nat_le 1 velocity && nat_le velocity 127))

-- the controllers that sinks listen to
abbrev pub heard : ℕ → Bool
heard controller = controller == 64 || (controller == 66 || (controller == 120 || (controller == 121 || (nat_le 123 controller && nat_le controller 127))))

-- a tell's numbers are in range
abbrev pub tellable : ℕ → ℕ → ℕ → Bool
tellable channel controller value = nat_le channel 15 && (nat_le value 127 && heard controller)

-- an item's value lies in the item's range
abbrev pub within : (low high : ℕ) → ℤ → Bool
within low high value = int_le (pos low) value && int_le value (pos high)

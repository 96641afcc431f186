-- What may happen to the chips of a line. Resets, bits and dwells are steps of a master; that power fails or comes is none.
use Rattle.std.specs.Prelude.{ℕ, Bool}
use Rattle.chip.specs.ChipStates.{ChipState, take_bit, reset_chip, dwell_chip, cut_chip, power_chip}

pub data Event : Type 0 where
  reset_came : Event
  bit_came : Bool → Event
  dwell_came : Event
  power_failed : ℕ → Event  -- with a mask for a row that is being programmed
  power_came : Event

-- what it does to each chip
abbrev pub effect : Event → ChipState → ChipState
effect reset_came = reset_chip
effect (bit_came bit) = take_bit bit
effect dwell_came = dwell_chip
effect (power_failed mask) = cut_chip mask
effect power_came = power_chip

-- What a chip may have met since its making: nothing but the events of a line.
use Rattle.std.specs.Prelude.{◌≡◌, ◌^◌, ◌<◌, List, [], ◌∷◌}
use Rattle.base.specs.RegistrationNumbers.{IsChecked}
use Rattle.memory.specs.Memories.{FreshMemory}
use Rattle.chip.specs.Chips.{off}
use Rattle.chip.specs.ChipStates.{ChipState}
use Rattle.chip.specs.Events.{Event, effect}

-- events one after another
abbrev pub effects : List Event → ChipState → ChipState
effects [] c = c
effects (e ∷ es) c = effects es (effect e c)

-- a chip as it is made: any registration number, any lawful kind, any image, no power
pub record Fresh (c : ChipState) : Type 0 where
  pub wide : c.number < 2 ^ 64
  pub checked : IsChecked c.number
  pub unpowered : c.live ≡ off
  pub memory : FreshMemory c.memory

pub record Met (c : ChipState) : Type 0 where
  pub made : ChipState
  pub fresh : Fresh made
  pub history : List Event
  pub so : c ≡ effects history made

abbrev pub MetAll : List ChipState → Type 0
MetAll [] = Unit {0}
MetAll (c ∷ cs) = Met c × MetAll cs

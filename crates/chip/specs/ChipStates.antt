-- A chip with a memory of any protocol: its questions, and what each event makes of it.
use Rattle.std.specs.Prelude.{ℕ, Bool, true, false, List, [], ◌∷◌, ◌==◌}
use Rattle.memory.specs.Memories.{Memory, protocols, select_memory, bytes_in}
use Rattle.chip.specs.Chips.{ChipOver, Live, powered, off, on, idle, selected, taken, busy, pulled, reset, dwelt, cut, powered_up}

abbrev pub ChipState : Type 0
ChipState = ChipOver Memory

-- a chip as it is made: without power
abbrev pub made_chip : ℕ → Memory → ChipState
made_chip number memory = record { number = number; live = off; memory = memory }

-- its bytes
abbrev pub bytes_of : ChipState → List ℕ
bytes_of c = bytes_in c.memory

abbrev pub has_power : ChipState → Bool
has_power c = powered c.live

abbrev pub is_busy : ChipState → Bool
is_busy c = busy protocols c

-- the bit it pulls; 1 where it pulls nothing
abbrev pub pull_of : ChipState → Bool
pull_of c = pulled protocols c

abbrev pub take_bit : Bool → ChipState → ChipState
take_bit b c = taken protocols b c

abbrev pub reset_chip : ChipState → ChipState
reset_chip c = reset protocols c

abbrev pub dwell_chip : ChipState → ChipState
dwell_chip c = dwelt protocols c

abbrev pub cut_chip : ℕ → ChipState → ChipState
cut_chip mask c = cut protocols mask c

abbrev pub power_chip : ChipState → ChipState
power_chip c = powered_up protocols c

-- the bits of a list taken one after another
abbrev pub takes : List Bool → ChipState → ChipState
takes [] c = c
takes (b ∷ bs) c = takes bs (take_bit b c)

-- a chip after a reset and 55h with a number: powered, it is selected if the number is its own, else idle
abbrev pub opened_as : Live → Bool → ChipState → ChipState
opened_as off same c = c
opened_as (on rc p) true c = record { number = c.number; live = on true selected; memory = select_memory c.memory }
opened_as (on rc p) false c = record { number = c.number; live = on false idle; memory = c.memory }

abbrev pub opened_by : ℕ → ChipState → ChipState
opened_by x c = opened_as c.live (c.number == x) c

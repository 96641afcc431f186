-- What a chip of the code means.
use Rattle.std.specs.Prelude.{Some, None, Option}
use Rattle.base.specs.BitQueues.{arrived, queue}
use Rattle.memory.specs.Memories.{Memory}
use Rattle.chip.specs.Chips.{Live as LiveState, off, on, Phase, idle, command, sending, matching, searching, rom_bit, complement, direction, selected}
use Rattle.chip.specs.ChipStates.{ChipState}
use Rattle.chip.specs.declared.rom_phase.RomPhase.{RomPhase}
use Rattle.chip.specs.declared.rom_phase.RomPhase.TheVariants.{Idle, Command, SendRom, MatchBits, SearchBit, SearchComplement, SearchDirection, Selected}
use Rattle.chip.specs.declared.rom_phase.Live.{Live}
use Rattle.chip.specs.declared.chip.Chip.{Chip}

abbrev pub phase_of : RomPhase → Phase
phase_of Idle = idle
phase_of (Command bits) = command (arrived bits)
phase_of (SendRom rest) = sending (queue rest)
phase_of (MatchBits rest) = matching (queue rest)
phase_of (SearchBit rest) = searching rom_bit (queue rest)
phase_of (SearchComplement rest) = searching complement (queue rest)
phase_of (SearchDirection rest) = searching direction (queue rest)
phase_of Selected = selected

-- without power nothing is left of RC and the phase
abbrev pub live_of : Option Live → LiveState
live_of None = off
live_of (Some l) = on l.rc (phase_of l.phase)

module _ {P : Type 0} (memory : P → Memory) where
  abbrev pub model : Chip P → ChipState
  model c = record { number = c.number.word; live = live_of c.live; memory = memory c.memory }

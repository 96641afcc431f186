-- The commands of the code, and their bytes.
use Rattle.std.specs.Prelude.{◌≡◌, ℕ, Ok, Err, Result}
use Rattle.memory.specs.Scratchpads.{Command, write_scratchpad, read_scratchpad, copy_scratchpad, read_memory, unknown, command_of}
use Rattle.memory.specs.declared.memory_command.UnknownCommand.{UnknownCommand}
use Rattle.memory.specs.declared.memory_command.MemoryCommand.{MemoryCommand}
use Rattle.memory.specs.declared.memory_command.MemoryCommand.TheVariants.{WriteScratchpad, ReadScratchpad, CopyScratchpad, ReadMemory}

abbrev pub byte_of : MemoryCommand → ℕ
byte_of WriteScratchpad = 0x0F
byte_of ReadScratchpad = 0xAA
byte_of CopyScratchpad = 0x55
byte_of ReadMemory = 0xF0

abbrev pub meant : MemoryCommand → Command
meant WriteScratchpad = write_scratchpad
meant ReadScratchpad = read_scratchpad
meant CopyScratchpad = copy_scratchpad
meant ReadMemory = read_memory

-- what a byte is taken for: its command; an error carries a byte that is none
abbrev pub TakenFor : ℕ → Result MemoryCommand UnknownCommand → Type 0
TakenFor byte (Ok command) = meant command ≡ command_of byte
TakenFor byte (Err e) = (command_of byte ≡ unknown) × (e.0 ≡ byte)

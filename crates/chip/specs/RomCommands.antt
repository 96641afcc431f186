-- The commands of the code, and their bytes.
use Rattle.std.specs.Prelude.{◌≡◌, ℕ, Ok, Err, Result}
use Rattle.memory.specs.declared.memory_command.UnknownCommand.{UnknownCommand}
use Rattle.chip.specs.Chips.{Command, read_rom, match_rom, search_rom, skip_rom, resume, unknown, command_of}
use Rattle.chip.specs.declared.rom_command.RomCommand.{RomCommand}
use Rattle.chip.specs.declared.rom_command.RomCommand.TheVariants.{ReadRom, MatchRom, SearchRom, SkipRom, Resume}

abbrev pub byte_of : RomCommand → ℕ
byte_of ReadRom = 0x33
byte_of MatchRom = 0x55
byte_of SearchRom = 0xF0
byte_of SkipRom = 0xCC
byte_of Resume = 0xA5

abbrev pub meant : RomCommand → Command
meant ReadRom = read_rom
meant MatchRom = match_rom
meant SearchRom = search_rom
meant SkipRom = skip_rom
meant Resume = resume

-- what a byte is taken for: its command; an error carries a byte that is none
abbrev pub TakenFor : ℕ → Result RomCommand UnknownCommand → Type 0
TakenFor byte (Ok command) = meant command ≡ command_of byte
TakenFor byte (Err e) = (command_of byte ≡ unknown) × (e.0 ≡ byte)

-- What the memory of the code means.
use Rattle.std.specs.Prelude.{◌≡◌, List, [], ◌++◌, ℕ, drop}
use Rattle.base.specs.Bits.{bits_all}
use Rattle.base.specs.BitQueues.{arrived, queue}
use Rattle.base.specs.Crc.{crc16, inverted}
use Rattle.kinds.specs.Kinds.{Rules}
use Rattle.memory.specs.Scratchpads.{Padded, Regs, on, Doing, idle, programming, taking, sending, alternating, report, await, Awaited, command, load_low, load_high, load_data, copy_low, copy_high, copy_status, read_low, read_high}
use Rattle.memory.specs.RegistersModel.{regs_of}
use Rattle.memory.specs.declared.memory_phase.Await.{Await}
use Rattle.memory.specs.declared.memory_phase.Await.TheVariants.{Command, LoadLow, LoadHigh, LoadData, CopyLow, CopyHigh, CopyStatus, ReadLow, ReadHigh}
use Rattle.memory.specs.declared.memory_phase.Phase.{Phase}
use Rattle.memory.specs.declared.memory_phase.Phase.TheVariants.{Idle, Programming, Taking, SendReport, SendSum, SendMemory, SendOnes, Alternating}
use Rattle.memory.specs.declared.scratchpad_memory.ScratchpadMemory.{ScratchpadMemory}

-- bytes still to be sent, and then the inverted sum that goes on from `sum`
abbrev pub closing : ℕ → List ℕ → List ℕ
closing sum rest = rest ++ inverted (crc16 sum rest)

abbrev pub awaited : Await → Awaited
awaited Command = command
awaited LoadLow = load_low
awaited LoadHigh = load_high
awaited (LoadData offset sum) = load_data offset.at sum
awaited CopyLow = copy_low
awaited (CopyHigh low) = copy_high low
awaited (CopyStatus low high) = copy_status low high
awaited ReadLow = read_low
awaited (ReadHigh low) = read_high low

-- a phase by what it will still send
abbrev pub doing : Regs → List ℕ → Phase → Doing
doing r m Idle = idle
doing r m Programming = programming
doing r m (Taking what bits) = taking (awaited what) (arrived bits)
doing r m (SendReport next sum out) = sending (queue out ++ bits_all (closing sum (drop next (report r))))
doing r m (SendSum rest) = sending (queue rest)
doing r m (SendMemory next out) = sending (queue out ++ bits_all (drop next m))
doing r m SendOnes = sending []
doing r m (Alternating bit) = alternating bit

-- a phase that has just begun to take a byte
abbrev pub Awaits : Await → Phase → Type 0
Awaits w p = (r : Regs) (m : List ℕ) → doing r m p ≡ await (awaited w)

module _ {K : Type 0} (rules : Rules) (bytes : K → List ℕ) where
  abbrev pub model : ScratchpadMemory K → Padded
  model c = record { rules = rules; bytes = bytes c.kind; work = on (regs_of c.regs) (doing (regs_of c.regs) (bytes c.kind) c.phase) }

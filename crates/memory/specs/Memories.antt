-- The memory behind a chip's number, of any protocol.
use Rattle.std.specs.Prelude.{◌≡◌, ℕ, Bool, List, length}
use Rattle.kinds.specs.Kinds.{Rules, Lawful, Bytes}
use Rattle.memory.specs.Scratchpads.{Padded, take_pad, select_pad, power_up_pad, dwell_pad, cut_pad, pull_doing, is_programming, on, fresh, idle}

-- what a protocol settles
pub record Protocol (S : Type 0) : Type 0 where
  pub power_up : S → S  -- power has come
  pub select : S → S  -- the memory phase begins
  pub take : S → Bool → S  -- a bit is taken in the memory phase
  pub pull : S → Bool
  pub programming : S → Bool
  pub dwell : S → S
  pub cut : S → ℕ → S  -- power fails, with a mask

pub data Memory : Type 0 where
  padded : Padded → Memory

abbrev pub power_up_memory : Memory → Memory
power_up_memory (padded p) = padded (power_up_pad p)

abbrev pub select_memory : Memory → Memory
select_memory (padded p) = padded (select_pad p)

abbrev pub take_memory : Memory → Bool → Memory
take_memory (padded p) b = padded (take_pad p b)

abbrev pub pull_memory : Memory → Bool
pull_memory (padded p) = pull_doing p.work.doing

abbrev pub programming_memory : Memory → Bool
programming_memory (padded p) = is_programming p.work.doing

abbrev pub dwell_memory : Memory → Memory
dwell_memory (padded p) = padded (dwell_pad p)

abbrev pub cut_memory : Memory → ℕ → Memory
cut_memory (padded p) mask = padded (cut_pad p mask)

abbrev pub protocols : Protocol Memory
protocols = record {
  power_up = power_up_memory;
  select = select_memory;
  take = take_memory;
  pull = pull_memory;
  programming = programming_memory;
  dwell = dwell_memory;
  cut = cut_memory;
}

-- the readable bytes
abbrev pub bytes_in : Memory → List ℕ
bytes_in (padded p) = p.bytes

-- the figures and rules of its kind
abbrev pub kind_in : Memory → Rules
kind_in (padded p) = p.rules

-- a memory of the scratchpad protocol
abbrev pub HasScratchpad : Memory → Type 0
HasScratchpad m = (p : Padded) × (m ≡ padded p)

-- a memory just made of a lawful kind from an image
pub record FreshPad (p : Padded) : Type 0 where
  pub lawful : Lawful p.rules
  pub image : List ℕ
  pub length_is : length image ≡ p.rules.image
  pub bytes : Bytes image
  pub so : p.bytes ≡ p.rules.made image
  pub work : p.work ≡ on fresh idle

abbrev pub FreshMemory : Memory → Type 0
FreshMemory (padded p) = FreshPad p

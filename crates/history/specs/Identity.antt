-- A tag is its number and its bytes: nothing else tells two tags of one kind apart.
use Rattle.std.specs.Prelude.{◌≡◌, ◌^◌, ◌<◌, false, ◌↔◌, List, [], ◌∷◌, length}
use Rattle.base.specs.RegistrationNumbers.{IsChecked}
use Rattle.kinds.specs.Kinds.{Bytes, row_length}
use Rattle.memory.specs.Memories.{kind_in, HasScratchpad}
use Rattle.chip.specs.ChipStates.{ChipState, bytes_of, has_power}
use Rattle.chip.specs.Histories.{Met}
use Rattle.rig.specs.Rigs.{RigState, made_rig, power_rig}
use Rattle.history.specs.Calls.{Request, reset, slot, dwell, cut, power_up, fuse, rom_search, read, order, Reply, serve_all}

-- arguments that a master can give: words of 64 bits, registration numbers, addresses of 16 bits, rows of bytes
abbrev pub Given : Request → Type 0
Given reset = Unit {0}
Given (slot b) = Unit {0}
Given dwell = Unit {0}
Given (cut mask) = mask < 2 ^ 64
Given power_up = Unit {0}
Given (fuse count mask) = (count < 2 ^ 32) × (mask < 2 ^ 64)
Given (rom_search places) = Unit {0}
Given (read x row) = (x < 2 ^ 64) × IsChecked x × (row < 65536)
Given (order x row new) = (x < 2 ^ 64) × IsChecked x × (row < 65536) × (length new ≡ row_length) × Bytes new

abbrev pub GivenAll : List Request → Type 0
GivenAll [] = Unit {0}
GivenAll (q ∷ qs) = Given q × GivenAll qs

-- no list of calls tells two rigs apart
abbrev pub Alike : RigState → RigState → Type 0
Alike r s = (qs : List Request) → GivenAll qs → (serve_all qs r).1 ≡ (serve_all qs s).1

-- a rig whose only chip is c, with a scratchpad, once a power-up found it without power, with no fuse set, after a history of calls
pub record JustUp (r : RigState) (c : ChipState) : Type 0 where
  pub pad : HasScratchpad c.memory
  pub made : ChipState
  pub met : Met made
  pub history : List Request
  pub unpowered : has_power c ≡ false
  pub was : (serve_all history (made_rig (made ∷ []))).0 ≡ made_rig (c ∷ [])
  pub so : r ≡ power_rig (made_rig (c ∷ []))

-- of this rig: if its only chip was just powered up, it and another such rig, with a chip of that kind, are alike exactly when the numbers and the bytes are equal
abbrev pub KnownByBytes : RigState → Type 0
KnownByBytes r =
    (s : RigState) (c d : ChipState) → JustUp r c → JustUp s d → kind_in c.memory ≡ kind_in d.memory
    → Alike r s ↔ ((c.number ≡ d.number) × (bytes_of c ≡ bytes_of d))

-- two tags of one kind, each alone on its line, are alike from then on exactly when their numbers and their bytes are equal
abbrev pub TagIsItsBytes : Type 0
TagIsItsBytes = (r : RigState) → KnownByBytes r

-- of this rig and these calls: if its only chip was just powered up, they lead to the same rig and the same replies
-- as on every such rig whose chip has that kind, that number and those bytes
abbrev pub EndsByBytes : RigState → List Request → RigState × List Reply → Type 0
EndsByBytes r qs ends =
    (s : RigState) (c d : ChipState) → JustUp r c → JustUp s d → kind_in c.memory ≡ kind_in d.memory
    → c.number ≡ d.number → bytes_of c ≡ bytes_of d → ends ≡ serve_all qs s

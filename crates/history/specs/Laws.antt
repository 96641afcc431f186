-- Laws of every list of calls on every rig.
use Rattle.std.specs.Prelude.{◌≡◌, ℕ, ◌%◌, true, false, List, [], ◌∷◌, map, ◌==◌}
use Rattle.kinds.specs.Kinds.{row_length}
use Rattle.memory.specs.Memories.{bytes_in, kind_in, cut_memory, HasScratchpad}
use Rattle.chip.specs.ChipStates.{ChipState, bytes_of, has_power, is_busy, power_chip}
use Rattle.chip.specs.Histories.{MetAll}
use Rattle.line.specs.Lines.{presence}
use Rattle.rig.specs.Rigs.{RigState}
use Rattle.wire.specs.Jobs.{refused_as}
use Rattle.wire.specs.Laws.{Along}
use Rattle.order.specs.Orders.{refuses}
use Rattle.history.specs.Calls.{Request, reset, slot, dwell, cut, power_up, fuse, rom_search, read, order, Reply, presence_is, bit_is, done, listed, row_is, judged_as, serve, serve_all, moments}

abbrev pub numbers : RigState → List ℕ
numbers r = map (λ c. c.number) r.line

-- the list of a line's numbers never changes
abbrev pub NumbersStay : Type 0
NumbersStay = (r : RigState) (qs : List Request) → numbers (serve_all qs r).0 ≡ numbers r

-- what may become of a tag's bytes: they are the same,
-- or the tag was programming, and its row took the scratchpad through a mask
pub data Change (c d : ChipState) : Type 0 where
  same : bytes_of d ≡ bytes_of c → Change c d
  programmed : (mask : ℕ) → is_busy c ≡ true → bytes_of d ≡ bytes_in (cut_memory c.memory mask) → Change c d

-- from each moment to the next
abbrev pub Stepwise : (ChipState → ChipState → Type 0) → RigState → List RigState → Type 0
Stepwise R r [] = Unit {0}
Stepwise R r (s ∷ ss) = Along R r.line s.line × Stepwise R s ss

-- a call that is no job
abbrev pub Plain : Request → Type 0
Plain reset = Unit {0}
Plain (slot b) = Unit {0}
Plain dwell = Unit {0}
Plain (cut mask) = Unit {0}
Plain power_up = Unit {0}
Plain (fuse count mask) = Unit {0}
Plain (rom_search places) = ⊥
Plain (read x row) = ⊥
Plain (order x row new) = ⊥

-- nothing but programming changes a tag's bytes
abbrev pub OnlyProgramming : Type 0
OnlyProgramming = (r : RigState) (q : Request) → Plain q → Along Change r.line (serve q r).0.line

-- and so from each step and each call to the next, jobs among them
abbrev pub StepsOnlyProgram : Type 0
StepsOnlyProgram = (r : RigState) (qs : List Request) → Stepwise Change r (moments qs r)

-- what a line without power replies: no presence, the master's own bits, and to a job refusal 5 after one step, unless 4 or 9 refuses it first
abbrev pub silent : Request → Reply
silent reset = presence_is false
silent (slot b) = bit_is b
silent dwell = done
silent (cut mask) = done
silent power_up = done
silent (fuse count mask) = done
silent (rom_search places) = elim (places == 0) [ true ↦ listed (refused_as 9 0 0, []) | false ↦ listed (refused_as 5 1 1, []) ]
silent (read x row) = elim (row % row_length == 0) [ true ↦ row_is (refused_as 5 1 1) | false ↦ row_is (refused_as 4 0 0) ]
silent (order x row new) = elim (row % row_length == 0) [ true ↦ judged_as (refuses 5 1 1) | false ↦ judged_as (refuses 4 0 0) ]

abbrev pub NoPowerUp : List Request → Type 0
NoPowerUp [] = Unit {0}
NoPowerUp (reset ∷ qs) = NoPowerUp qs
NoPowerUp (slot b ∷ qs) = NoPowerUp qs
NoPowerUp (dwell ∷ qs) = NoPowerUp qs
NoPowerUp (cut mask ∷ qs) = NoPowerUp qs
NoPowerUp (power_up ∷ qs) = ⊥
NoPowerUp (fuse count mask ∷ qs) = NoPowerUp qs
NoPowerUp (rom_search places ∷ qs) = NoPowerUp qs
NoPowerUp (read x row ∷ qs) = NoPowerUp qs
NoPowerUp (order x row new ∷ qs) = NoPowerUp qs

-- a line without power is silent, and nothing but a power-up changes it
abbrev pub SilentUnpowered : Type 0
SilentUnpowered =
    (r : RigState) (qs : List Request) → presence r.line ≡ false → NoPowerUp qs
    → ((serve_all qs r).0.line ≡ r.line) × ((serve_all qs r).1 ≡ map silent qs)

-- power-up of a chip without power that has a scratchpad leaves what its number, its kind and its bytes say, and nothing else
abbrev pub PowerUpForgets : Type 0
PowerUpForgets =
    (c d : ChipState) → HasScratchpad c.memory → HasScratchpad d.memory → has_power c ≡ false → has_power d ≡ false
    → c.number ≡ d.number → kind_in c.memory ≡ kind_in d.memory → bytes_of c ≡ bytes_of d → power_chip c ≡ power_chip d

-- a line whose chips met nothing but a line's calls since they were made stays such a line
abbrev pub MetStays : Type 0
MetStays = (r : RigState) (qs : List Request) → MetAll r.line → MetAll (serve_all qs r).0.line

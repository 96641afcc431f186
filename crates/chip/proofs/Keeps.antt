-- What each event leaves of a chip's number and its bytes, and what a chip without power does.
use Rattle.std.proofs.Common.{◌≡◌, ℕ, Bool, true, false, List, [], ◌∷◌, ◌++◌, sym, refl, ap, ◌∙◌, arith}
use Rattle.base.specs.Bits.{value, same, full, front_bit, rest_bits, none_left}
use Rattle.base.proofs.Choice.{pick}
use Rattle.kinds.specs.Kinds.{whole_row}
use Rattle.memory.specs.Memories.{Memory, Protocol, protocols, bytes_in, kind_in, cut_memory, dwell_memory, HasScratchpad}
use Rattle.memory.proofs.Keeps.{begin_bytes, take_bytes, wake_bytes, dwell_bytes, power_up_same}
use Rattle.chip.specs.Chips.{ChipOver, Live, off, on, Phase, idle, command, sending, matching, searching, rom_bit, complement, direction, selected, Command, read_rom, match_rom, search_rom, skip_rom, resume, unknown, command_of, run_command, after_agreed, select, take_powered, take_live, powered}
use Rattle.chip.specs.ChipStates.{ChipState, made_chip, bytes_of, has_power, is_busy, pull_of, take_bit, reset_chip, dwell_chip, cut_chip, power_chip}

module _ {S : Type 0} (P : Protocol S) where
  abbrev SameNumber : ChipOver S → ChipOver S → Type 0
  SameNumber c d = d.number ≡ c.number

  run_command-number : (o : Command) (rc : Bool) (c : ChipOver S) → (run_command P o rc c).number ≡ c.number
  run_command-number read_rom rc c = refl
  run_command-number match_rom rc c = refl
  run_command-number search_rom rc c = refl
  run_command-number skip_rom rc c = refl
  run_command-number resume rc c = pick rc (SameNumber c) refl refl
  run_command-number unknown rc c = refl

  take-number : (p : Phase) (rc b : Bool) (c : ChipOver S) → (take_powered P p rc b c).number ≡ c.number
  take-number idle rc b c = refl
  take-number (command bs) rc b c = pick (full (bs ++ (b ∷ []))) (SameNumber c) (run_command-number (command_of (value (bs ++ (b ∷ [])))) rc c) refl
  take-number (sending bs) rc b c = pick (none_left (rest_bits bs)) (SameNumber c) refl refl
  take-number (matching bs) rc b c = pick (same (front_bit bs) b) (SameNumber c) (pick (none_left (rest_bits bs)) (SameNumber c) refl refl) refl
  take-number (searching rom_bit bs) rc b c = refl
  take-number (searching complement bs) rc b c = refl
  take-number (searching direction bs) rc b c = pick (same (front_bit bs) b) (SameNumber c) (pick (none_left (rest_bits bs)) (SameNumber c) refl refl) refl
  take-number selected rc b c = refl

-- no taken bit changes a number
pub number-taken : (b : Bool) (c : ChipState) → (take_bit b c).number ≡ c.number
number-taken b c = go c.live
  where
    go : (l : Live) → (take_live protocols l b c).number ≡ c.number
    go off = refl
    go (on rc p) = take-number protocols p rc b c

-- neither a taken bit, nor a reset, nor power-up changes a byte
abbrev SameBytes : ChipState → ChipState → Type 0
SameBytes c d = bytes_of d ≡ bytes_of c

select_bytes : (c : ChipState) (rc : Bool) → bytes_of (select protocols c rc) ≡ bytes_of c
select_bytes c rc = begin_bytes c.memory

command_bytes : (o : Command) (rc : Bool) (c : ChipState) → bytes_of (run_command protocols o rc c) ≡ bytes_of c
command_bytes read_rom rc c = refl
command_bytes match_rom rc c = refl
command_bytes search_rom rc c = refl
command_bytes skip_rom rc c = select_bytes c false
command_bytes resume rc c = pick rc (SameBytes c) (select_bytes c true) refl
command_bytes unknown rc c = refl

agreed_bytes : (bs : List Bool) (p : Phase) (rc : Bool) (c : ChipState) → bytes_of (after_agreed protocols bs p rc c) ≡ bytes_of c
agreed_bytes bs p rc c = pick (none_left bs) (SameBytes c) (select_bytes c true) refl

take_in_bytes : (p : Phase) (rc b : Bool) (c : ChipState) → bytes_of (take_powered protocols p rc b c) ≡ bytes_of c
take_in_bytes idle rc b c = refl
take_in_bytes (command bs) rc b c = pick (full (bs ++ (b ∷ []))) (SameBytes c) (command_bytes (command_of (value (bs ++ (b ∷ [])))) rc c) refl
take_in_bytes (sending bs) rc b c = pick (none_left (rest_bits bs)) (SameBytes c) (select_bytes c rc) refl
take_in_bytes (matching bs) rc b c = pick (same (front_bit bs) b) (SameBytes c) (agreed_bytes (rest_bits bs) (matching (rest_bits bs)) rc c) refl
take_in_bytes (searching rom_bit bs) rc b c = refl
take_in_bytes (searching complement bs) rc b c = refl
take_in_bytes (searching direction bs) rc b c = pick (same (front_bit bs) b) (SameBytes c) (agreed_bytes (rest_bits bs) (searching rom_bit (rest_bits bs)) rc c) refl
take_in_bytes selected rc b c = take_bytes c.memory b

pub bytes_taken : (b : Bool) (c : ChipState) → bytes_of (take_bit b c) ≡ bytes_of c
bytes_taken b c = go c.live
  where
    go : (l : Live) → bytes_of (take_live protocols l b c) ≡ bytes_of c
    go off = refl
    go (on rc p) = take_in_bytes p rc b c

pub bytes_reset : (c : ChipState) → bytes_of (reset_chip c) ≡ bytes_of c
bytes_reset c = refl

pub bytes_power : (c : ChipState) → bytes_of (power_chip c) ≡ bytes_of c
bytes_power c = pick (has_power c) (λ m. bytes_in m ≡ bytes_of c) refl (wake_bytes c.memory)

-- a chip that is not programming keeps its bytes by dwell and cut too
pub bytes_dwell_idle : (c : ChipState) → is_busy c ≡ false → bytes_of (dwell_chip c) ≡ bytes_of c
bytes_dwell_idle c h = ap (λ b. bytes_in (elim b as (λ _. Memory) [ true ↦ dwell_memory c.memory | false ↦ c.memory ])) h

pub bytes_cut_idle : (mask : ℕ) (c : ChipState) → is_busy c ≡ false → bytes_of (cut_chip mask c) ≡ bytes_of c
bytes_cut_idle mask c h = ap (λ b. bytes_in (elim b as (λ _. Memory) [ true ↦ cut_memory c.memory mask | false ↦ c.memory ])) h

-- one that is programming gets its row through a mask
pub bytes_dwell_busy : (c : ChipState) → is_busy c ≡ true → bytes_of (dwell_chip c) ≡ bytes_in (cut_memory c.memory whole_row)
bytes_dwell_busy c h =
    ap (λ b. bytes_in (elim b as (λ _. Memory) [ true ↦ dwell_memory c.memory | false ↦ c.memory ])) h ∙ dwell_bytes c.memory

pub bytes_cut_busy : (mask : ℕ) (c : ChipState) → is_busy c ≡ true → bytes_of (cut_chip mask c) ≡ bytes_in (cut_memory c.memory mask)
bytes_cut_busy mask c h = ap (λ b. bytes_in (elim b as (λ _. Memory) [ true ↦ cut_memory c.memory mask | false ↦ c.memory ])) h

-- a chip without power pulls nothing, and changes by power-up only
abbrev pub Off : ChipState → Type 0
Off c = c.live ≡ off

pub off_powerless : (c : ChipState) → has_power c ≡ false → Off c
off_powerless c h = go c.live h
  where
    go : (l : Live) → powered l ≡ false → l ≡ off
    go off e = refl
    go (on rc p) e = let z : ◌≡◌ {A = ℕ} 0 1 = cc in absurd (omega arith)

pub off-pull : (c : ChipState) → Off c → pull_of c ≡ true
off-pull c e = ap (λ l. pull_of (record { number = c.number; live = l; memory = c.memory })) e

pub off-busy : (c : ChipState) → Off c → is_busy c ≡ false
off-busy c e = ap (λ l. is_busy (record { number = c.number; live = l; memory = c.memory })) e

-- what leaves every chip made without power leaves each one that has none
off_still : (f : ChipState → ChipState) → ((n : ℕ) (m : Memory) → f (made_chip n m) ≡ made_chip n m) → (c : ChipState) → Off c → f c ≡ c
off_still f h c e =
    ap (λ l. f (record { number = c.number; live = l; memory = c.memory })) e ∙ h c.number c.memory
    ∙ ap (λ l. record { number = c.number; live = l; memory = c.memory }) (sym e)

pub off-taken : (b : Bool) (c : ChipState) → Off c → take_bit b c ≡ c
off-taken b = off_still (take_bit b) (λ n m. refl)

pub off-reset : (c : ChipState) → Off c → reset_chip c ≡ c
off-reset = off_still reset_chip (λ n m. refl)

pub off-dwell : (c : ChipState) → Off c → dwell_chip c ≡ c
off-dwell = off_still dwell_chip (λ n m. refl)

pub off-cut : (mask : ℕ) (c : ChipState) → Off c → cut_chip mask c ≡ c
off-cut mask = off_still (cut_chip mask) (λ n m. refl)

-- power-up of chips without power that have scratchpads, of one number, one kind and the same bytes, makes them the same
pub power_same : (c d : ChipState) → HasScratchpad c.memory → HasScratchpad d.memory → Off c → Off d → c.number ≡ d.number → kind_in c.memory ≡ kind_in d.memory → bytes_of c ≡ bytes_of d
    → power_chip c ≡ power_chip d
power_same c d p q e f n k b =
    ap (λ l. power_chip (record { number = c.number; live = l; memory = c.memory })) e
    ∙ (λ i. record { number = n i; live = on false idle; memory = power_up_same c.memory d.memory p q k b i })
    ∙ ap (λ l. power_chip (record { number = d.number; live = l; memory = d.memory })) (sym f)

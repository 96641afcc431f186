-- A chip and the commands on its number, whatever the protocol of the memory behind it.
use Rattle.std.specs.Prelude.{ℕ, Bool, true, false, cond, not, ◌&&◌, List, [], ◌∷◌, ◌++◌, ◌==◌}
use Rattle.base.specs.Bits.{bits_of, value, same, full, front_bit, rest_bits, none_left}
use Rattle.memory.specs.Memories.{Protocol}

-- where a chip stands within a bit of its number: it sends the bit, sends its complement, takes a direction
pub data SearchPart : Type 0 where
  rom_bit : SearchPart
  complement : SearchPart
  direction : SearchPart

pub data Phase : Type 0 where
  idle : Phase
  command : List Bool → Phase  -- the bits of a command that have come
  sending : List Bool → Phase  -- the bits of the number still to be sent
  matching : List Bool → Phase  -- those still to be compared
  searching : SearchPart → List Bool → Phase  -- those still to be sent and compared
  selected : Phase  -- the memory phase

pub data Live : Type 0 where
  off : Live
  on : Bool → Phase → Live  -- under power, with RC

pub record ChipOver (S : Type 0) : Type 0 where
  pub number : ℕ
  pub live : Live
  pub memory : S

pub data Command : Type 0 where
  read_rom : Command
  match_rom : Command
  search_rom : Command
  skip_rom : Command
  resume : Command
  unknown : Command

abbrev pub command_of : ℕ → Command
command_of b =
    cond (b == 0x33) read_rom (cond (b == 0x55) match_rom (cond (b == 0xF0) search_rom (cond (b == 0xCC) skip_rom (cond (b == 0xA5) resume unknown))))

abbrev pub powered : Live → Bool
powered off = false
powered (on rc p) = true

abbrev pub is_selected : Live → Bool
is_selected off = false
is_selected (on rc idle) = false
is_selected (on rc (command bs)) = false
is_selected (on rc (sending bs)) = false
is_selected (on rc (matching bs)) = false
is_selected (on rc (searching t bs)) = false
is_selected (on rc selected) = true

module _ {S : Type 0} (P : Protocol S) where
  -- nothing changes but what it is doing
  abbrev pub at : ChipOver S → Live → ChipOver S
  at c l = record { number = c.number; live = l; memory = c.memory }

  -- the memory phase begins
  abbrev pub select : ChipOver S → Bool → ChipOver S
  select c rc = record { number = c.number; live = on rc selected; memory = P.select c.memory }

  abbrev pub run_command : Command → Bool → ChipOver S → ChipOver S
  run_command read_rom rc c = at c (on false (sending (bits_of 64 c.number)))
  run_command match_rom rc c = at c (on false (matching (bits_of 64 c.number)))
  run_command search_rom rc c = at c (on false (searching rom_bit (bits_of 64 c.number)))
  run_command skip_rom rc c = select c false
  run_command resume rc c = elim rc [ true ↦ select c true | false ↦ at c (on false idle) ]
  run_command unknown rc c = at c (on rc idle)

  -- eight taken bits are a command
  abbrev pub collect_bit : List Bool → Bool → ChipOver S → ChipOver S
  collect_bit bs rc c = elim (full bs) [ true ↦ run_command (command_of (value bs)) rc c | false ↦ at c (on rc (command bs)) ]

  -- bits of the number are left to send; else the memory phase begins
  abbrev pub after_sent : List Bool → Bool → ChipOver S → ChipOver S
  after_sent bs rc c = elim (none_left bs) [ true ↦ select c rc | false ↦ at c (on rc (sending bs)) ]

  -- a compared bit agreed, and goes on to the next; the last sets RC and begins the memory phase
  abbrev pub after_agreed : List Bool → Phase → Bool → ChipOver S → ChipOver S
  after_agreed bs next rc c = elim (none_left bs) [ true ↦ select c true | false ↦ at c (on rc next) ]

  abbrev pub take_powered : Phase → Bool → Bool → ChipOver S → ChipOver S
  take_powered idle rc b c = at c (on rc idle)
  take_powered (command bs) rc b c = collect_bit (bs ++ (b ∷ [])) rc c
  take_powered (sending bs) rc b c = after_sent (rest_bits bs) rc c
  take_powered (matching bs) rc b c =
      elim (same (front_bit bs) b) [ true ↦ after_agreed (rest_bits bs) (matching (rest_bits bs)) rc c | false ↦ at c (on rc idle) ]
  take_powered (searching rom_bit bs) rc b c = at c (on rc (searching complement bs))
  take_powered (searching complement bs) rc b c = at c (on rc (searching direction bs))
  take_powered (searching direction bs) rc b c =
      elim (same (front_bit bs) b) [ true ↦ after_agreed (rest_bits bs) (searching rom_bit (rest_bits bs)) rc c | false ↦ at c (on rc idle) ]
  take_powered selected rc b c = record { number = c.number; live = on rc selected; memory = P.take c.memory b }

  abbrev pub take_live : Live → Bool → ChipOver S → ChipOver S
  take_live off b c = at c off
  take_live (on rc p) b c = take_powered p rc b c

  abbrev pub taken : Bool → ChipOver S → ChipOver S
  taken b c = take_live c.live b c

  -- a powered chip that is programming
  abbrev pub busy : ChipOver S → Bool
  busy c = is_selected c.live && P.programming c.memory

  abbrev pub pull_in : Phase → S → Bool
  pull_in idle m = true
  pull_in (command bs) m = true
  pull_in (sending bs) m = front_bit bs
  pull_in (matching bs) m = true
  pull_in (searching rom_bit bs) m = front_bit bs
  pull_in (searching complement bs) m = not (front_bit bs)
  pull_in (searching direction bs) m = true
  pull_in selected m = P.pull m

  abbrev pub pull_live : Live → S → Bool
  pull_live off m = true
  pull_live (on rc p) m = pull_in p m

  abbrev pub pulled : ChipOver S → Bool
  pulled c = pull_live c.live c.memory

  abbrev pub reset_live : Live → Live
  reset_live off = off
  reset_live (on rc p) = on rc (command [])

  abbrev pub reset : ChipOver S → ChipOver S
  reset c = at c (elim (busy c) [ true ↦ c.live | false ↦ reset_live c.live ])

  abbrev pub dwelt : ChipOver S → ChipOver S
  dwelt c = record { number = c.number; live = c.live; memory = elim (busy c) [ true ↦ P.dwell c.memory | false ↦ c.memory ] }

  abbrev pub cut : ℕ → ChipOver S → ChipOver S
  cut mask c = record { number = c.number; live = off; memory = elim (busy c) [ true ↦ P.cut c.memory mask | false ↦ c.memory ] }

  abbrev pub live_powered_up : Live → Live
  live_powered_up off = on false idle
  live_powered_up (on rc p) = on rc p

  abbrev pub powered_up : ChipOver S → ChipOver S
  powered_up c = record { number = c.number; live = live_powered_up c.live; memory = elim (powered c.live) [ true ↦ c.memory | false ↦ P.power_up c.memory ] }

-- The scratchpad protocol: what a chip of any kind does in the memory phase.
use Rattle.std.specs.Prelude.{ℕ, ◌+◌, ◌-◌, ◌*◌, ◌%◌, Bool, true, false, cond, not, ◌&&◌, List, [], ◌∷◌, ◌++◌, drop, replicate, ◌==◌, nat_le, slice_set}
use Rattle.base.specs.Bits.{value, bits_all, full, front_bit, rest_bits}
use Rattle.base.specs.Crc.{crc16, inverted}
use Rattle.kinds.specs.Kinds.{Rules, may_copy, row_length, whole_row, program}

-- the registers; only the setters below write them
pub record Regs : Type 0 where
  pub ta1 : ℕ  -- target address, low byte
  pub ta2 : ℕ  -- target address, high byte
  pub e : ℕ  -- ending offset
  pub pf : Bool  -- partial byte flag
  pub aa : Bool  -- authorization accepted
  pub pad : List ℕ  -- the scratchpad

-- as power-up leaves them
abbrev pub fresh : Regs
fresh = record { ta1 = 0; ta2 = 0; e = 0; pf = true; aa = false; pad = replicate row_length 255 }

-- the low byte of the target; its offset goes to E
abbrev pub set_ta1 : ℕ → Regs → Regs
set_ta1 x r = record { ta1 = x; ta2 = r.ta2; e = x % row_length; pf = r.pf; aa = r.aa; pad = r.pad }

abbrev pub set_ta2 : ℕ → Regs → Regs
set_ta2 x r = record { ta1 = r.ta1; ta2 = x; e = r.e; pf = r.pf; aa = r.aa; pad = r.pad }

abbrev pub set_pf : Bool → Regs → Regs
set_pf b r = record { ta1 = r.ta1; ta2 = r.ta2; e = r.e; pf = b; aa = r.aa; pad = r.pad }

abbrev pub set_aa : Bool → Regs → Regs
set_aa b r = record { ta1 = r.ta1; ta2 = r.ta2; e = r.e; pf = r.pf; aa = b; pad = r.pad }

-- scratchpad byte k, which becomes E
abbrev pub set_pad : ℕ → ℕ → Regs → Regs
set_pad k x r = record { ta1 = r.ta1; ta2 = r.ta2; e = k; pf = r.pf; aa = r.aa; pad = slice_set r.pad k x }

abbrev pub flag : Bool → ℕ → ℕ
flag b v = cond b v 0

-- E/S
abbrev pub status : Regs → ℕ
status r = r.e + flag r.pf 0x20 + flag r.aa 0x80

abbrev pub target : Regs → ℕ
target r = r.ta1 + 256 * r.ta2

-- the offset of the target in its row, and the row's first address
abbrev pub offset_of : Regs → ℕ
offset_of r = r.ta1 % row_length

abbrev pub row_of : Regs → ℕ
row_of r = target r - offset_of r

-- what AAh sends before the sum
abbrev pub report : Regs → List ℕ
report r = r.ta1 ∷ r.ta2 ∷ status r ∷ drop (offset_of r) r.pad

-- what a complete byte will be
pub data Awaited : Type 0 where
  command : Awaited
  load_low : Awaited  -- 0Fh: TA1, TA2, data
  load_high : Awaited
  load_data : ℕ → ℕ → Awaited  -- the offset, and the sum so far
  copy_low : Awaited  -- 55h: TA1, TA2, E/S
  copy_high : ℕ → Awaited
  copy_status : ℕ → ℕ → Awaited
  read_low : Awaited  -- F0h: two address bytes
  read_high : ℕ → Awaited

pub data Doing : Type 0 where
  idle : Doing
  programming : Doing
  taking : Awaited → List Bool → Doing  -- the bits of a byte that have come
  sending : List Bool → Doing  -- the bits to send, and then ones
  alternating : Bool → Doing  -- 0, 1, 0, 1 and so on

-- registers, and what is being done
pub record Work : Type 0 where
  pub regs : Regs
  pub doing : Doing

abbrev pub on : Regs → Doing → Work
on r d = record { regs = r; doing = d }

abbrev pub await : Awaited → Doing
await w = taking w []

pub data Command : Type 0 where
  write_scratchpad : Command
  read_scratchpad : Command
  copy_scratchpad : Command
  read_memory : Command
  unknown : Command

abbrev pub command_of : ℕ → Command
command_of b =
    cond (b == 0x0F) write_scratchpad (cond (b == 0xAA) read_scratchpad (cond (b == 0x55) copy_scratchpad (cond (b == 0xF0) read_memory unknown)))

module _ (K : Rules) (m : List ℕ) where
  abbrev pub run_command : Command → Regs → Work
  run_command write_scratchpad r = on (set_pf true (set_aa false r)) (await load_low)
  run_command read_scratchpad r = on r (sending (bits_all (report r ++ inverted (crc16 0 (0xAA ∷ report r)))))
  run_command copy_scratchpad r = on r (await copy_low)
  run_command read_memory r = on r (await read_low)
  run_command unknown r = on r idle

  -- after the data byte at offset k, with the sum so far
  abbrev pub after_data : ℕ → ℕ → Regs → Work
  after_data k sum r =
      elim (nat_le 7 k) [
        | true ↦ on (set_pf (r.pf && not (offset_of r == 0)) r) (sending (bits_all (inverted sum)))
        | false ↦ on r (await (load_data (k + 1) sum))
      ]

  -- a copy begins: the three bytes equal TA1, TA2 and E/S, PF is clear and the copy rule says yes
  abbrev pub copy_begins : ℕ → ℕ → ℕ → Regs → Bool
  copy_begins x y z r = x == r.ta1 && (y == r.ta2 && (z == status r && (not r.pf && may_copy K m (row_of r))))

  -- what a copy that begins leaves in the registers
  abbrev pub began_copy : Regs → Regs
  began_copy r = set_aa true r

  -- what one that is turned down leaves in them, by its three bytes
  abbrev pub stopped_copy : ℕ → ℕ → ℕ → Regs → Regs
  stopped_copy x y z r = r

  abbrev pub take_byte : Awaited → ℕ → Regs → Work
  take_byte command b r = run_command (command_of b) r
  take_byte load_low b r = on (set_ta1 b r) (await load_high)
  take_byte load_high b r = on (set_ta2 b r) (await (load_data (offset_of r) (crc16 0 (0x0F ∷ r.ta1 ∷ b ∷ []))))
  take_byte (load_data k sum) b r = after_data k (crc16 sum (b ∷ [])) (set_pad k (K.load m (row_of r + k) b) r)
  take_byte copy_low b r = on r (await (copy_high b))
  take_byte (copy_high x) b r = on r (await (copy_status x b))
  take_byte (copy_status x y) b r = elim (copy_begins x y b r) [ true ↦ on (began_copy r) programming | false ↦ on (stopped_copy x y b r) idle ]
  take_byte read_low b r = on r (await (read_high b))
  take_byte (read_high x) b r = on r (sending (bits_all (drop (x + 256 * b) m)))

  -- eight taken bits are a byte
  abbrev pub collect_bit : Awaited → List Bool → Regs → Work
  collect_bit w bs r = elim (full bs) [ true ↦ take_byte w (value bs) r | false ↦ on r (taking w bs) ]

  abbrev pub take_doing : Bool → Regs → Doing → Work
  take_doing b r idle = on r idle
  take_doing b r programming = on r programming
  take_doing b r (taking w bs) = collect_bit w (bs ++ (b ∷ [])) r
  take_doing b r (sending bs) = on r (sending (rest_bits bs))
  take_doing b r (alternating x) = on r (alternating (not x))

abbrev pub pull_doing : Doing → Bool
pull_doing idle = true
pull_doing programming = true
pull_doing (taking w bs) = true
pull_doing (sending bs) = front_bit bs
pull_doing (alternating x) = x

abbrev pub is_programming : Doing → Bool
is_programming idle = false
is_programming programming = true
is_programming (taking w bs) = false
is_programming (sending bs) = false
is_programming (alternating x) = false

-- a memory of this protocol: its kind, its bytes, and what exists under power only
pub record Padded : Type 0 where
  pub rules : Rules
  pub bytes : List ℕ
  pub work : Work

abbrev pub working : Padded → Work → Padded
working p w = record { rules = p.rules; bytes = p.bytes; work = w }

-- the bytes once the row has taken the scratchpad through a mask
abbrev pub programmed_bytes : Padded → ℕ → List ℕ
programmed_bytes p mask =
    elim (is_programming p.work.doing) [
      | true ↦ program p.rules.w (row_of p.work.regs) p.work.regs.pad mask p.bytes
      | false ↦ p.bytes
    ]

abbrev pub power_up_pad : Padded → Padded
power_up_pad p = working p (on fresh idle)

abbrev pub select_pad : Padded → Padded
select_pad p = working p (on p.work.regs (await command))

abbrev pub take_pad : Padded → Bool → Padded
take_pad p b = working p (take_doing p.rules p.bytes b p.work.regs p.work.doing)

-- dwell ends a programming
abbrev pub ended : Doing → Doing
ended d = elim (is_programming d) [ true ↦ alternating false | false ↦ d ]

abbrev pub dwell_pad : Padded → Padded
dwell_pad p = record { rules = p.rules; bytes = programmed_bytes p whole_row; work = on p.work.regs (ended p.work.doing) }

-- power fails
abbrev pub cut_pad : Padded → ℕ → Padded
cut_pad p mask = record { rules = p.rules; bytes = programmed_bytes p mask; work = p.work }

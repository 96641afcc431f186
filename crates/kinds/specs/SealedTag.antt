-- The sealed tag: four pages of 32 bytes, each under a control byte, and a row of registers from 80h.
use Rattle.std.specs.Prelude.{ℕ, ◌+◌, ◌/◌, Bool, true, false, not, ◌&&◌, ◌||◌, List, ◌++◌, replicate, ◌==◌, bit_and, nat_le, nat_lt}
use Rattle.kinds.specs.Kinds.{Rules, at}

-- values that lock a register
abbrev pub locked : ℕ → Bool
locked x = x == 0x55 || x == 0xAA

-- the control byte of an address's page
abbrev pub control : List ℕ → ℕ → ℕ
control m a = at m (0x80 + a / 32)

-- addresses whose bytes are write-protected
abbrev pub protected : List ℕ → ℕ → Bool
protected m a =
    nat_lt a 0x80 && control m a == 0x55
    || nat_le 0x80 a && nat_le a 0x84 && locked (at m a)
    || a == 0x85
    || nat_le 0x86 a && nat_le a 0x87 && at m 0x85 == 0xAA

-- addresses of a page in EPROM mode
abbrev pub eprom : List ℕ → ℕ → Bool
eprom m a = nat_lt a 0x80 && control m a == 0xAA

abbrev pub load : List ℕ → ℕ → ℕ → ℕ
load m a x =
    elim (protected m a) [ true ↦ at m a | false ↦ elim (eprom m a) [ true ↦ bit_and x (at m a) | false ↦ x ] ]

-- where 84h is locked, no row of registers and no row of a write-protected page is copied to
abbrev pub copy_rule : List ℕ → ℕ → Bool
copy_rule m row = nat_lt row 0x88 && not (locked (at m 0x84) && (row == 0x80 || nat_lt row 0x80 && control m row == 0x55))

-- 88h to 8Fh read FFh
abbrev pub made : List ℕ → List ℕ
made image = image ++ replicate 8 255

abbrev pub sealed : Rules
sealed = record { n = 144; w = 136; image = 136; made = made; load = load; copy_rule = copy_rule }

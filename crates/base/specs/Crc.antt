-- Check sums: a shift register that takes the lowest bit of each byte first and starts at 0.
-- The polynomial is written without its highest power, the lowest power in the highest bit.
use Rattle.std.specs.Prelude.{ℕ, ◌-◌, ◌/◌, ◌%◌, Bool, true, false, List, [], ◌∷◌, bit_xor}
use Rattle.base.specs.Bits.{odd, bits_all, differ}

-- X^8 + X^5 + X^4 + 1
abbrev pub poly8 : ℕ
poly8 = 0x8C

-- X^16 + X^15 + X^2 + 1
abbrev pub poly16 : ℕ
poly16 = 0xA001

-- one bit into the register
abbrev pub shift : ℕ → ℕ → Bool → ℕ
shift poly sum b = elim (differ (odd sum) b) [ true ↦ bit_xor (sum / 2) poly | false ↦ sum / 2 ]

abbrev pub crc_bits : ℕ → ℕ → List Bool → ℕ
crc_bits poly sum [] = sum
crc_bits poly sum (b ∷ bs) = crc_bits poly (shift poly sum b) bs

-- the CRC-8 of some bytes
unfoldable pub crc8 : List ℕ → ℕ
crc8 xs = crc_bits poly8 0 (bits_all xs)

-- the CRC-16 of more bytes after those whose sum is given; 0 at the start
abbrev pub crc16 : ℕ → List ℕ → ℕ
crc16 sum xs = crc_bits poly16 sum (bits_all xs)

-- the two bytes of a 16-bit number, the low one first
abbrev pub low_high : ℕ → List ℕ
low_high x = x % 256 ∷ x / 256 ∷ []

-- the inverted sum as it is sent
abbrev pub inverted : ℕ → List ℕ
inverted sum = low_high (65535 - sum)

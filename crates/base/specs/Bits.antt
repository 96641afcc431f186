-- Bits and bytes. Bytes and numbers travel lowest bit first.
use Rattle.std.specs.Prelude.{ℕ, zero, suc, ◌+◌, ◌*◌, ◌/◌, ◌%◌, ◌^◌, Bool, true, false, not, List, [], ◌∷◌, ◌++◌, length, ◌==◌}

abbrev pub odd : ℕ → Bool
odd n = n % 2 == 1

-- the lowest n bits of a number
abbrev pub bits_of : ℕ → ℕ → List Bool
bits_of zero x = []
bits_of (suc n) x = odd x ∷ bits_of n (x / 2)

abbrev pub bit : Bool → ℕ
bit true = 1
bit false = 0

abbrev pub value : List Bool → ℕ
value [] = 0
value (b ∷ bs) = bit b + 2 * value bs

abbrev pub bits_all : List ℕ → List Bool
bits_all [] = []
bits_all (x ∷ xs) = bits_of 8 x ++ bits_all xs

abbrev pub same : Bool → Bool → Bool
same true b = b
same false b = not b

-- eight bits are a byte
abbrev pub full : List Bool → Bool
full bs = length bs == 8

-- the bit that a queue sends now; an empty one sends ones
abbrev pub front_bit : List Bool → Bool
front_bit [] = true
front_bit (b ∷ bs) = b

abbrev pub rest_bits : List Bool → List Bool
rest_bits [] = []
rest_bits (b ∷ bs) = bs

abbrev pub none_left : List Bool → Bool
none_left [] = true
none_left (b ∷ bs) = false

abbrev pub differ : Bool → Bool → Bool
differ true b = not b
differ false b = b

-- byte k of a word, the lowest first
abbrev pub byte_of : ℕ → ℕ → ℕ
byte_of word k = word / 2 ^ (8 * k) % 256

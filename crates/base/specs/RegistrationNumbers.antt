-- Registration numbers: a family code, six serial bytes and the CRC-8 of those seven, in one 64-bit word, the family code lowest.
use Rattle.std.specs.Prelude.{◌≡◌, ℕ, Bool, true, cond, List, [], ◌∷◌, ◌==◌}
use Rattle.base.specs.Bits.{byte_of}
use Rattle.base.specs.Crc.{crc8}

-- the eight bytes of a word in the sequence in which they travel
abbrev pub word_bytes : ℕ → List ℕ
word_bytes word =
    byte_of word 0 ∷ byte_of word 1 ∷ byte_of word 2 ∷ byte_of word 3 ∷ byte_of word 4 ∷ byte_of word 5 ∷ byte_of word 6 ∷ byte_of word 7 ∷ []

-- the family code and the six serial bytes
abbrev pub summed_bytes : ℕ → List ℕ
summed_bytes word =
    byte_of word 0 ∷ byte_of word 1 ∷ byte_of word 2 ∷ byte_of word 3 ∷ byte_of word 4 ∷ byte_of word 5 ∷ byte_of word 6 ∷ []

-- the check byte is right
abbrev pub checks : ℕ → Bool
checks word = crc8 (summed_bytes word) == byte_of word 7

abbrev pub IsChecked : ℕ → Type 0
IsChecked word = checks word ≡ true

-- what making a number from a word gives
pub data Made : Type 0 where
  number : ℕ → Made
  refused : ℕ → Made  -- with the refusal's code

abbrev pub making : ℕ → Made
making word = cond (checks word) (number word) (refused 1)

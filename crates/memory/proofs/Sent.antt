-- What is left to send, one byte on.
use mathlib.Core.Path.{◌≡◌, refl}
use mathlib.Core.List.{List, [], ◌∷◌, ◌++◌}
use Prim.Native.Nat.{ℕ}
use lib.ListN.{drop}
use Rattle.base.specs.Crc.{crc16, inverted}
use Rattle.base.specs.Bits.{bits_all}
use Rattle.memory.specs.ScratchpadModel.{closing}

pub closing_all : (xs : List ℕ) → bits_all (closing (crc16 0 (0xAA ∷ [])) (drop 0 xs)) ≡ bits_all (xs ++ inverted (crc16 0 (0xAA ∷ xs)))
closing_all xs = refl

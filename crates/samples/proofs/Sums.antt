-- Which words of the samples have a right check byte.
use Rattle.std.proofs.Common.{◌≡◌, true, false, refl}
use Rattle.base.specs.Crc.{crc8}
use Rattle.base.specs.RegistrationNumbers.{checks}

pub right_sums : (checks 0x6101_0000_0036_472D ≡ true) × (checks 0x5E01_0000_0000_0000 ≡ true) × (checks 0 ≡ true)
unfolding crc8
right_sums = (refl, refl, refl)

pub wrong_sums : (checks 0x6201_0000_0036_472D ≡ false) × (checks 0x5F01_0000_0000_0000 ≡ false)
unfolding crc8
wrong_sums = (refl, refl)

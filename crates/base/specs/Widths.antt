-- A word of n bits is known by its bits.
use Rattle.std.specs.Prelude.{◌≡◌, ℕ, zero, suc, ◌^◌, ◌<◌, ◌/◌, ◌%◌, length, refl}
use Rattle.std.proofs.Common.{ap, arith}
use Rattle.std.proofs.lemmas.Bool.Decides.{nat_tests}
use Rattle.base.specs.Bits.{odd, bit, bits_of, value}

pub bit-odd : (x : ℕ) → bit (odd x) ≡ x % 2
bit-odd x = grind (arith, nat_tests)

pub value_bits : (n x : ℕ) → x < 2 ^ n → value (bits_of n x) ≡ x
value_bits zero x h = omega arith
value_bits (suc n) x h = let ih : value (bits_of n (x / 2)) ≡ x / 2 = value_bits n (x / 2) (omega arith) in omega (arith, ih, bit-odd x)

pub length_bits : (n x : ℕ) → length (bits_of n x) ≡ n
length_bits zero x = refl
length_bits (suc n) x = ap suc (length_bits n (x / 2))

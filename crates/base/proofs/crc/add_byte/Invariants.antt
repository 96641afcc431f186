use Rattle.std.proofs.Common.{◌≡◌, ℕ, ◌+◌}
use Rattle.base.specs.Bits.{bits_of}
use Rattle.base.specs.Crc.{crc_bits}
use Rattle.base.proofs.crc.add_byte.Given as goal

abbrev pub invariant-loop : goal.invariant-loop
invariant-loop l = (n : ℕ) → l.counter + n ≡ 8 → crc_bits l.poly l.state (bits_of n l.rest) ≡ crc_bits l.poly l.sum (bits_of 8 l.byte)

use Rattle.std.proofs.Common.{◌≡◌, drop}
use Rattle.base.specs.Bits.{bits_all}
use Rattle.base.specs.Crc.{crc_bits}
use Rattle.base.proofs.crc.add_bytes.Given as goal

abbrev pub invariant-loop-byte : goal.invariant-loop-byte
invariant-loop-byte l = crc_bits l.poly l.state (bits_all (drop l.byte-index l.bytes)) ≡ crc_bits l.poly l.sum (bits_all l.bytes)

use Rattle.std.proofs.Common.{[], ◌∷◌, ◌++◌, ap, ◌∙◌, arith}
use Rattle.base.specs.Bits.{bits_all}
use Rattle.base.specs.Crc.{poly8, crc8}
use Rattle.base.proofs.CrcRegister.{crc_small, closes8}
use Rattle.base.proofs.crc.crc8.Goals as goal

pub returns : goal.returns
unfolding crc8
returns c =
    let whole = c.add_bytes.ensures in
    record { value = whole; closes = ap (λ s. crc8 (c.args.bytes.now ++ (s ∷ []))) whole ∙ closes8 c.args.bytes.now }

pub overflow_cast-result : goal.overflow_cast-result
overflow_cast-result c =
    let small = crc_small 8 poly8 0 (bits_all c.args.bytes.now) (omega arith) (omega arith) in
    omega (arith, c.add_bytes.ensures, small)

use Rattle.std.proofs.Common.{suc, ◌/◌, ap, ◌∙◌, arith}
use Rattle.base.specs.Bits.{bits_of}
use Rattle.base.specs.Crc.{crc_bits}
use Rattle.base.proofs.crc.add_byte.Goals as goal

pub loop-preserved : goal.loop-preserved
loop-preserved c = λ n h.
    ap (λ s. crc_bits c.args.poly s (bits_of n (c.loop.rest / 2))) c.add_bit-state.ensures
    ∙ c.loop.invariant (suc n) (omega arith)

pub returns : goal.returns
returns c = c.loop.invariant 0 (omega arith)

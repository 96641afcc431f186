use Rattle.std.proofs.Common.{◌+◌, get_or, drop, sym, ap, ◌∙◌}
use Rattle.std.proofs.lemmas.List.{at_drop_more, at_drop_all}
use Rattle.base.specs.Bits.{bits_of, bits_all}
use Rattle.base.specs.Crc.{crc_bits}
use Rattle.base.proofs.CrcRegister.{crc_append}
use Rattle.base.proofs.crc.add_bytes.Goals as goal

pub loop-byte-preserved : goal.loop-byte-preserved
loop-byte-preserved c =
    let p = c.args.poly in
    let s = c.loop-byte.state in
    let xs = c.args.bytes.now in
    let i = c.loop-byte.byte-index in
    ap (λ t. crc_bits p t (bits_all (drop (i + 1) xs))) c.add_byte-state.ensures
    ∙ sym (at_drop_more (λ l. crc_bits p s (bits_all l)) xs i 0 c.loop-byte-test.true ∙ crc_append p s (bits_of 8 (get_or xs i 0)) (bits_all (drop (i + 1) xs)))
    ∙ c.loop-byte.invariant

pub returns : goal.returns
returns c =
    sym (at_drop_all (λ l. crc_bits c.args.poly c.loop-byte.state (bits_all l)) c.args.bytes.now c.loop-byte.byte-index c.loop-byte-test.false)
    ∙ c.loop-byte.invariant

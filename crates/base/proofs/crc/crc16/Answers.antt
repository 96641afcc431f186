use Rattle.std.proofs.Common.{◌++◌, ap, ◌∙◌}
use Rattle.base.specs.Crc.{crc16, low_high}
use Rattle.base.proofs.CrcRegister.{closes16}
use Rattle.base.proofs.crc.crc16.Goals as goal

pub returns : goal.returns
returns c =
    let whole = c.crc16_after.ensures in
    record { value = whole; closes = ap (λ s. crc16 0 (c.args.bytes.now ++ low_high s)) whole ∙ closes16 c.args.bytes.now }

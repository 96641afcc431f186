use Rattle.std.proofs.Common.{replicate, sym, ap, ◌∙◌, arith}
use Rattle.kinds.proofs.Programming.{program-append}
use Rattle.kinds.specs.SealedTag.{made}
use Rattle.kinds.proofs.sealed_tag.SealedTagKind.program.Goals as goal

pub returns : goal.returns
returns c =
    ap made c.program.ensures
    ∙ sym (program-append 136 c.args.row c.args.new.now c.args.mask c.args.self.now.image.bytes (replicate 8 255) (omega (arith, c.args.self.now.image.whole)))

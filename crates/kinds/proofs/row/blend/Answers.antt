use Rattle.std.proofs.Common.{rules}
use Rattle.kinds.proofs.Blending.{blend_word}
use Rattle.kinds.proofs.row.blend.Goals as goal

pub returns : goal.returns
returns c = blend_word 8 c.args.mask c.args.new c.args.old (search rules) (search rules) (search rules)

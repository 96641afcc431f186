use Rattle.std.proofs.Common.{◌≡◌, ◌+◌, ◌<◌, ◌≤◌, length, ap, ◌∙◌, arith}
use Rattle.kinds.proofs.Programming.{none_yet, row_step, no_more}
use Rattle.kinds.proofs.image.Image.program.Goals as goal
use Rattle.kinds.proofs.image.Image.program.Goals.{then-at, else-at}

pub loop-i-init : goal.loop-i-init
loop-i-init g c = none_yet (length c.args.self.now.bytes) c.args.row c.args.new.now c.args.mask c.args.self.now.bytes

pub loop-i-preserved : goal.loop-i-preserved
loop-i-preserved g c = elim c.if-at.branch [
  | then-at w ↦
      let eight : length c.args.new.now ≡ 8 = c.told-new in
      let within : c.args.row + c.loop-i.i < length c.args.self.now.bytes = omega (arith, c.args.self.now.whole) in
      ap (λ s. s.bytes) w.self-is
      ∙ row_step c.args.row c.args.new.now c.args.mask c.loop-i.i c.args.self.now.bytes c.loop-i.self.bytes w.blend.result c.loop-i.invariant within (omega arith) w.blend.ensures
  | else-at w ↦
      let past : length c.args.self.now.bytes ≤ c.args.row + c.loop-i.i = omega (arith, c.args.self.now.whole) in
      ap (λ s. s.bytes) w.self-is
      ∙ c.loop-i.invariant ∙ no_more c.args.row c.args.new.now c.args.mask c.loop-i.i c.args.self.now.bytes past
]

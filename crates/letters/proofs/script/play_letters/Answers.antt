use Rattle.std.proofs.Common.{◌+◌, ◌≡◌, ◌<◌, length, get_or, ◌∙◌, arith}
use Rattle.std.proofs.lemmas.List.{drop-set-lt, get_or-take, length-take}
use Rattle.std.proofs.lemmas.Grind.{drop_more_same}
use Rattle.rig.specs.RigModel.{rig_of, counting}
use Rattle.letters.proofs.Letter.{letter_more, count_more}
use Rattle.letters.proofs.script.play_letters.Goals as goal

pub loop-i-preserved : goal.loop-i-preserved
loop-i-preserved g c =
    let i = c.loop-i.i in
    let input = c.args.input.now in
    let output = c.loop-i.output in
    let x = c.play_letter.result in
    let short = length-take c.min-count.result input in
    let asked : i < length input = omega arith in
    let room : i < length output = omega arith in
    let called : i < c.min-count.result = omega arith in
    let at : c.from.result ≡ get_or input i 0 = c.from.ensures ∙ get_or-take c.min-count.result input i 0 called in
    let below : i < i + 1 = omega arith in (
      letter_more input output i c.from.result x (rig_of g.L.Line.chips c.args.rig.now) (rig_of g.L.Line.chips c.loop-i.rig)
          (rig_of g.L.Line.chips c.play_letter.new.rig) asked room c.loop-i.invariant.0 c.play_letter.ensures.told at,
      drop-set-lt (i + 1) output i x below ∙ drop_more_same output c.args.output.now i c.loop-i.invariant.1,
      count_more input output i c.from.result (rig_of g.L.Line.chips c.args.rig.now) (rig_of g.L.Line.chips c.loop-i.rig)
          (counting g.L.Line.chips c.args.rig.now).steps (counting g.L.Line.chips c.loop-i.rig).steps (counting g.L.Line.chips c.play_letter.new.rig).steps
          asked c.loop-i.invariant.0 c.loop-i.invariant.2 c.play_letter.ensures.counted at,
    )

use Rattle.std.proofs.Common.{◌≡◌, take, drop}
use Rattle.rig.specs.RigModel.{rig_of, counting}
use Rattle.letters.specs.Letters.{count_all}
use Rattle.letters.proofs.Letter.{Printed}
use Rattle.letters.proofs.script.play_letters.Given as goal

abbrev pub invariant-loop-i : goal.invariant-loop-i
invariant-loop-i g l =
    Printed (rig_of g.L.Line.chips l.rig) l.i l.output l.input (rig_of g.L.Line.chips l.initial.rig)
    × (drop l.i l.output ≡ drop l.i l.initial.output)
    × ((counting g.L.Line.chips l.rig).steps ≡ count_all (take l.i l.input) (rig_of g.L.Line.chips l.initial.rig) (counting g.L.Line.chips l.initial.rig).steps)

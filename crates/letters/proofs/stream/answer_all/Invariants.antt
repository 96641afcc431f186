use Rattle.std.proofs.Common.{◌≡◌, length}
use Rattle.rig.specs.RigModel.{rig_of}
use Rattle.letters.proofs.Parts.{Answered}
use Rattle.letters.proofs.stream.answer_all.Given as goal

abbrev pub invariant-loop : goal.invariant-loop
invariant-loop g l =
    Answered (g.R.Read.remaining l.initial.source) (g.R.Read.remaining l.source) (rig_of g.L.Line.chips l.initial.rig) (rig_of g.L.Line.chips l.rig)
    (g.W.Write.contents l.initial.sink) (g.W.Write.contents l.sink)
    × (length l.input ≡ 4096) × (length l.output ≡ 4096)

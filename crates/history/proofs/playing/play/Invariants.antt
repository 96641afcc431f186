use Rattle.std.proofs.Common.{◌≡◌, map, take, drop}
use Rattle.chip.specs.Histories.{MetAll}
use Rattle.rig.specs.RigModel.{rig_of, counting}
use Rattle.history.specs.Calls.{serve_all}
use Rattle.history.specs.CallMeaning.{request_of, reply_of, form_of, form_asked, tally, AllUnfilled}
use Rattle.history.specs.Promises.{VerdictsTrue}
use Rattle.history.proofs.playing.play.Given as goal

abbrev pub invariant-loop-i : goal.invariant-loop-i
invariant-loop-i g l =
    ((rig_of g.L.Line.chips l.rig, map reply_of (take l.i l.answers)) ≡ serve_all (map request_of (take l.i l.calls)) (rig_of g.L.Line.chips l.initial.rig))
    × (drop l.i l.answers ≡ drop l.i l.initial.answers)
    × ((counting g.L.Line.chips l.rig).steps ≡ tally (take l.i l.calls) (take l.i l.answers) (counting g.L.Line.chips l.initial.rig).steps)
    × AllUnfilled (take l.i l.answers)
    × (map form_of (take l.i l.answers) ≡ map form_asked (take l.i l.calls))
    × (MetAll (rig_of g.L.Line.chips l.initial.rig).line → VerdictsTrue (map request_of (take l.i l.calls)) (rig_of g.L.Line.chips l.initial.rig))

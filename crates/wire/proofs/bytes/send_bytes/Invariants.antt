use Rattle.std.proofs.Common.{◌≡◌, drop}
use Rattle.rig.specs.RigModel.{counting}
use Rattle.wire.specs.Outcomes.{does, sends}
use Rattle.wire.proofs.bytes.send_bytes.Given as goal

abbrev pub invariant-loop-byte : goal.invariant-loop-byte
invariant-loop-byte g l = does (sends (drop l.byte-index l.bytes)) (counting g.L.Line.chips l.rig) ≡ does (sends l.bytes) (counting g.L.Line.chips l.initial.rig)

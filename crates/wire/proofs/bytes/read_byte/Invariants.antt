use Rattle.std.proofs.Common.{◌≡◌, ℕ, ◌+◌}
use Rattle.rig.specs.RigModel.{counting}
use Rattle.wire.specs.Outcomes.{does, reads_byte}
use Rattle.wire.proofs.Steps.{read_rest}
use Rattle.wire.proofs.bytes.read_byte.Given as goal

abbrev pub invariant-loop : goal.invariant-loop
invariant-loop g l = (n : ℕ) → l.counter + n ≡ 8 → does (read_rest l.got n) (counting g.L.Line.chips l.rig) ≡ does reads_byte (counting g.L.Line.chips l.initial.rig)

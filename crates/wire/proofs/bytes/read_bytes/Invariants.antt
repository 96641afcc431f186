use Rattle.std.proofs.Common.{◌≡◌, ℕ, ◌+◌, length, take}
use Rattle.rig.specs.RigModel.{counting}
use Rattle.wire.specs.Outcomes.{does, reads}
use Rattle.wire.proofs.Steps.{reads_rest}
use Rattle.wire.proofs.bytes.read_bytes.Given as goal

abbrev pub invariant-loop-byte : goal.invariant-loop-byte
invariant-loop-byte g l =
    (length l.byte-items ≡ g.row.N)
    × ((n : ℕ) → l.byte-index + n ≡ g.row.N → does (reads_rest (take l.byte-index l.byte-items) n) (counting g.L.Line.chips l.rig) ≡ does (reads g.row.N) (counting g.L.Line.chips l.initial.rig))

use Rattle.std.proofs.Common.{◌≡◌, ℕ, ◌+◌, [], ◌∷◌}
use Rattle.base.specs.Bits.{bits_of}
use Rattle.wire.specs.Jobs.{ret}
use Rattle.wire.specs.Jobs.{send_bits}
use Rattle.rig.specs.RigModel.{counting}
use Rattle.wire.specs.Outcomes.{does, sends}
use Rattle.wire.proofs.bytes.send_byte.Given as goal

-- what is left to do from here is what the whole does from the start
abbrev pub invariant-loop : goal.invariant-loop
invariant-loop g l = (n : ℕ) → l.counter + n ≡ 8 → does (send_bits (bits_of n l.rest) (ret tt)) (counting g.L.Line.chips l.rig) ≡ does (sends (l.byte ∷ [])) (counting g.L.Line.chips l.initial.rig)

use Rattle.std.proofs.Common.{◌≡◌, length}
use Rattle.kinds.specs.Kinds.{edit}
use Rattle.kinds.proofs.Programming.{partly}
use Rattle.kinds.proofs.image.Image.program.Given as goal

abbrev pub invariant-loop-i : goal.invariant-loop-i
invariant-loop-i g l = l.self.bytes ≡ edit 0 (partly (length l.initial.self.bytes) l.row l.new l.mask l.i) l.initial.self.bytes

use Rattle.std.proofs.Common.{◌≡◌, ℕ, ◌+◌}
use Rattle.rig.specs.RigModel.{counting}
use Rattle.wire.specs.Outcomes.{does}
use Rattle.rom_search.specs.Triplets.{triplets_along}
use Rattle.rom_search.proofs.Words.{path_rest}
use Rattle.rom_search.proofs.triplets.follow_path.Given as goal

abbrev pub invariant-loop : goal.invariant-loop
invariant-loop g l = (n : ℕ) → l.counter + n ≡ 64 → does (path_rest n l.state) (counting g.L.Line.chips l.rig) ≡ does (triplets_along l.start) (counting g.L.Line.chips l.initial.rig)

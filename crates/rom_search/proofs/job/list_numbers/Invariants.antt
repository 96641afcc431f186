use Rattle.std.proofs.Common.{◌≡◌, ℕ, ◌+◌, drop}
use Rattle.rig.specs.RigModel.{counting}
use Rattle.rom_search.proofs.Passing.{Left, Untouched}
use Rattle.rom_search.proofs.job.list_numbers.Given as goal

abbrev pub invariant-loop-i : goal.invariant-loop-i
invariant-loop-i g l =
    ((n : ℕ) → l.i + n ≡ l.room → Left l.room (counting g.L.Line.chips l.initial.rig) l.i (counting g.L.Line.chips l.rig) l.path l.places n)
    × (drop l.i l.places ≡ drop l.i l.initial.places)
    × Untouched (counting g.L.Line.chips l.initial.rig) (counting g.L.Line.chips l.rig) l.initial.places l.places

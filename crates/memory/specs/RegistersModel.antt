-- What the registers of the code mean.
use Rattle.std.specs.Prelude.{◌≡◌, ℕ, ◌+◌, ◌<◌, List, [], ◌∷◌, drop, Some, None, Option}
use Rattle.memory.specs.Scratchpads.{Regs}
use Rattle.memory.specs.declared.registers.Registers.{Registers}

abbrev pub regs_of : Registers → Regs
regs_of r = record { ta1 = r.ta1; ta2 = r.ta2; e = r.e.at; pf = r.pf; aa = r.aa; pad = r.pad }

-- the element at a place, or none at the end
abbrev pub Nexts : List ℕ → ℕ → Option ℕ → Type 0
Nexts xs k (Some b) = (drop k xs ≡ b ∷ drop (k + 1) xs) × (k < 255)
Nexts xs k None = drop k xs ≡ []

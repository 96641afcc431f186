-- Lines: what a bus master drives. A line is the list of its chips.
use Rattle.std.specs.Prelude.{Bool, true, false, ◌&&◌, ◌||◌, List, [], ◌∷◌}
use Rattle.chip.specs.ChipStates.{ChipState, has_power, pull_of, is_busy}

abbrev pub some : (ChipState → Bool) → List ChipState → Bool
some f [] = false
some f (c ∷ cs) = f c || some f cs

abbrev pub every : (ChipState → Bool) → List ChipState → Bool
every f [] = true
every f (c ∷ cs) = f c && every f cs

-- a chip has power
abbrev pub presence : List ChipState → Bool
presence l = some has_power l

-- the AND of all pulls
abbrev pub pull : List ChipState → Bool
pull l = every pull_of l

-- a chip with power is programming
abbrev pub any_busy : List ChipState → Bool
any_busy l = some is_busy l

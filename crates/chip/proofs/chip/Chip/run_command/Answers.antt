use Rattle.std.proofs.Common.{rules, tests}
use Rattle.chip.proofs.chip.Chip.run_command.Goals as goal
use Rattle.chip.proofs.chip.Chip.run_command.Goals.{in_default-via-in-165+else-rc, in_default-via-in_default-1}

-- A5h without RC, or no command
pub returns-in_default : goal.returns-in_default
returns-in_default g c =
    elim c.in_default.branch [ in_default-via-in-165+else-rc w ↦ search rules | in_default-via-in_default-1 w ↦ search (rules, tests) ]

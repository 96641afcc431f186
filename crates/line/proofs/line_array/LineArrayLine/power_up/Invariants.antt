use Rattle.chip.specs.ChipStates.{power_chip}
use Rattle.line.proofs.Lines.{Stepped}
use Rattle.line.proofs.line_array.LineArrayLine.power_up.Given as goal

abbrev pub invariant-loop-line : goal.invariant-loop-line
invariant-loop-line g l = Stepped g.L.Line.chips power_chip l.initial.line-items l.line-items l.line-index

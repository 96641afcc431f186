use Rattle.chip.specs.ChipStates.{reset_chip}
use Rattle.line.proofs.Lines.{Stepped}
use Rattle.line.proofs.line_array.LineArrayLine.reset.Given as goal

abbrev pub invariant-loop-line : goal.invariant-loop-line
invariant-loop-line g l = Stepped g.L.Line.chips reset_chip l.initial.line-items l.line-items l.line-index

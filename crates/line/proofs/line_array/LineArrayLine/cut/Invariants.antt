use Rattle.chip.specs.ChipStates.{cut_chip}
use Rattle.line.proofs.Lines.{Stepped}
use Rattle.line.proofs.line_array.LineArrayLine.cut.Given as goal

abbrev pub invariant-loop-line : goal.invariant-loop-line
invariant-loop-line g l = Stepped g.L.Line.chips (cut_chip l.mask) l.initial.line-items l.line-items l.line-index

use Rattle.chip.specs.ChipStates.{take_bit}
use Rattle.line.proofs.Lines.{Stepped}
use Rattle.line.proofs.line_array.LineArrayLine.take.Given as goal

abbrev pub invariant-loop-line : goal.invariant-loop-line
invariant-loop-line g l = Stepped g.L.Line.chips (take_bit l.bit) l.initial.line-items l.line-items l.line-index

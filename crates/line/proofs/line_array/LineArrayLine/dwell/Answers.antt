use Rattle.std.proofs.Common.{arith}
use Rattle.line.proofs.Lines.{stepped_more, stepped_all}
use Rattle.line.proofs.line_array.LineArrayLine.dwell.Goals as goal

pub loop-line-preserved : goal.loop-line-preserved
loop-line-preserved g c = stepped_more g.L.Line.chips c.loop-line.invariant c.line-item.is c.dwell.ensures (omega arith)

pub returns : goal.returns
returns g c = stepped_all g.L.Line.chips c.loop-line.invariant (omega arith)

use Rattle.order.proofs.Comparing.{found_same, found_other}
use Rattle.order.proofs.exchanges.expect.Goals as goal

pub returns-then-eq : goal.returns-then-eq
returns-then-eq g c = found_same c.args.got.now c.args.right.now c.if-eq.ensures

pub returns-else-eq : goal.returns-else-eq
returns-else-eq g c = let p = found_other c.args.got.now c.args.right.now c.if-eq.ensures in (p.0, p.1, c.found.ensures)

use Rattle.wire.proofs.Steps.{exits}
use Rattle.order.proofs.Chain.{end1, end2, differing, going}
use Rattle.order.proofs.job.order_steps.Goals as goal

pub returns-in_err-write_scratchpad : goal.returns-in_err-write_scratchpad
returns-in_err-write_scratchpad g c =
    rw (exits c.from_residual.ensures.1) (end1 c.args.target.number.word c.args.target.row c.args.new.now c.in_err-write_scratchpad.ensures)

pub returns-in_err-loaded : goal.returns-in_err-loaded
returns-in_err-loaded g c =
    rw (exits c.from_residual-in_err-loaded.ensures.1) (end2 c.args.target.number.word c.args.target.row c.args.new.now c.in_ok-write_scratchpad.ensures c.in_err-loaded.ensures)

pub returns-in-Some : goal.returns-in-Some
returns-in-Some g c =
    rw c.steps.ensures
    (differing c.args.target.number.word c.args.target.row c.args.new.now c.in_ok-write_scratchpad.ensures c.in_ok-loaded.ensures c.in-Some.index c.in-Some.ensures)

pub returns : goal.returns
returns g c = going c.args.target.number.word c.args.target.row c.args.new.now c.in_ok-write_scratchpad.ensures c.in_ok-loaded.ensures c.in_default.ensures c.conclude.ensures

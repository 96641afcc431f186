use Rattle.wire.proofs.Steps.{exits}
use Rattle.reading.proofs.Chain.{end1, end2, end3, ended}
use Rattle.reading.proofs.job.read_steps.Goals as goal

pub returns-in_err-probe_scratchpad : goal.returns-in_err-probe_scratchpad
returns-in_err-probe_scratchpad g c =
    rw (exits c.from_residual.ensures.1) (end1 c.args.target.number.word c.args.target.row c.in_err-probe_scratchpad.ensures)

pub returns-in_err-found : goal.returns-in_err-found
returns-in_err-found g c =
    rw (exits c.from_residual-in_err-found.ensures.1) (end2 c.args.target.number.word c.args.target.row c.in_ok-probe_scratchpad.ensures c.in_err-found.ensures)

pub returns-in_err-closing_reset : goal.returns-in_err-closing_reset
returns-in_err-closing_reset g c =
    rw (exits c.from_residual-in_err-closing_reset.ensures.1) (end3 c.args.target.number.word c.args.target.row c.in_ok-probe_scratchpad.ensures c.in_ok-found.ensures c.in_err-closing_reset.ensures)

pub returns : goal.returns
returns g c = rw c.steps.ensures (ended c.args.target.number.word c.args.target.row c.in_ok-probe_scratchpad.ensures c.in_ok-found.ensures c.in_ok-closing_reset.ensures)

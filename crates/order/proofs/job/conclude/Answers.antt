use Rattle.std.proofs.Common.{ap, ◌∙◌}
use Rattle.wire.proofs.Steps.{exits}
use Rattle.order.specs.Differences.{first_difference}
use Rattle.order.specs.OrderOutcomes.{judgement}
use Rattle.order.proofs.Chain.{end3, end4, end5, ended}
use Rattle.order.proofs.job.conclude.Goals as goal

pub returns-in_err-programmed : goal.returns-in_err-programmed
returns-in_err-programmed g c =
    rw (exits c.from_residual.ensures.1) (end3 c.args.target.number.word c.args.target.row c.args.new.now c.in_err-programmed.ensures)

pub returns-in_err-found : goal.returns-in_err-found
returns-in_err-found g c =
    rw (exits c.from_residual-in_err-found.ensures.1) (end4 c.args.target.number.word c.args.target.row c.args.new.now c.in_ok-programmed.ensures c.in_err-found.ensures)

pub returns-in_err-closing_reset : goal.returns-in_err-closing_reset
returns-in_err-closing_reset g c =
    rw (exits c.from_residual-in_err-closing_reset.ensures.1) (end5 c.args.target.number.word c.args.target.row c.args.new.now c.in_ok-programmed.ensures c.in_ok-found.ensures c.in_err-closing_reset.ensures)

pub returns : goal.returns
returns g c =
    ended c.args.target.number.word c.args.target.row c.args.new.now c.in_ok-programmed.ensures c.in_ok-found.ensures
    (c.judge.ensures ∙ ap (judgement c.in_ok-programmed.programmed (first_difference c.args.new.now c.in_ok-found.found)) c.steps.ensures) c.in_ok-closing_reset.ensures

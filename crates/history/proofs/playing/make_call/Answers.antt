use Rattle.std.proofs.Common.{sym, subst}
use Rattle.rig.specs.Rigs.{RigState}
use Rattle.rig.specs.RigModel.{rig_of}
use Rattle.order.specs.Orders.{Verdict}
use Rattle.order.specs.Laws.{OrderBegan}
use Rattle.history.specs.CallMeaning.{request_of}
use Rattle.history.specs.Promises.{VerdictTrue}
use Rattle.history.proofs.playing.make_call.Goals as goal

pub returns-in-Order-clause-verdict : goal.returns-in-Order-clause-verdict
returns-in-Order-clause-verdict g c met =
    subst (λ q. VerdictTrue (request_of q) (rig_of g.L.Line.chips c.args.rig.now)) (sym c.in-Order.is)
    (λ began one. c.order.ensures.here met (subst (λ (t : RigState × Verdict). OrderBegan t.1) (sym c.order.ensures.told) began) one)

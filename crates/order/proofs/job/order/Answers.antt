use Rattle.std.proofs.Common.{Err, refl, ap, ◌∙◌, subst, arith}
use Rattle.kinds.proofs.Programming.{bytes_of_slice}
use Rattle.line.specs.Lines.{any_busy}
use Rattle.rig.specs.Rigs.{RigState}
use Rattle.rig.specs.RigModel.{rig_of, counting}
use Rattle.rig.specs.declared.rig_fault.RigFault.TheVariants.{LineBusy}
use Rattle.wire.specs.declared.exchange_fault.ExchangeFault.TheVariants.{Rig}
use Rattle.wire.proofs.Steps.{exits}
use Rattle.order.specs.declared.order_fault.OrderFault.TheVariants.{Exchange as InExchange}
use Rattle.order.specs.Orders.{Verdict, order_call}
use Rattle.order.specs.Laws.{OrderBegan}
use Rattle.order.specs.OrderOutcomes.{order_verdict}
use Rattle.order.proofs.Chain.{row_refused, order_busy, order_called, order_counted}
use Rattle.order.proofs.Truth.{order-tells, began_leaves_free}
use Rattle.order.proofs.Quiet.{busy_unchanged, leaves_free, uncopied}
use Rattle.order.proofs.Row.{only_the_row}
use Rattle.order.proofs.Steps.{order_steps}
use Rattle.order.proofs.job.order.Goals as goal

pub returns-then-row-ne0 : goal.returns-then-row-ne0
returns-then-row-ne0 g c =
    record {
      told = row_refused c.args.number.word c.args.row c.args.new.now (rig_of g.L.Line.chips c.args.rig.now) c.if-row-ne0.true;
      counted = refl;
      here = λ _ b _. absurd (b.1 refl);
      tells = order-tells;
      unchanged = busy_unchanged;
      free = leaves_free;
      began = began_leaves_free;
      only = only_the_row;
      uncopied = uncopied;
      steps = order_steps;
    }

pub returns-in_err-begin_job : goal.returns-in_err-begin_job
returns-in_err-begin_job g c =
    let f = c.in_err-begin_job.ensures in
    rw (exits c.from_residual.ensures.1) (rw f.1
    (record {
      told = ap (λ d. (d.rig, order_verdict (Err (InExchange (Rig (LineBusy 0)))))) f.0.1
          ∙ order_busy c.args.number.word c.args.row c.args.new.now (rig_of g.L.Line.chips c.args.rig.now) c.if-row-ne0.false f.0.0;
      counted = ap (λ d. d.steps) f.0.1;
      here = λ _ b _. absurd (b.0 refl);
      tells = order-tells;
      unchanged = busy_unchanged;
      free = leaves_free;
      began = began_leaves_free;
      only = only_the_row;
      uncopied = uncopied;
      steps = order_steps;
    }))

pub returns : goal.returns
returns g c =
    let b = c.in_ok-begin_job.ensures in
    let told =
    order_called c.args.number.word c.args.row c.args.new.now c.if-row-ne0.false (ap (λ d. d.steps) b.1) c.order_steps.ensures
    ∙ ap (λ d. order_call c.args.number.word c.args.row c.args.new.now d.rig) b.1 in
    record {
      told = told;
      counted =
          order_counted c.args.number.word c.args.row c.args.new.now c.order_steps.result (counting g.L.Line.chips c.args.rig.now).steps
          c.if-row-ne0.false (ap (λ d. any_busy d.rig.line) b.1 ∙ b.0) c.order_steps.ensures;
      here = λ met began one.
          order-tells (rig_of g.L.Line.chips c.args.rig.now) c.args.number.word c.args.row c.args.new.now met c.args.number.wide (omega arith) c.told-new
          (bytes_of_slice c.args.new.now c.fits-new) (subst (λ (t : RigState × Verdict). OrderBegan t.1) told began) one;
      tells = order-tells;
      unchanged = busy_unchanged;
      free = leaves_free;
      began = began_leaves_free;
      only = only_the_row;
      uncopied = uncopied;
      steps = order_steps;
    }

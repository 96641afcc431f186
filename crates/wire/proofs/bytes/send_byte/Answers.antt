use Rattle.std.proofs.Common.{◌≡◌, suc, ◌-◌, ◌/◌, sym, ◌∙◌, arith}
use Rattle.base.specs.Bits.{bits_of, odd}
use Rattle.rig.specs.Rigs.{slot_pulse}
use Rattle.wire.specs.Jobs.{ret}
use Rattle.wire.specs.Jobs.{send_bits}
use Rattle.rig.specs.RigModel.{counting}
use Rattle.wire.specs.Outcomes.{sends}
use Rattle.wire.proofs.Steps.{exits, does-ret, step_ok, step_err}
use Rattle.wire.proofs.bytes.send_byte.Goals as goal

pub loop-init : goal.loop-init
unfolding sends
loop-init g c = λ n h. let e : n ≡ 8 = omega arith in rw e

pub loop-preserved : goal.loop-preserved
loop-preserved g c = λ n h.
    sym (step_ok (slot_pulse (odd c.loop.rest)) (λ _. send_bits (bits_of n (c.loop.rest / 2)) (ret tt)) (counting g.L.Line.chips c.loop.rig) c.in_ok-slot.ensures) ∙ c.loop.invariant (suc n) (omega arith)

pub returns-in_err-slot : goal.returns-in_err-slot
returns-in_err-slot g c =
    let n = 7 - c.loop.counter in
    rw (exits c.from_residual.ensures.1) (sym (step_err (slot_pulse (odd c.loop.rest)) (λ _. send_bits (bits_of n (c.loop.rest / 2)) (ret tt)) (counting g.L.Line.chips c.loop.rig) c.in_err-slot.ensures) ∙ c.loop.invariant (suc n) (omega arith))

pub returns : goal.returns
returns g c = sym (does-ret tt (counting g.L.Line.chips c.loop.rig)) ∙ c.loop.invariant 0 (omega arith)

use Rattle.std.proofs.Common.{◌≡◌, suc, ◌-◌, true, sym, ap, ◌∙◌, arith}
use Rattle.rig.specs.Rigs.{slot_pulse}
use Rattle.rig.specs.RigModel.{counting}
use Rattle.base.specs.Shifting.{shifted}
use Rattle.wire.specs.Outcomes.{does}
use Rattle.wire.proofs.Steps.{exits, does-ret, step_ok, step_err, read_rest, rest_read}
use Rattle.wire.proofs.bytes.read_byte.Goals as goal

pub loop-init : goal.loop-init
loop-init g c = λ n h.
    let e : n ≡ 8 = omega arith in
    rw e (ap (λ p. does p (counting g.L.Line.chips c.args.rig.now)) rest_read)

pub loop-preserved : goal.loop-preserved
loop-preserved g c = λ n h.
    simp c.shift_in-got.ensures
    (sym (step_ok (slot_pulse true) (λ b. read_rest (shifted 0x80 c.loop.got b) n) (counting g.L.Line.chips c.loop.rig) c.in_ok-bit.ensures) ∙ c.loop.invariant (suc n) (omega arith))

pub returns-in_err-bit : goal.returns-in_err-bit
returns-in_err-bit g c =
    let n = 7 - c.loop.counter in
    rw (exits c.from_residual.ensures.1) (sym (step_err (slot_pulse true) (λ b. read_rest (shifted 0x80 c.loop.got b) n) (counting g.L.Line.chips c.loop.rig) c.in_err-bit.ensures) ∙ c.loop.invariant (suc n) (omega arith))

pub returns : goal.returns
returns g c = sym (does-ret c.loop.got (counting g.L.Line.chips c.loop.rig)) ∙ c.loop.invariant 0 (omega arith)

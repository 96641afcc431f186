use Rattle.std.proofs.Common.{◌≡◌, suc, ◌+◌, ◌-◌, ◌<◌, length, refl, arith}
use Rattle.rig.specs.RigModel.{counting}
use Rattle.wire.proofs.Steps.{exits}
use Rattle.rom_search.proofs.Passing.{left_start, left_more, later_more, untouched_more, left_last, left_fails, left_full}
use Rattle.rom_search.proofs.job.list_numbers.Goals as goal

pub loop-i-init : goal.loop-i-init
loop-i-init g c = (λ n h. let e : n ≡ c.args.room = omega arith in rw e (left_start c.args.room (counting g.L.Line.chips c.args.rig.now) c.args.places.now), refl, λ b. (refl, refl))

pub loop-i-preserved : goal.loop-i-preserved
loop-i-preserved g c =
    let d0 = counting g.L.Line.chips c.args.rig.now in
    let d = counting g.L.Line.chips c.loop-i.rig in
    let lt : c.loop-i.i < length c.loop-i.places = omega arith in (
      λ n h. left_more c.args.room d0 c.loop-i.i n c.loop-i.path d c.loop-i.places c.args.places.now (c.loop-i.invariant.0 (suc n) (omega arith)) c.in_ok-pass.ensures lt c.in-Some.is,
      later_more c.args.room d0 c.loop-i.i (c.args.room - suc c.loop-i.i) c.loop-i.path d c.loop-i.places c.args.places.now (c.loop-i.invariant.0 (suc (c.args.room - suc c.loop-i.i)) (omega arith))
          c.in_ok-pass.ensures lt c.loop-i.invariant.1,
      untouched_more c.loop-i.path (c.loop-i.i + 1) d0 d _ c.in_ok-pass.pass c.args.places.now c.loop-i.places _ c.loop-i.invariant.2 c.in_ok-pass.ensures,
    )

pub returns-in_err-pass : goal.returns-in_err-pass
returns-in_err-pass g c =
    let n = c.args.room - suc c.loop-i.i in
    rw (exits c.from_residual.ensures.1)
    (left_fails c.args.room (counting g.L.Line.chips c.args.rig.now) c.loop-i.i n c.loop-i.path (counting g.L.Line.chips c.loop-i.rig) c.loop-i.places c.args.places.now (c.loop-i.invariant.0 (suc n) (omega arith))
    c.in_err-pass.field-0.0 c.in_err-pass.ensures c.loop-i.invariant.1 c.loop-i.invariant.2)

pub returns-in_default : goal.returns-in_default
returns-in_default g c =
    let n = c.args.room - suc c.loop-i.i in
    let lt : c.loop-i.i < length c.loop-i.places = omega arith in
    left_last c.args.room (counting g.L.Line.chips c.args.rig.now) c.loop-i.i n c.loop-i.path (counting g.L.Line.chips c.loop-i.rig) c.loop-i.places c.args.places.now (c.loop-i.invariant.0 (suc n) (omega arith))
    c.in_ok-pass.ensures lt c.steps.result c.steps.ensures c.in_default.is c.loop-i.invariant.1

pub returns : goal.returns
returns g c =
    left_full c.args.room (counting g.L.Line.chips c.args.rig.now) c.loop-i.i c.loop-i.path (counting g.L.Line.chips c.loop-i.rig) c.loop-i.places c.args.places.now
    c.steps-2.result (omega arith) c.steps-2.ensures (c.loop-i.invariant.0 0 (omega arith)) c.loop-i.invariant.1

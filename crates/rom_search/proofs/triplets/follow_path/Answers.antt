use Rattle.std.proofs.Common.{◌≡◌, suc, ◌-◌, sym, ap, ◌∙◌, arith}
use Rattle.rig.specs.RigModel.{counting}
use Rattle.wire.specs.Outcomes.{does}
use Rattle.wire.proofs.Steps.{exits}
use Rattle.rom_search.proofs.Following.{path_start, walk_err1, walk_err2, walk_err3, path_lost, path_more, path_done}
use Rattle.rom_search.proofs.triplets.follow_path.Goals as goal

pub loop-init : goal.loop-init
loop-init g c = λ n h. let e : n ≡ 64 = omega arith in rw e (ap (λ p. does p (counting g.L.Line.chips c.args.rig.now)) (path_start c.args.start))

pub loop-preserved : goal.loop-preserved
loop-preserved g c = λ n h.
    rw c.take-state.ensures
    (sym (path_more n c.loop.state (counting g.L.Line.chips c.loop.rig) c.in_ok-a.ensures c.in_ok-b.ensures c.in-Some.ensures c.choose-bit.ensures c.in_ok-slot.ensures)
    ∙ c.loop.invariant (suc n) (omega arith))

pub returns-in_err-a : goal.returns-in_err-a
returns-in_err-a g c =
    let n = 63 - c.loop.counter in
    rw (exits c.from_residual.ensures.1) (sym (walk_err1 n c.loop.state (counting g.L.Line.chips c.loop.rig) c.in_err-a.ensures) ∙ c.loop.invariant (suc n) (omega arith))

pub returns-in_err-b : goal.returns-in_err-b
returns-in_err-b g c =
    let n = 63 - c.loop.counter in
    rw (exits c.from_residual-in_err-b.ensures.1) (sym (walk_err2 n c.loop.state (counting g.L.Line.chips c.loop.rig) c.in_ok-a.ensures c.in_err-b.ensures) ∙ c.loop.invariant (suc n) (omega arith))

pub returns-in_default : goal.returns-in_default
returns-in_default g c =
    let n = 63 - c.loop.counter in
    sym (path_lost n c.loop.state (counting g.L.Line.chips c.loop.rig) c.in_ok-a.ensures c.in_ok-b.ensures c.in_default.ensures) ∙ c.loop.invariant (suc n) (omega arith)

pub returns-in_err-slot : goal.returns-in_err-slot
returns-in_err-slot g c =
    let n = 63 - c.loop.counter in
    rw (exits c.from_residual-in_err-slot.ensures.1)
    (sym (walk_err3 n c.loop.state (counting g.L.Line.chips c.loop.rig) c.in_ok-a.ensures c.in_ok-b.ensures c.in-Some.ensures c.choose-bit.ensures c.in_err-slot.ensures)
    ∙ c.loop.invariant (suc n) (omega arith))

pub returns : goal.returns
returns g c = path_done c.loop.state (counting g.L.Line.chips c.loop.rig) ∙ c.loop.invariant 0 (omega arith)

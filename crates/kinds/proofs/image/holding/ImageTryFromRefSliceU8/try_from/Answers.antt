use Rattle.std.proofs.Common.{length, ap, ◌∙◌, arith}
use Rattle.kinds.proofs.Programming.{bytes_of_slice}
use Rattle.kinds.proofs.image.holding.ImageTryFromRefSliceU8.try_from.Goals as goal

pub invariant_of-result : goal.invariant_of-result
invariant_of-result g c =
    let e = c.in-Ok.ensures.1 in
    record { whole = ap length e.same ∙ e.long; small = bytes_of_slice _ (λ i. let s = c.type_inv.bytes i in rw e.same (omega (arith, s))) }

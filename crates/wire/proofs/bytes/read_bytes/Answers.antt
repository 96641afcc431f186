use Rattle.std.proofs.Common.{◌≡◌, suc, ◌-◌, ◌<◌, ◌≤◌, [], ◌∷◌, ◌++◌, length, take, set, Ok, sym, ap, ◌∙◌, append-nil, add-one, arith, length-set, take_all, take-suc-set}
use lib.ListN.{length-replicate}
use Rattle.rig.specs.RigModel.{counting}
use Rattle.wire.specs.Outcomes.{does, reads, reads_byte}
use Rattle.wire.proofs.Steps.{exits, does-ret, bind_ok, bind_err, reads_rest, reads_more}
use Rattle.wire.proofs.bytes.read_bytes.Goals as goal

pub loop-byte-init : goal.loop-byte-init
unfolding reads
loop-byte-init g c = (length-replicate g.row.N 0, λ n h. let e : n ≡ g.row.N = omega arith in rw e)

pub loop-byte-preserved : goal.loop-byte-preserved
loop-byte-preserved g c =
    let d = counting g.L.Line.chips c.loop-byte.rig in
    let got = c.loop-byte.byte-items in
    let i = c.loop-byte.byte-index in
    let x = c.in_ok-byte.field-0 in
    let lt : i < length got = omega (arith, c.loop-byte.invariant.0) in (
      simp length-set c.loop-byte.invariant.0,
      λ n h.
          sym (ap (λ p. does p d) (reads_more (take i got) n) ∙ bind_ok reads_byte (λ x. reads_rest (take i got ++ (x ∷ [])) n) d c.in_ok-byte.ensures
          ∙ ap (λ l. does (reads_rest l n) (counting g.L.Line.chips c.read_byte.new.rig)) (sym (take-suc-set got i x lt) ∙ ap (λ k. take k (set got i x)) (sym (add-one i))))
          ∙ c.loop-byte.invariant.1 (suc n) (omega arith),
    )

pub returns-in_err-byte : goal.returns-in_err-byte
returns-in_err-byte g c =
    let d = counting g.L.Line.chips c.loop-byte.rig in
    let l = take c.loop-byte.byte-index c.loop-byte.byte-items in
    let n = g.row.N - suc c.loop-byte.byte-index in
    rw (exits c.from_residual.ensures.1)
    (sym (ap (λ p. does p d) (reads_more l n) ∙ bind_err reads_byte (λ x. reads_rest (l ++ (x ∷ [])) n) d c.in_err-byte.ensures) ∙ c.loop-byte.invariant.1 (suc n) (omega arith))

pub returns : goal.returns
returns g c =
    let d = counting g.L.Line.chips c.loop-byte.rig in
    let got = c.loop-byte.byte-items in
    let i = c.loop-byte.byte-index in
    let le : length got ≤ i = omega (arith, c.loop-byte.invariant.0) in
    ap (λ l. (d, Ok l)) (sym (append-nil (take i got) ∙ take_all i got le)) ∙ sym (does-ret (take i got ++ []) d) ∙ c.loop-byte.invariant.1 0 (omega arith)

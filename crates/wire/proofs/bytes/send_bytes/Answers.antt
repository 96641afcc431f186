use Rattle.std.proofs.Common.{◌+◌, [], ◌∷◌, get_or, drop, sym, ap, ◌∙◌}
use Rattle.std.proofs.lemmas.List.{at_drop_more, at_drop_all}
use Rattle.rig.specs.RigModel.{counting}
use Rattle.wire.specs.Outcomes.{does, sends}
use Rattle.wire.proofs.Steps.{exits, bind_ok, bind_err, sends_more, sends_none}
use Rattle.wire.proofs.bytes.send_bytes.Goals as goal

pub loop-byte-preserved : goal.loop-byte-preserved
loop-byte-preserved g c =
    let d = counting g.L.Line.chips c.loop-byte.rig in
    let xs = c.args.bytes.now in
    let i = c.loop-byte.byte-index in
    sym (at_drop_more (λ l. does (sends l) d) xs i 0 c.loop-byte-test.true ∙ ap (λ p. does p d) (sends_more (get_or xs i 0) (drop (i + 1) xs))
    ∙ bind_ok (sends (get_or xs i 0 ∷ [])) (λ _. sends (drop (i + 1) xs)) d c.in_ok-send_byte.ensures)
    ∙ c.loop-byte.invariant

pub returns-in_err-send_byte : goal.returns-in_err-send_byte
returns-in_err-send_byte g c =
    let d = counting g.L.Line.chips c.loop-byte.rig in
    let xs = c.args.bytes.now in
    let i = c.loop-byte.byte-index in
    rw (exits c.from_residual.ensures.1)
    (sym (at_drop_more (λ l. does (sends l) d) xs i 0 c.loop-byte-test.true ∙ ap (λ p. does p d) (sends_more (get_or xs i 0) (drop (i + 1) xs))
    ∙ bind_err (sends (get_or xs i 0 ∷ [])) (λ _. sends (drop (i + 1) xs)) d c.in_err-send_byte.ensures)
    ∙ c.loop-byte.invariant)

pub returns : goal.returns
returns g c =
    let d = counting g.L.Line.chips c.loop-byte.rig in
    sym (at_drop_all (λ l. does (sends l) d) c.args.bytes.now c.loop-byte.byte-index c.loop-byte-test.false ∙ sends_none d) ∙ c.loop-byte.invariant

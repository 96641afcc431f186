use Rattle.std.proofs.Common.{◌≡◌, ◌-◌, ◌≤◌, ◌++◌, length, take, drop, sym, ap, ◌∙◌, subst, arith}
use Rattle.std.proofs.lemmas.List.{take_rest, length-drop}
use Rattle.std.proofs.Math.Seq.{take-add}
use Rattle.std.specs.Io.KnownBytes.{Appends}
use Rattle.std.proofs.KnownBytes.{Appends-trans, Appends-kept}
use Rattle.letters.proofs.stream.write_out.Goals.{in-Ok, in-Err}
use Rattle.letters.proofs.stream.write_out.Goals as goal

pub loop-preserved : goal.loop-preserved
loop-preserved g c =
    let bytes = c.args.bytes.now in
    let i = c.loop.written in
    let (within, before) = c.loop.invariant in elim c.match-write.branch [
      | in-Ok w ↦
          let n = w.in-Ok.n in
          let room : n ≤ length (drop i bytes) = subst (λ l. n ≤ length l) (take_rest bytes i) w.in-Ok.ensures.bound in
          let front : take i bytes ++ take n (take (length bytes - i) (drop i bytes)) ≡ take c.match-write.written bytes =
          ap (λ l. take i bytes ++ take n l) (take_rest bytes i) ∙ sym (take-add i n bytes) ∙ ap (λ k. take k bytes) (sym w.written-is) in
          (omega (arith, length-drop i bytes, w.written-is), subst (Appends _ _) front (Appends-trans _ _ _ _ _ before w.in-Ok.ensures.bytes))
      | in-Err w ↦
          subst (λ k. (k ≤ length bytes) × Appends (g.W.Write.contents c.args.sink.now) (g.W.Write.contents c.write.new.self) (take k bytes)) (sym w.written-is)
          (within, Appends-kept _ _ _ _ before w.in-Err.ensures.bytes)
    ]

use Rattle.std.proofs.Common.{◌≡◌, [], length, take, refl, sym, ap, ◌∙◌, subst, ◌++◌}
use Rattle.std.proofs.lemmas.Result.{MatchResult-from_err, on_err_weaker}
use Rattle.std.specs.Io.{StartsWith}
use Rattle.letters.specs.Stream.{newline}
use Rattle.std.specs.Io.KnownBytes.{Consumes}
use Rattle.std.proofs.KnownBytes.{Consumes-nil, Consumes-kept, Appends-nil}
use Rattle.letters.proofs.Parts.{whole_part, starts_before, answered_more, answered_front}
use Rattle.letters.proofs.stream.answer_all.Goals as goal

pub returns-in_err-arrived-clause-err : goal.returns-in_err-arrived-clause-err
returns-in_err-arrived-clause-err g c =
    let nothing_taken = Consumes-kept _ _ _ [] (Consumes-nil _) c.in_err-arrived.ensures.bytes in
    MatchResult-from_err _ _ _ c.from_residual.ensures.0 (λ _. answered_front _ _ _ _ _ _ [] c.loop.invariant.0 nothing_taken refl ([], refl, Appends-nil _))

pub returns-then-arrived-eq0-clause-err : goal.returns-then-arrived-eq0-clause-err
returns-then-arrived-eq0-clause-err g c =
    let remaining = g.R.Read.remaining in
    let contents = g.W.Write.contents in
    let none_taken = subst (λ n. Consumes (remaining c.loop.source) (remaining c.read.new.self) (take n c.read.new.buf)) c.if-arrived-eq0.true c.in_ok-arrived.ensures.bytes.0 in
    on_err_weaker c.write_out.result
    (answered_front (remaining c.args.source.now) (remaining c.loop.source) (remaining c.read.new.self) (contents c.args.sink.now) (contents c.loop.sink) (contents c.write_out.new.sink)
    [] c.loop.invariant.0 none_taken refl) c.write_out.ensures.err

pub returns-in_err-write_out-clause-err : goal.returns-in_err-write_out-clause-err
returns-in_err-write_out-clause-err g c =
    let arrived = c.in_ok-arrived.arrived in
    let input = c.read.new.buf in
    let same : length input ≡ length c.loop.output = c.read.auto.buf ∙ c.loop.invariant.1 ∙ sym c.loop.invariant.2 in
    let told = whole_part input c.loop.output _ arrived c.play_letters-answered.result _ _ same c.play_letters-answered.ensures.count c.play_letters-answered.ensures.told in
    let (written, front, wrote) = c.in_err-write_out.ensures.err in
    MatchResult-from_err _ _ _ c.from_residual-in_err-write_out.ensures.0
    (λ _. answered_front _ _ _ _ _ _ (take arrived input) c.loop.invariant.0 c.in_ok-arrived.ensures.bytes.0 (ap (λ v. v.0) told)
    (written, subst (λ l. StartsWith (l ++ newline) written) (ap (λ v. v.1) told) (starts_before _ newline written front), wrote))

pub loop-preserved : goal.loop-preserved
loop-preserved g c =
    let arrived = c.in_ok-arrived.arrived in
    let input = c.read.new.buf in
    let same : length input ≡ length c.loop.output = c.read.auto.buf ∙ c.loop.invariant.1 ∙ sym c.loop.invariant.2 in
    let told = whole_part input c.loop.output _ arrived c.play_letters-answered.result _ _ same c.play_letters-answered.ensures.count c.play_letters-answered.ensures.told in
    let wrote = c.in_ok-write_out.ensures.ok in (
      answered_more _ _ _ _ _ _ (take arrived input) _ c.loop.invariant.0 c.in_ok-arrived.ensures.bytes.0 told wrote,
      same ∙ c.loop.invariant.2,
      c.play_letters-answered.auto.output ∙ c.loop.invariant.2,
    )

pub returns-clause-err : goal.returns-clause-err
returns-clause-err g c = answered_front _ _ _ _ _ _ [] c.loop.invariant.0 (Consumes-nil _) refl ([], refl, Appends-nil _)

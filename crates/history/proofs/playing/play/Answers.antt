use Rattle.std.proofs.Common.{◌≡◌, ◌+◌, ◌<◌, List, map, length, get_or, take, drop, sym, ap, ◌∙◌, subst, arith}
use Rattle.std.proofs.lemmas.List.{drop-set-lt, get_or-take, length-take}
use Rattle.std.proofs.lemmas.Grind.{drop_more_same}
use Rattle.chip.specs.Histories.{MetAll}
use Rattle.rig.specs.Rigs.{RigState}
use Rattle.rig.specs.RigModel.{rig_of, counting}
use Rattle.history.specs.Calls.{Reply}
use Rattle.history.specs.Identity.{EndsByBytes}
use Rattle.history.specs.Laws.{numbers}
use Rattle.history.specs.CallMeaning.{request_of, form_of, form_asked, tally, AllUnfilled}
use Rattle.history.specs.Promises.{VerdictsTrue}
use Rattle.history.proofs.Runs.{Played, played_more, forms_more, tally_more, unfilled_more}
use Rattle.history.specs.declared.calls.Call.{Call}
use Rattle.history.proofs.Stays.{numbers_stay, only_programming, steps_only_program, power_up_forgets, met_stays}
use Rattle.history.proofs.Silent.{silent_unpowered}
use Rattle.history.proofs.Identity.{ends_by_bytes, tag_is_its_bytes}
use Rattle.history.proofs.Outlives.{outlives_from}
use Rattle.history.proofs.Promised.{verdicts_more, promises}
use Rattle.history.proofs.Edges.{edge_runs}
use Rattle.history.proofs.playing.play.Goals as goal

pub loop-i-preserved : goal.loop-i-preserved
loop-i-preserved g c =
    let i = c.loop-i.i in
    let calls = c.args.calls.now in
    let answers = c.loop-i.answers in
    let q = c.call-item.result in
    let short = length-take c.min-count.result calls in
    let asked : i < length calls = omega arith in
    let room : i < length answers = omega arith in
    let called : i < c.min-count.result = omega arith in
    let at : q ≡ get_or calls i q = c.call-item.is ∙ get_or-take c.min-count.result calls i q called in
    let below : i < i + 1 = omega arith in (
      played_more calls answers i q c.make_call.result (rig_of g.L.Line.chips c.args.rig.now) (rig_of g.L.Line.chips c.loop-i.rig)
          (rig_of g.L.Line.chips c.make_call.new.rig) asked room c.loop-i.invariant.0 c.make_call.ensures.told at,
      drop-set-lt (i + 1) answers i c.make_call.result below ∙ drop_more_same answers c.args.answers.now i c.loop-i.invariant.1,
      tally_more calls answers i q c.make_call.result (counting g.L.Line.chips c.args.rig.now).steps (counting g.L.Line.chips c.loop-i.rig).steps
          (counting g.L.Line.chips c.make_call.new.rig).steps asked room c.loop-i.invariant.2 c.make_call.ensures.counted at,
      unfilled_more answers i c.make_call.result room c.loop-i.invariant.3 c.make_call.ensures.rest,
      forms_more calls answers i q c.make_call.result asked room c.loop-i.invariant.4 c.make_call.ensures.form at,
      verdicts_more calls answers i q (rig_of g.L.Line.chips c.args.rig.now) (rig_of g.L.Line.chips c.loop-i.rig) asked c.loop-i.invariant.0
          c.loop-i.invariant.5 c.make_call.ensures.verdict at,
    )

pub returns : goal.returns
returns g c =
    let r = rig_of g.L.Line.chips c.args.rig.now in
    let qs = map request_of (take c.min-count.result c.args.calls.now) in
    let all : c.loop-i.i ≡ c.min-count.result = omega (arith, length-take {A = Call}) in
    let told = subst (λ n. Played (rig_of g.L.Line.chips c.loop-i.rig) n c.loop-i.answers c.args.calls.now r) all c.loop-i.invariant.0 in
    record {
      count = omega arith;
      told = told;
      forms = subst (λ n. map form_of (take n c.loop-i.answers) ≡ map form_asked (take n c.args.calls.now)) all c.loop-i.invariant.4;
      counted = subst (λ n. (counting g.L.Line.chips c.loop-i.rig).steps ≡ tally (take n c.args.calls.now) (take n c.loop-i.answers) (counting g.L.Line.chips c.args.rig.now).steps) all c.loop-i.invariant.2;
      rest = subst (λ n. AllUnfilled (take n c.loop-i.answers)) all c.loop-i.invariant.3;
      later = ap (λ n. drop n c.loop-i.answers) (sym all) ∙ c.loop-i.invariant.1 ∙ ap (λ n. drop n c.args.answers.now) all;
      here = ap (λ (t : RigState × List Reply). numbers t.0) told ∙ numbers_stay r qs;
      numbers = numbers_stay;
      programming = only_programming;
      each = steps_only_program;
      silent = silent_unpowered;
      forgets = power_up_forgets;
      met = met_stays;
      protection = λ m. outlives_from r m qs;
      verdicts = subst (λ n. MetAll r.line → VerdictsTrue (map request_of (take n c.args.calls.now)) r) all c.loop-i.invariant.5;
      ends = subst (EndsByBytes r qs) (sym told) (ends_by_bytes r qs);
      known = tag_is_its_bytes (rig_of g.L.Line.chips c.loop-i.rig);
      promises = promises;
      edges = edge_runs;
    }

use Rattle.std.proofs.Common.{◌≡◌, ℕ, List, map, Err, sym, refl, ap, ◌∙◌, true≢false, arith}
use Rattle.chip.specs.ChipStates.{bytes_of}
use Rattle.rig.specs.Rigs.{RigState}
use Rattle.line.specs.Lines.{any_busy}
use Rattle.rig.specs.RigModel.{rig_of, counting}
use Rattle.rig.specs.declared.rig_fault.RigFault.TheVariants.{LineBusy}
use Rattle.wire.specs.declared.exchange_fault.ExchangeFault.TheVariants.{Rig}
use Rattle.reading.specs.declared.read_fault.ReadFault.TheVariants.{Exchange as InExchange}
use Rattle.reading.specs.ReadOutcomes.{read_report}
use Rattle.wire.specs.Jobs.{Report}
use Rattle.reading.specs.Readings.{read_call}
use Rattle.wire.proofs.Steps.{exits}
use Rattle.wire.proofs.Selected.{line_laws}
use Rattle.reading.proofs.Chain.{row_refused, read_busy, read_ok, read_err, count_err}
use Rattle.reading.proofs.Quiet.{bytes_stay, busy_unchanged, leaves_free}
use Rattle.reading.proofs.Found.{row_is_read}
use Rattle.reading.proofs.Truth.{reading-tells}
use Rattle.reading.proofs.Steps.{reading_steps}
use Rattle.reading.proofs.job.read_row.Goals as goal

-- what the call tells of the tags' bytes
same : (r : RigState) {s : RigState} {t : Report (List ℕ)} (x row : ℕ) → ◌≡◌ {A = RigState × Report (List ℕ)} (s, t) (read_call x row r) → map bytes_of s.line ≡ map bytes_of r.line
same r x row e = ap (λ (u : RigState × Report (List ℕ)). map bytes_of u.0.line) e ∙ bytes_stay r x row

pub returns-then-row-ne0 : goal.returns-then-row-ne0
returns-then-row-ne0 g c =
    record {
      told = row_refused c.args.number.word c.args.row (rig_of g.L.Line.chips c.args.rig.now) c.args.into.now c.if-row-ne0.true;
      counted = refl;
      kept = λ _. refl;
      bytes = refl;
      here = λ met al b one. reading-tells (rig_of g.L.Line.chips c.args.rig.now) c.args.number.word c.args.row met c.args.number.wide al (omega arith) b one;
      tells = reading-tells;
      found = row_is_read;
      unchanged = busy_unchanged;
      free = leaves_free;
      steps = reading_steps;
      lines = line_laws;
    }

pub returns-in_err-begin_job : goal.returns-in_err-begin_job
returns-in_err-begin_job g c =
    let f = c.in_err-begin_job.ensures in
    rw (exits c.from_residual.ensures.1) (rw f.1
    (record {
      told = ap (λ d. (d.rig, read_report (Err (InExchange (Rig (LineBusy 0)))) c.args.into.now)) f.0.1
          ∙ read_busy c.args.number.word c.args.row (rig_of g.L.Line.chips c.args.rig.now) c.args.into.now c.if-row-ne0.false f.0.0;
      counted = ap (λ d. d.steps) f.0.1;
      kept = λ _. refl;
      bytes = ap (λ d. map bytes_of d.rig.line) f.0.1;
      here = λ met al b one. reading-tells (rig_of g.L.Line.chips c.args.rig.now) c.args.number.word c.args.row met c.args.number.wide al (omega arith) b one;
      tells = reading-tells;
      found = row_is_read;
      unchanged = busy_unchanged;
      free = leaves_free;
      steps = reading_steps;
      lines = line_laws;
    }))

pub returns-in_err-found : goal.returns-in_err-found
returns-in_err-found g c =
    let b = c.in_ok-begin_job.ensures in
    let f = c.in_err-found.field-0.0 in
    let told =
    read_err c.args.number.word c.args.row f c.args.into.now c.if-row-ne0.false (ap (λ d. d.steps) b.1) c.in_err-found.ensures
    ∙ ap (λ d. read_call c.args.number.word c.args.row d.rig) b.1 in
    rw (exits c.from_residual-in_err-found.ensures.1)
    (record {
      told = told;
      counted = count_err c.args.number.word c.args.row f (counting g.L.Line.chips c.args.rig.now).steps (ap (λ d. any_busy d.rig.line) b.1 ∙ b.0) c.in_err-found.ensures;
      kept = λ _. refl;
      bytes = same (rig_of g.L.Line.chips c.args.rig.now) c.args.number.word c.args.row told;
      here = λ met al b one. reading-tells (rig_of g.L.Line.chips c.args.rig.now) c.args.number.word c.args.row met c.args.number.wide al (omega arith) b one;
      tells = reading-tells;
      found = row_is_read;
      unchanged = busy_unchanged;
      free = leaves_free;
      steps = reading_steps;
      lines = line_laws;
    })

pub returns : goal.returns
returns g c =
    let b = c.in_ok-begin_job.ensures in
    let told =
    read_ok c.args.number.word c.args.row c.if-row-ne0.false (ap (λ d. d.steps) b.1) c.in_ok-found.ensures
    ∙ ap (λ d. read_call c.args.number.word c.args.row d.rig) b.1 in
    record {
      told = told;
      counted = sym c.in_ok-found.ensures.counts;
      kept = λ e. absurd (true≢false (sym e));
      bytes = same (rig_of g.L.Line.chips c.args.rig.now) c.args.number.word c.args.row told;
      here = λ met al b one. reading-tells (rig_of g.L.Line.chips c.args.rig.now) c.args.number.word c.args.row met c.args.number.wide al (omega arith) b one;
      tells = reading-tells;
      found = row_is_read;
      unchanged = busy_unchanged;
      free = leaves_free;
      steps = reading_steps;
      lines = line_laws;
    }

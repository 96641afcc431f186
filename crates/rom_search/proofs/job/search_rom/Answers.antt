use Rattle.std.proofs.Common.{◌≡◌, ℕ, List, map, length, Err, refl, ap, ◌∙◌}
use Rattle.chip.specs.ChipStates.{bytes_of}
use Rattle.line.specs.Lines.{any_busy}
use Rattle.rig.specs.Rigs.{RigState}
use Rattle.rig.specs.declared.rig_fault.RigFault.TheVariants.{LineBusy}
use Rattle.wire.specs.declared.exchange_fault.ExchangeFault.TheVariants.{Rig}
use Rattle.wire.proofs.Steps.{exits}
use Rattle.rom_search.specs.declared.search_fault.SearchFault.TheVariants.{Exchange as InExchange}
use Rattle.rom_search.specs.SearchOutcomes.{search_answer}
use Rattle.rig.specs.RigModel.{counting, rig_of}
use Rattle.wire.specs.Jobs.{Report}
use Rattle.rom_search.specs.Searches.{search_call}
use Rattle.rom_search.proofs.Called.{none-refused, never_none, search_called, counted_after}
use Rattle.rom_search.proofs.Counted.{search_steps, absent_steps}
use Rattle.rom_search.proofs.Searched.{search_complete, search_busy, busy_unchanged, bytes_stay, search_bound}
use Rattle.rom_search.proofs.job.search_rom.Goals as goal

-- what the call tells of the tags' bytes
same : (r : RigState) {s : RigState} {t : Report ℕ × List ℕ} (places : ℕ) → ◌≡◌ {A = RigState × (Report ℕ × List ℕ)} (s, t) (search_call places r) → map bytes_of s.line ≡ map bytes_of r.line
same r places e = ap (λ (u : RigState × (Report ℕ × List ℕ)). map bytes_of u.0.line) e ∙ bytes_stay r places

pub returns-then-places-eq0 : goal.returns-then-places-eq0
returns-then-places-eq0 g c =
    record {
      told = none-refused (length c.args.places.now) (rig_of g.L.Line.chips c.args.rig.now) c.args.places.now c.if-places-eq0.true;
      counted = refl;
      later = refl;
      bytes = refl;
      complete = search_complete;
      unchanged = busy_unchanged;
      no_place = (λ _. c.if-places-eq0.true, λ _. refl);
      steps = search_steps;
      absent = absent_steps;
      bound = search_bound;
    }

pub returns-in_err-begin_job : goal.returns-in_err-begin_job
returns-in_err-begin_job g c =
    let f = c.in_err-begin_job.ensures in
    rw (exits c.from_residual.ensures.1) (rw f.1
    (record {
      told = ap (λ d. (d.rig, search_answer (Err (InExchange (Rig (LineBusy 0)))) c.args.places.now)) f.0.1
          ∙ search_busy (length c.args.places.now) (rig_of g.L.Line.chips c.args.rig.now) c.if-places-eq0.false f.0.0;
      counted = ap (λ d. d.steps) f.0.1;
      later = refl;
      bytes = ap (λ d. map bytes_of d.rig.line) f.0.1;
      complete = search_complete;
      unchanged = busy_unchanged;
      no_place = (λ z. absurd (never_none _ tt z), λ z. absurd (c.if-places-eq0.false z));
      steps = search_steps;
      absent = absent_steps;
      bound = search_bound;
    }))

pub returns : goal.returns
returns g c =
    let b = c.in_ok-begin_job.ensures in
    let told =
    search_called (length c.args.places.now) c.room_of-room.result _ (counting g.L.Line.chips c.list_numbers.new.rig)
    c.args.places.now c.list_numbers.new.places c.list_numbers.result c.if-places-eq0.false c.room_of-room.ensures (ap (λ d. d.steps) b.1) c.list_numbers.ensures
    ∙ ap (λ d. search_call (length c.args.places.now) d.rig) b.1 in
    record {
      told = told;
      counted = counted_after c.list_numbers.result (counting g.L.Line.chips c.args.rig.now).steps (ap (λ d. any_busy d.rig.line) b.1 ∙ b.0) c.list_numbers.ensures;
      later = c.list_numbers.ensures.later;
      bytes = same (rig_of g.L.Line.chips c.args.rig.now) (length c.args.places.now) told;
      complete = search_complete;
      unchanged = busy_unchanged;
      no_place = (λ z. absurd (never_none c.list_numbers.result c.list_numbers.ensures.begun z), λ z. absurd (c.if-places-eq0.false z));
      steps = search_steps;
      absent = absent_steps;
      bound = search_bound;
    }

use Rattle.std.proofs.Common.{◌≡◌, ℕ, min, List, length, take, drop, replicate, ◌++◌, ◌∙◌, subst, arith, length-take}
use Rattle.std.proofs.lemmas.List.{take-append-drop}
use Rattle.rig.specs.RigModel.{rig_of}
use Rattle.rom_search.specs.Searches.{most_places}
use Rattle.rom_search.specs.SearchOutcomes.{Later}
use Rattle.history.proofs.Lent.{lent_told, lent_form, later_longer}
use Rattle.history.proofs.playing.make_search.Goals as goal

pub returns : goal.returns
returns g c =
    let lent = c.min-lent.result in
    let zeros : List ℕ = replicate most_places 0 in
    let e : length (take lent (replicate {A = ℕ} most_places 0)) ≡ min c.args.places most_places = length-take lent (replicate most_places 0) ∙ omega arith in
    record {
      told = lent_told c.args.places (length (take lent (replicate {A = ℕ} most_places 0))) (rig_of g.L.Line.chips c.args.rig.now) (rig_of g.L.Line.chips c.search_rom-outcome.new.rig)
          c.search_rom-outcome.result c.search_rom-outcome.new.places _ e c.search_rom-outcome.ensures.told;
      form = lent_form c.args.places (length (take lent (replicate {A = ℕ} most_places 0))) c.search_rom-outcome.result _ e c.search_rom-outcome.ensures.no_place;
      counted = c.search_rom-outcome.ensures.counted;
      rest = subst (λ l. Later c.search_rom-outcome.result l (c.search_rom-outcome.new.places ++ drop lent zeros)) (take-append-drop lent zeros)
          (later_longer c.search_rom-outcome.result (take lent zeros) c.search_rom-outcome.new.places (drop lent zeros) c.search_rom-outcome.auto.places c.search_rom-outcome.ensures.later);
    }

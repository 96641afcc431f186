-- One pass on a rig at work.
use Rattle.std.specs.Prelude.{ℕ, [], ◌∷◌, Some, None, Ok, Err, Option, Result}
use Rattle.rig.specs.RigModel.{Counting}
use Rattle.wire.specs.Exchanges.{present}
use Rattle.wire.specs.Outcomes.{does, sends, onward, keep}
use Rattle.wire.specs.declared.exchange_fault.ExchangeError.TheVariants.{Garbled}
use Rattle.wire.specs.declared.exchange_fault.ExchangeFault.{ExchangeFault}
use Rattle.wire.specs.declared.exchange_fault.ExchangeFault.TheVariants.{Rig, Failed}
use Rattle.rom_search.specs.Triplets.{triplets_along}
use Rattle.rom_search.specs.declared.triplets.Pass.{Pass}

-- a pass along a path where nobody answered is garbled
abbrev pub pass_found : ℕ → Option Pass → Counting → Counting × Result Pass ExchangeFault
pass_found e None d = (d, Err (Failed Garbled e d.steps))
pass_found e (Some p) d = (d, Ok p)

abbrev pub pass_told : ℕ → ℕ → Counting → Counting × Result Pass ExchangeFault
pass_told w e d =
    onward keep (present e d) (λ _ d. onward Rig (does (sends (0xF0 ∷ [])) d) (λ _ d. onward Rig (does (triplets_along w) d) (λ o d. pass_found e o d)))

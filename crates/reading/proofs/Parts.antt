-- A reading from each of its exchanges on.
use Rattle.std.proofs.Common.{ℕ, Bool, true, false, List}
use Rattle.rig.specs.Rigs.{RigState}
use Rattle.wire.specs.Jobs.{Job, ret, run, Said, good, Report, refused_as, reported}
use Rattle.wire.specs.Exchanges.{Exchange, answer, refuse, pulses}
use Rattle.wire.specs.declared.exchange_fault.ExchangeError.TheVariants.{Garbled}
use Rattle.reading.specs.Readings.{all_ones, reads_memory, closes_by_reset, failed, reading}

abbrev pub closed : List ℕ → Job (Said (List ℕ))
closed row = pulses (closes_by_reset 3) (λ _. ret (good row)) failed

abbrev pub judged : Bool → Exchange (Unit {0})
judged t = elim t [ true ↦ refuse Garbled 1 | false ↦ answer tt ]

module _ (x row : ℕ) where
  abbrev pub found : Unit {0} → Job (Said (List ℕ))
  found _ = pulses (reads_memory 2 x row) closed failed

  abbrev pub asked : List ℕ → Job (Said (List ℕ))
  asked got = pulses (judged (all_ones got)) found failed

-- a call, by whether its row is one
abbrev pub call_at : ℕ → ℕ → RigState → Bool → RigState × Report (List ℕ)
call_at x row r t = elim t [ false ↦ (r, refused_as 4 0 0) | true ↦ reported (run 0 (reading x row) r) ]

-- The reading of a row.
use Rattle.std.specs.Prelude.{ℕ, ◌/◌, ◌%◌, Bool, true, false, cond, ◌&&◌, List, [], ◌∷◌, ◌==◌, slice_index}
use Rattle.kinds.specs.Kinds.{row_length}
use Rattle.rig.specs.Rigs.{RigState}
use Rattle.wire.specs.Jobs.{Job, ret, run, Said, good, bad, Report, refused_as, reported}
use Rattle.wire.specs.Exchanges.{Exchange, answer, refuse, opening, closing, send, read, pulses, error_code}
use Rattle.wire.specs.declared.exchange_fault.ExchangeError.{ExchangeError}
use Rattle.wire.specs.declared.exchange_fault.ExchangeError.TheVariants.{NoPresence, Garbled}

-- three times FFh
abbrev pub all_ones : List ℕ → Bool
all_ones got = slice_index got 0 == 0xFF && (slice_index got 1 == 0xFF && slice_index got 2 == 0xFF)

-- (1) AAh, read three bytes
abbrev pub probes_scratchpad : ℕ → Exchange (Unit {0})
probes_scratchpad x = opening x 1 (send (0xAA ∷ []) (read 3 (λ got. elim (all_ones got) [ true ↦ refuse Garbled 1 | false ↦ answer tt ])))

-- (2) F0h, address, read the row
abbrev pub reads_memory : ℕ → ℕ → ℕ → Exchange (List ℕ)
reads_memory e x row = opening x e (send (0xF0 ∷ row % 256 ∷ row / 256 ∷ []) (read row_length (λ found. answer found)))

-- (3) the closing reset
abbrev pub closes_by_reset : ℕ → Exchange (Unit {0})
closes_by_reset e = closing (λ present. cond present (answer tt) (refuse NoPresence e))

abbrev pub failed : {A : Type 0} → ExchangeError → ℕ → Job (Said A)
failed error e = ret (bad (error_code error) e)

abbrev pub reading : ℕ → ℕ → Job (Said (List ℕ))
reading x row = pulses (probes_scratchpad x) (λ _. pulses (reads_memory 2 x row) (λ found. pulses (closes_by_reset 3) (λ _. ret (good found)) failed) failed) failed

-- a row that is no multiple of the row length is refused with 4, before any step
abbrev pub read_call : ℕ → ℕ → RigState → RigState × Report (List ℕ)
read_call x row r = elim (row % row_length == 0) [ false ↦ (r, refused_as 4 0 0) | true ↦ reported (run 0 (reading x row) r) ]

-- The verified order of a row.
use Rattle.std.specs.Prelude.{ℕ, ◌%◌, Bool, true, false, List, Some, None, Option, ◌==◌}
use Rattle.kinds.specs.Kinds.{row_length}
use Rattle.rig.specs.Rigs.{RigState}
use Rattle.wire.specs.Jobs.{Job, ret, Got, done, line_busy, Ran, run}
use Rattle.wire.specs.Exchanges.{pulses, error_code}
use Rattle.wire.specs.declared.exchange_fault.ExchangeError.{ExchangeError}
use Rattle.reading.specs.Readings.{reads_memory, closes_by_reset}
use Rattle.order.specs.Differences.{first_difference}
use Rattle.order.specs.Writings.{writes_scratchpad, verifies_scratchpad, copies_scratchpad}

-- how an order ends
pub data Ending : Type 0 where
  held : Bool → Ending  -- programmed or not
  refusal : ℕ → ℕ → Ending  -- code, exchange
  refusal_at : ℕ → ℕ → ℕ → Ending  -- code, exchange, the first index that differs

abbrev pub failed : ExchangeError → ℕ → Job Ending
failed error e = ret (refusal (error_code error) e)

-- the row that was found is judged
abbrev pub judged : Bool → Option ℕ → Ending
judged programmed None = held programmed
judged programmed (Some i) = refusal_at 8 5 i

-- (4) F0h, address, read the row; (5) a closing reset; only then the judgement
abbrev pub finds_and_closes : ℕ → ℕ → List ℕ → Bool → Job Ending
finds_and_closes x row new programmed =
    pulses (reads_memory 4 x row) (λ found. pulses (closes_by_reset 5) (λ _. ret (judged programmed (first_difference new found))) failed) failed

-- no copy is sent where the scratchpad differs
abbrev pub copies_if : ℕ → ℕ → List ℕ → Option ℕ → Job Ending
copies_if x row new None = pulses (copies_scratchpad x row) (finds_and_closes x row new) failed
copies_if x row new (Some i) = ret (refusal_at 7 2 i)

-- (1) to (5)
abbrev pub ordering : ℕ → ℕ → List ℕ → Job Ending
ordering x row new =
    pulses (writes_scratchpad x row new) (λ _. pulses (verifies_scratchpad x row) (λ loaded. copies_if x row new (first_difference new loaded)) failed) failed

-- what the caller of an order is told, with the steps made; exchange 0 where the rig refused, and before any step
pub data Verdict : Type 0 where
  holds : Bool → ℕ → Verdict  -- programmed or not, steps
  refuses : ℕ → ℕ → ℕ → Verdict  -- code, exchange, steps
  refuses_at : ℕ → ℕ → ℕ → ℕ → Verdict  -- code, exchange, the first index that differs, steps

abbrev pub verdict_of : Got Ending → ℕ → Verdict
verdict_of (done (held programmed)) n = holds programmed n
verdict_of (done (refusal k e)) n = refuses k e n
verdict_of (done (refusal_at k e i)) n = refuses_at k e i n
verdict_of line_busy n = refuses 3 0 n

abbrev pub with_verdict : Ran Ending → RigState × Verdict
with_verdict w = (w.rig, verdict_of w.got w.steps)

-- a row that is no multiple of the row length is refused with 4, before any step
abbrev pub order_call : ℕ → ℕ → List ℕ → RigState → RigState × Verdict
order_call x row new r = elim (row % row_length == 0) [ false ↦ (r, refuses 4 0 0) | true ↦ with_verdict (run 0 (ordering x row new) r) ]

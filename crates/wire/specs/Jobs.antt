-- Jobs: pulses, each going on from the answer of the one before, run by one interpreter.
use Rattle.std.specs.Prelude.{ℕ, zero, suc, Bool, true, false, List, [], ◌∷◌}
use Rattle.base.specs.Bits.{value, bits_all}
use Rattle.rig.specs.Rigs.{RigState, Pulse, slot_pulse, pulse, refused, counted}

pub data Job (A : Type 0) : Type 0 where
  ret : A → Job A
  step : Pulse → (Bool → Job A) → Job A

-- what came of a job: its answer, or refusal 3
pub data Got (A : Type 0) : Type 0 where
  done : A → Got A
  line_busy : Got A

pub record Ran (A : Type 0) : Type 0 where
  pub rig : RigState
  pub steps : ℕ
  pub got : Got A

-- the steps are counted from n; a refused pulse is none, and one that became a cut is one
abbrev pub run : {A : Type 0} → ℕ → Job A → RigState → Ran A
run n (ret a) r = record { rig = r; steps = n; got = done a }
run n (step p k) r =
    elim (refused p r.line) [
      | true ↦ record { rig = r; steps = n; got = line_busy }
      | false ↦ let s = pulse p r in run (counted n) (k s.1) s.0
    ]

module _ {A : Type 0} where
  abbrev pub send_bits : List Bool → Job A → Job A
  send_bits [] k = k
  send_bits (b ∷ bs) k = step (slot_pulse b) (λ _. send_bits bs k)

  -- a bit is read by a slot with 1
  abbrev pub read_bits : ℕ → (List Bool → Job A) → Job A
  read_bits zero k = k []
  read_bits (suc n) k = step (slot_pulse true) (λ b. read_bits n (λ bs. k (b ∷ bs)))

  abbrev pub send_bytes : List ℕ → Job A → Job A
  send_bytes xs k = send_bits (bits_all xs) k

  abbrev pub read_bytes : ℕ → (List ℕ → Job A) → Job A
  read_bytes zero k = k []
  read_bytes (suc n) k = read_bits 8 (λ bs. read_bytes n (λ xs. k (value bs ∷ xs)))

-- what a job says in the end: its answer, or a refusal's code with the exchange (or pass) that met it
pub data Said (A : Type 0) : Type 0 where
  good : A → Said A
  bad : ℕ → ℕ → Said A

-- what its caller is told, with the steps made; exchange 0 where the rig refused, and before any step
pub data Report (A : Type 0) : Type 0 where
  answered : A → ℕ → Report A  -- steps
  refused_as : ℕ → ℕ → ℕ → Report A  -- code, exchange, steps

-- the steps that it is told
abbrev pub steps_in : {A : Type 0} → Report A → ℕ
steps_in (answered a n) = n
steps_in (refused_as k e n) = n

abbrev pub report_of : {A : Type 0} → Got (Said A) → ℕ → Report A
report_of (done (good a)) n = answered a n
report_of (done (bad k e)) n = refused_as k e n
report_of line_busy n = refused_as 3 0 n

abbrev pub reported : {A : Type 0} → Ran (Said A) → RigState × Report A
reported w = (w.rig, report_of w.got w.steps)

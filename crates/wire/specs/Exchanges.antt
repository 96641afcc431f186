-- Exchanges: resets, dwells, bytes sent and bytes read. An exchange is read twice, as the outcome that its code has
-- and as the pulses that it makes; they agree.
use Rattle.std.specs.Prelude.{◌≡◌, ℕ, Bool, true, false, cond, List, [], ◌∷◌, Ok, Err, Result, ◌==◌}
use Rattle.base.specs.RegistrationNumbers.{word_bytes}
use Rattle.rig.specs.Rigs.{reset_pulse, dwell_pulse, pulse, counted}
use Rattle.rig.specs.RigModel.{Counting, CountBegins, counted_pulse, refusal, steps_made}
use Rattle.rig.specs.declared.rig_fault.RigFault.TheVariants.{LineBusy}
use Rattle.wire.specs.Jobs.{Job, step, send_bytes, read_bytes, Report, refused_as}
use Rattle.wire.specs.Outcomes.{does, sends, reads, onward, keep}
use Rattle.base.specs.Refusals.{code_of}
use Rattle.wire.specs.declared.exchange_fault.Refused.{Refused}
use Rattle.wire.specs.declared.exchange_fault.ExchangeError.{ExchangeError}
use Rattle.wire.specs.declared.exchange_fault.ExchangeError.TheVariants.{NoPresence, Garbled}
use Rattle.wire.specs.declared.exchange_fault.ExchangeFault.{ExchangeFault}
use Rattle.wire.specs.declared.exchange_fault.ExchangeFault.TheVariants.{Rig, Failed}

-- the refusal's code
abbrev pub error_code : ExchangeError → ℕ
error_code NoPresence = 5
error_code Garbled = 6

-- an exchange's fault with its code, its exchange and its steps
abbrev pub fault_report : {A : Type 0} → ExchangeFault → Report A
fault_report (Rig f) = refused_as (refusal f) 0 (steps_made f)
fault_report (Failed error e s) = refused_as (error_code error) e s

-- what a refused job tells, with the code of its refusal
abbrev pub refused_report : {A : Type 0} → Refused → Report A
refused_report r = refused_as (code_of r.refusal) r.exchange r.steps

-- the steps that a fault carries are those that the rig has counted
abbrev pub Tallies : Counting → ExchangeFault → Type 0
Tallies d (Rig f) = steps_made f ≡ d.steps
Tallies d (Failed error e s) = s ≡ d.steps

-- what the rig has counted after a job with this fault: the steps that it carries; one refused before any step leaves the count
abbrev pub fault_count : ℕ → ExchangeFault → ℕ
fault_count n (Rig f) = cond (steps_made f == 0) n (steps_made f)
fault_count n (Failed error e s) = s

-- a job begins as its rig says, and a refusal is an exchange's fault
abbrev pub JobBegins : Counting → Counting → Result (Unit {0}) ExchangeFault → Type 0
JobBegins d d' (Ok u) = CountBegins d d' (Ok u)
JobBegins d d' (Err f) = CountBegins d d' (Err (LineBusy 0)) × (f ≡ Rig (LineBusy 0))

-- a reset that must find a chip, in an exchange of a job
abbrev pub present : ℕ → Counting → Counting × Result (Unit {0}) ExchangeFault
present e d = onward Rig (counted_pulse reset_pulse d) (λ present d. (d, cond present (Ok tt) (Err (Failed NoPresence e d.steps))))

-- reset with presence, 55h and the number
abbrev pub resets_and_matches : ℕ → ℕ → Counting → Counting × Result (Unit {0}) ExchangeFault
resets_and_matches x e d = onward keep (present e d) (λ _ d. onward Rig (does (sends (0x55 ∷ [])) d) (λ _ d. onward Rig (does (sends (word_bytes x)) d) (λ _ d. (d, Ok tt))))

pub data Exchange (A : Type 0) : Type 0 where
  answer : A → Exchange A
  refuse : ExchangeError → ℕ → Exchange A  -- what was found wrong, and the exchange's number in its job
  opening : ℕ → ℕ → Exchange A → Exchange A  -- reset, 55h and a registration number; the exchange's number
  closing : (Bool → Exchange A) → Exchange A  -- a reset
  dwelling : Exchange A → Exchange A  -- a dwell, which is never refused
  send : List ℕ → Exchange A → Exchange A
  read : ℕ → (List ℕ → Exchange A) → Exchange A

-- the outcome of an exchange
abbrev pub tells : {A : Type 0} → Exchange A → Counting → Counting × Result A ExchangeFault
tells (answer a) d = (d, Ok a)
tells (refuse error e) d = (d, Err (Failed error e d.steps))
tells (opening x e k) d = onward keep (resets_and_matches x e d) (λ _ d. tells k d)
tells (closing k) d = onward Rig (counted_pulse reset_pulse d) (λ b d. tells (k b) d)
tells (dwelling k) d = tells k (record { rig = (pulse dwell_pulse d.rig).0; steps = counted d.steps })
tells (send xs k) d = onward Rig (does (sends xs) d) (λ _ d. tells k d)
tells (read n k) d = onward Rig (does (reads n) d) (λ xs d. tells (k xs) d)

-- its pulses, and what comes after it
abbrev pub pulses : {A B : Type 0} → Exchange A → (A → Job B) → (ExchangeError → ℕ → Job B) → Job B
pulses (answer a) good bad = good a
pulses (refuse error e) good bad = bad error e
pulses (opening x e k) good bad =
    step reset_pulse (λ present. elim present [ true ↦ send_bytes (0x55 ∷ []) (send_bytes (word_bytes x) (pulses k good bad)) | false ↦ bad NoPresence e ])
pulses (closing k) good bad = step reset_pulse (λ b. pulses (k b) good bad)
pulses (dwelling k) good bad = step dwell_pulse (λ _. pulses k good bad)
pulses (send xs k) good bad = send_bytes xs (pulses k good bad)
pulses (read n k) good bad = read_bytes n (λ xs. pulses (k xs) good bad)

-- an exchange led from d to d' and answered r
pub record Told {A : Type 0} (j : Exchange A) (d d' : Counting) (r : Result A ExchangeFault) : Type 0 where
  pub so : (d', r) ≡ tells j d

-- What the answers of the code mean.
use Rattle.std.specs.Prelude.{◌≡◌, ℕ, List, Ok, Err, Result}
use Rattle.rig.specs.RigModel.{Counting}
use Rattle.rig.specs.declared.rig_fault.RigFault.TheVariants.{LineBusy}
use Rattle.wire.specs.Jobs.{Ran, done, line_busy, run, Said, good, bad, Report, answered, refused_as}
use Rattle.wire.specs.Exchanges.{error_code, fault_report, fault_count, Tallies}
use Rattle.wire.specs.declared.exchange_fault.ExchangeFault.TheVariants.{Rig, Failed}
use Rattle.reading.specs.Readings.{reading}
use Rattle.reading.specs.declared.read_fault.ReadFault.{ReadFault}
use Rattle.reading.specs.declared.read_fault.ReadFault.TheVariants.{BadRow, Exchange as InExchange}

-- what a reading's answer says, with the caller's row
abbrev pub read_report : Result ℕ ReadFault → List ℕ → Report (List ℕ)
read_report (Ok s) l = answered l s
read_report (Err BadRow) l = refused_as 4 0 0
read_report (Err (InExchange f)) l = fault_report f

-- how a run ends that has this outcome
abbrev pub read_end : Counting → Result (List ℕ × ℕ) ReadFault → Ran (Said (List ℕ))
read_end d (Ok a) = record { rig = d.rig; steps = a.1; got = done (good a.0) }
read_end d (Err BadRow) = record { rig = d.rig; steps = 0; got = done (bad 4 0) }
read_end d (Err (InExchange (Rig (LineBusy s)))) = record { rig = d.rig; steps = s; got = line_busy }
read_end d (Err (InExchange (Failed error e s))) = record { rig = d.rig; steps = s; got = done (bad (error_code error) e) }

abbrev pub RowAccepted : {A : Type 0} → Result A ReadFault → Type 0
RowAccepted (Ok a) = Unit {0}
RowAccepted (Err BadRow) = ⊥
RowAccepted (Err (InExchange e)) = Unit {0}

-- the steps that the exchanges answer are those that the rig has counted
abbrev pub Counts : Counting → Result (List ℕ × ℕ) ReadFault → Type 0
Counts d (Ok a) = a.1 ≡ d.steps
Counts d (Err BadRow) = Unit {0}
Counts d (Err (InExchange e)) = Tallies d e

-- what the rig has counted after a reading: the steps that it answers; one refused before any step leaves the count
abbrev pub read_count : ℕ → Result ℕ ReadFault → ℕ
read_count n (Ok s) = s
read_count n (Err BadRow) = n
read_count n (Err (InExchange f)) = fault_count n f

-- the exchanges of a reading led from d to d' and answered r
pub record Read (x row : ℕ) (d d' : Counting) (r : Result (List ℕ × ℕ) ReadFault) : Type 0 where
  pub so : read_end d' r ≡ run d.steps (reading x row) d.rig
  pub begun : RowAccepted r
  pub counts : Counts d' r

-- What the answers of the code mean.
use Rattle.std.specs.Prelude.{◌≡◌, ℕ, Bool, List, Some, None, Ok, Err, Option, Result}
use Rattle.base.specs.Refusals.{code_of}
use Rattle.rig.specs.RigModel.{Counting, steps_made, refusal as rig_refusal}
use Rattle.rig.specs.declared.rig_fault.RigFault.TheVariants.{LineBusy}
use Rattle.wire.specs.Jobs.{Ran, done, line_busy, run}
use Rattle.wire.specs.Exchanges.{pulses, error_code, fault_count, Tallies}
use Rattle.wire.specs.declared.exchange_fault.ExchangeFault.TheVariants.{Rig, Failed}
use Rattle.wire.specs.declared.exchange_fault.Refused.{Refused}
use Rattle.order.specs.Writings.{copies_scratchpad}
use Rattle.order.specs.Orders.{Ending, held, refusal, refusal_at, finds_and_closes, failed, ordering, Verdict, holds, refuses, refuses_at}
use Rattle.order.specs.declared.order_fault.OrderFault.{OrderFault}
use Rattle.order.specs.declared.order_fault.OrderFault.TheVariants.{BadRow, Exchange as InExchange, Differs, NotHeld}

-- what an order's answer says, case by case
abbrev pub order_verdict : Result (Bool × ℕ) OrderFault → Verdict
order_verdict (Ok a) = holds a.0 a.1
order_verdict (Err BadRow) = refuses 4 0 0
order_verdict (Err (InExchange (Rig f))) = refuses (rig_refusal f) 0 (steps_made f)
order_verdict (Err (InExchange (Failed error e s))) = refuses (error_code error) e s
order_verdict (Err (Differs i s)) = refuses_at 7 2 i s
order_verdict (Err (NotHeld i s)) = refuses_at 8 5 i s

-- what a fault gives
abbrev pub refused_by : Refused → Option ℕ → Verdict
refused_by r None = refuses (code_of r.refusal) r.exchange r.steps
refused_by r (Some i) = refuses_at (code_of r.refusal) r.exchange i r.steps

-- how a run ends that has this outcome
abbrev pub order_end : Counting → Result (Bool × ℕ) OrderFault → Ran Ending
order_end d (Ok a) = record { rig = d.rig; steps = a.1; got = done (held a.0) }
order_end d (Err BadRow) = record { rig = d.rig; steps = 0; got = done (refusal 4 0) }
order_end d (Err (InExchange (Rig (LineBusy s)))) = record { rig = d.rig; steps = s; got = line_busy }
order_end d (Err (InExchange (Failed error e s))) = record { rig = d.rig; steps = s; got = done (refusal (error_code error) e) }
order_end d (Err (Differs i s)) = record { rig = d.rig; steps = s; got = done (refusal_at 7 2 i) }
order_end d (Err (NotHeld i s)) = record { rig = d.rig; steps = s; got = done (refusal_at 8 5 i) }

-- what is answered once the row that was found is judged
abbrev pub judgement : Bool → Option ℕ → ℕ → Result (Bool × ℕ) OrderFault
judgement programmed None steps = Ok (programmed, steps)
judgement programmed (Some i) steps = Err (NotHeld i steps)

-- an answer other than that the address is no row
abbrev pub RowAccepted : Result (Bool × ℕ) OrderFault → Type 0
RowAccepted (Ok a) = Unit {0}
RowAccepted (Err BadRow) = ⊥
RowAccepted (Err (InExchange e)) = Unit {0}
RowAccepted (Err (Differs i s)) = Unit {0}
RowAccepted (Err (NotHeld i s)) = Unit {0}

-- the steps that the answer carries are those that the rig has counted
abbrev pub Counts : Counting → Result (Bool × ℕ) OrderFault → Type 0
Counts d (Ok a) = a.1 ≡ d.steps
Counts d (Err BadRow) = Unit {0}
Counts d (Err (InExchange e)) = Tallies d e
Counts d (Err (Differs i s)) = s ≡ d.steps
Counts d (Err (NotHeld i s)) = s ≡ d.steps

-- what the rig has counted after an order: the steps that it answers; one refused before any step leaves the count
abbrev pub order_count : ℕ → Result (Bool × ℕ) OrderFault → ℕ
order_count n (Ok a) = a.1
order_count n (Err BadRow) = n
order_count n (Err (InExchange f)) = fault_count n f
order_count n (Err (Differs i s)) = s
order_count n (Err (NotHeld i s)) = s

-- the last three exchanges of an order led from d to d' and answered r
pub record Concluded (x row : ℕ) (new : List ℕ) (d d' : Counting) (r : Result (Bool × ℕ) OrderFault) : Type 0 where
  pub so : order_end d' r ≡ run d.steps (pulses (copies_scratchpad x row) (finds_and_closes x row new) failed) d.rig
  pub taken : RowAccepted r
  pub counts : Counts d' r

-- all exchanges of an order did
pub record Ordered (x row : ℕ) (new : List ℕ) (d d' : Counting) (r : Result (Bool × ℕ) OrderFault) : Type 0 where
  pub so : order_end d' r ≡ run d.steps (ordering x row new) d.rig
  pub taken : RowAccepted r
  pub counts : Counts d' r

-- An order from each of its exchanges on.
use Rattle.std.proofs.Common.{ℕ, ◌/◌, ◌%◌, Bool, true, false, List, [], ◌∷◌, take, drop, Some, None, Option}
use Rattle.base.specs.Crc.{crc16, inverted}
use Rattle.rig.specs.Rigs.{RigState}
use Rattle.wire.specs.Jobs.{Job, ret, run}
use Rattle.wire.specs.Exchanges.{Exchange, answer, refuse, pulses}
use Rattle.wire.specs.declared.exchange_fault.ExchangeError.TheVariants.{Garbled}
use Rattle.reading.specs.Readings.{closes_by_reset}
use Rattle.order.specs.Differences.{first_difference}
use Rattle.order.specs.Writings.{verifies_scratchpad, whole_status}
use Rattle.order.specs.Orders.{Ending, failed, judged, copies_if, ordering, Verdict, refuses, with_verdict}

-- what is said of the sum after 0Fh, and of address and status, sum and scratchpad after AAh
abbrev pub judged1 : Option ℕ → Exchange (Unit {0})
judged1 o = elim o [ None ↦ answer tt | Some i ↦ refuse Garbled 1 ]

abbrev pub judged2 : Option ℕ → Option ℕ → List ℕ → Exchange (List ℕ)
judged2 a b d = elim a [ Some i ↦ refuse Garbled 2 | None ↦ elim b [ Some i ↦ refuse Garbled 2 | None ↦ answer d ] ]

module _ (row : ℕ) (l : List ℕ) where
  -- address and status, and the sum, of what AAh was answered
  abbrev pub target : Option ℕ
  target = first_difference (take 3 l) (row % 256 ∷ row / 256 ∷ whole_status ∷ [])

  abbrev pub summed_bytes : Option ℕ
  summed_bytes = first_difference (take 2 (drop 11 l)) (inverted (crc16 (crc16 0 (0xAA ∷ [])) (take 11 l)))

-- the sum of what 0Fh sends
abbrev pub sent_sum : ℕ → List ℕ → ℕ
sent_sum row new = crc16 (crc16 0 (0x0F ∷ row % 256 ∷ row / 256 ∷ [])) new

module _ (new : List ℕ) where
  abbrev pub ends : Bool → List ℕ → Unit {0} → Job Ending
  ends programmed found _ = ret (judged programmed (first_difference new found))

  abbrev pub closing : Bool → List ℕ → Job Ending
  closing programmed found = pulses (closes_by_reset 5) (ends programmed found) failed

module _ (x row : ℕ) (new : List ℕ) where
  abbrev pub copying : List ℕ → Job Ending
  copying loaded = copies_if x row new (first_difference new loaded)

  abbrev pub told : List ℕ → Job Ending
  told l = pulses (judged2 (target row l) (summed_bytes row l) (take 8 (drop 3 l))) copying failed

  abbrev pub checking : Unit {0} → Job Ending
  checking _ = pulses (verifies_scratchpad x row) copying failed

  abbrev pub next : List ℕ → Job Ending
  next l = pulses (judged1 (first_difference l (inverted (sent_sum row new)))) checking failed

-- a call, by whether its row is one
abbrev pub call_at : ℕ → ℕ → List ℕ → RigState → Bool → RigState × Verdict
call_at x row new r t = elim t [ false ↦ (r, refuses 4 0 0) | true ↦ with_verdict (run 0 (ordering x row new) r) ]

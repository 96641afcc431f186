-- The exits of an order, exchange by exchange.
use Rattle.std.proofs.Common.{◌≡◌, ℕ, ◌%◌, Bool, true, false, List, Some, None, Ok, Err, Option, Result, sym, refl, ap, ◌∙◌, subst, eq-eqb, ne_eqb}
use Rattle.line.specs.Lines.{any_busy}
use Rattle.rig.specs.Rigs.{RigState}
use Rattle.rig.specs.RigModel.{Counting}
use Rattle.rig.specs.declared.rig_fault.RigFault.TheVariants.{LineBusy}
use Rattle.wire.specs.Jobs.{Job, ret, run}
use Rattle.wire.specs.Exchanges.{Exchange, pulses, Told}
use Rattle.wire.specs.declared.exchange_fault.ExchangeFault.{ExchangeFault}
use Rattle.wire.specs.declared.exchange_fault.ExchangeFault.TheVariants.{Rig, Failed}
use Rattle.wire.proofs.Follows.{follow, told_run}
use Rattle.wire.proofs.Tallies.{told_tallies}
use Rattle.wire.proofs.Power.{first_refused}
use Rattle.wire.proofs.Calm.{Ended, unrefused_run}
use Rattle.reading.specs.Readings.{reads_memory, closes_by_reset}
use Rattle.order.specs.declared.order_fault.OrderFault.{OrderFault}
use Rattle.order.specs.declared.order_fault.OrderFault.TheVariants.{BadRow, Exchange as InExchange, Differs, NotHeld}
use Rattle.order.specs.Differences.{first_difference}
use Rattle.order.specs.Writings.{writes_scratchpad, verifies_scratchpad, copies_scratchpad}
use Rattle.order.specs.Orders.{Ending, failed, judged, finds_and_closes, copies_if, ordering, with_verdict, order_call}
use Rattle.order.proofs.Parts.{ends, closing, copying, checking, call_at}
use Rattle.order.specs.OrderOutcomes.{order_end, order_verdict, order_count, judgement, RowAccepted, Counts, Concluded, Ordered}
use Rattle.order.proofs.Quiet.{unrefused}

-- an exchange that failed ends the order, and one that was answered goes on
fails : {A : Type 0} (k : A → Job Ending) {j : Exchange A} {d d' : Counting} {e : ExchangeFault} → Told j d d' (Err e) → run d.steps (pulses j k failed) d.rig ≡ order_end d' (Err (InExchange e))
fails k {j} {d} {d'} {e} t = told_run k failed t ∙ exits e
  where
    exits : (e : ExchangeFault) → follow k failed d' (Err e) ≡ order_end d' (Err (InExchange e))
    exits (Rig (LineBusy s)) = refl
    exits (Failed error n s) = refl

goes : {A : Type 0} (k : A → Job Ending) {j : Exchange A} {d d' : Counting} {a : A} → Told j d d' (Ok a) → run d.steps (pulses j k failed) d.rig ≡ run d'.steps (k a) d'.rig
goes k t = told_run k failed t

module _ (x row : ℕ) (new : List ℕ) where
  module _ {d2 d3 : Counting} where
    pub end3 : {e : ExchangeFault} → Told (copies_scratchpad x row) d2 d3 (Err e) → Concluded x row new d2 d3 (Err (InExchange e))
    end3 t = record { so = sym (fails (finds_and_closes x row new) t); taken = tt; counts = told_tallies t }

    module _ {d4 : Counting} {programmed : Bool} (t3 : Told (copies_scratchpad x row) d2 d3 (Ok programmed)) where
      pub end4 : {e : ExchangeFault} → Told (reads_memory 4 x row) d3 d4 (Err e) → Concluded x row new d2 d4 (Err (InExchange e))
      end4 t = record { so = sym (goes (finds_and_closes x row new) t3 ∙ fails (closing new programmed) t); taken = tt; counts = told_tallies t }

      module _ {d5 : Counting} {found : List ℕ} (t4 : Told (reads_memory 4 x row) d3 d4 (Ok found)) where
        pub end5 : {e : ExchangeFault} → Told (closes_by_reset 5) d4 d5 (Err e) → Concluded x row new d2 d5 (Err (InExchange e))
        end5 t = record { so = sym (goes (finds_and_closes x row new) t3 ∙ goes (closing new programmed) t4 ∙ fails (ends new programmed found) t); taken = tt; counts = told_tallies t }

        pub ended : {r : Result (Bool × ℕ) OrderFault} → r ≡ judgement programmed (first_difference new found) d5.steps → Told (closes_by_reset 5) d4 d5 (Ok tt) → Concluded x row new d2 d5 r
        ended {r} h t = record {
          so =
              ap (order_end d5) h ∙ said (first_difference new found)
              ∙ sym (goes (finds_and_closes x row new) t3 ∙ goes (closing new programmed) t4 ∙ goes (ends new programmed found) t);
          taken = subst RowAccepted (sym h) (began (first_difference new found));
          counts = subst (Counts d5) (sym h) (counted (first_difference new found));
        }
          where
            said : (o : Option ℕ) → order_end d5 (judgement programmed o d5.steps) ≡ run d5.steps (ret (judged programmed o)) d5.rig
            said None = refl
            said (Some i) = refl

            began : (o : Option ℕ) → RowAccepted (judgement programmed o d5.steps)
            began None = tt
            began (Some i) = tt

            counted : (o : Option ℕ) → Counts d5 (judgement programmed o d5.steps)
            counted None = refl
            counted (Some i) = refl

  module _ {d0 d1 : Counting} where
    pub end1 : {e : ExchangeFault} → Told (writes_scratchpad x row new) d0 d1 (Err e) → Ordered x row new d0 d1 (Err (InExchange e))
    end1 t = record { so = sym (fails (checking x row new) t); taken = tt; counts = told_tallies t }

    module _ {d2 : Counting} (t1 : Told (writes_scratchpad x row new) d0 d1 (Ok tt)) where
      pub end2 : {e : ExchangeFault} → Told (verifies_scratchpad x row) d1 d2 (Err e) → Ordered x row new d0 d2 (Err (InExchange e))
      end2 t = record { so = sym (goes (checking x row new) t1 ∙ fails (copying x row new) t); taken = tt; counts = told_tallies t }

      module _ {loaded : List ℕ} (t2 : Told (verifies_scratchpad x row) d1 d2 (Ok loaded)) where
        pub differing : (i : ℕ) → Some i ≡ first_difference new loaded → Ordered x row new d0 d2 (Err (Differs i d2.steps))
        differing i h = record { so = ap (λ o. run d2.steps (copies_if x row new o) d2.rig) h ∙ sym (goes (checking x row new) t1 ∙ goes (copying x row new) t2); taken = tt; counts = refl }

        pub going : {d5 : Counting} {r : Result (Bool × ℕ) OrderFault} → None ≡ first_difference new loaded → Concluded x row new d2 d5 r → Ordered x row new d0 d5 r
        going h o =
            record { so = o.so ∙ ap (λ o. run d2.steps (copies_if x row new o) d2.rig) h ∙ sym (goes (checking x row new) t1 ∙ goes (copying x row new) t2); taken = o.taken; counts = o.counts }

  pub row_refused : (r : RigState) → (row % 8 ≡ 0 → ⊥) → (r, order_verdict (Err BadRow)) ≡ order_call x row new r
  row_refused r n = sym (ap (λ t. call_at x row new r t) (ne_eqb (row % 8) 0 n))

  -- what a run's end tells the caller
  told_end : (d : Counting) (r : Result (Bool × ℕ) OrderFault) → RowAccepted r → (d.rig, order_verdict r) ≡ with_verdict (order_end d r)
  told_end d (Ok a) b = refl
  told_end d (Err BadRow) b = absurd b
  told_end d (Err (InExchange (Rig (LineBusy s)))) b = refl
  told_end d (Err (InExchange (Failed error e s))) b = refl
  told_end d (Err (Differs i s)) b = refl
  told_end d (Err (NotHeld i s)) b = refl

  pub order_called : {d d' : Counting} {r : Result (Bool × ℕ) OrderFault} → row % 8 ≡ 0 → d.steps ≡ 0 → Ordered x row new d d' r → (d'.rig, order_verdict r) ≡ order_call x row new d.rig
  order_called {d} {d'} {r} e z o =
      told_end d' r o.taken
      ∙ ap with_verdict (o.so ∙ ap (λ n. run n (ordering x row new) d.rig) z)
      ∙ sym (ap (λ t. call_at x row new d.rig t) (eq-eqb (row % 8) 0 e))

  -- a line that is busy refuses it at once
  pub order_busy : (r : RigState) → row % 8 ≡ 0 → any_busy r.line ≡ true → (r, order_verdict (Err (InExchange (Rig (LineBusy 0))))) ≡ order_call x row new r
  order_busy r e b = sym (ap (λ t. call_at x row new r t) (eq-eqb (row % 8) 0 e) ∙ ap with_verdict (first_refused 0 (ordering x row new) r tt b))

  -- what the rig has counted then; on a line that was not busy no exchange is refused by the rig
  pub order_counted : {d d' : Counting} (r : Result (Bool × ℕ) OrderFault) (n : ℕ) → row % 8 ≡ 0 → any_busy d.rig.line ≡ false → Ordered x row new d d' r → d'.steps ≡ order_count n r
  order_counted (Ok a) n al b o = sym o.counts
  order_counted (Err BadRow) n al b o = absurd o.taken
  order_counted {d} (Err (InExchange (Rig (LineBusy s)))) n al b o =
      absurd (subst Ended (sym (ap (λ w. w.got) o.so)) (unrefused_run d.steps (ordering x row new) d.rig.line d.rig.fuse (unrefused x row new al d.rig.line b)))
  order_counted (Err (InExchange (Failed error e s))) n al b o = sym o.counts
  order_counted (Err (Differs i s)) n al b o = sym o.counts
  order_counted (Err (NotHeld i s)) n al b o = sym o.counts

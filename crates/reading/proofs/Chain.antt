-- The exits of a reading.
use Rattle.std.proofs.Common.{◌≡◌, ℕ, ◌%◌, true, false, List, Ok, Err, Result, sym, refl, ap, ◌∙◌, subst, eq-eqb, ne_eqb}
use Rattle.line.specs.Lines.{any_busy}
use Rattle.rig.specs.Rigs.{RigState}
use Rattle.rig.specs.RigModel.{Counting}
use Rattle.rig.specs.declared.rig_fault.RigFault.TheVariants.{LineBusy}
use Rattle.wire.specs.Jobs.{Job, ret, run, Said, good, reported}
use Rattle.wire.specs.Exchanges.{Exchange, pulses, Told}
use Rattle.wire.specs.declared.exchange_fault.ExchangeFault.{ExchangeFault}
use Rattle.wire.specs.declared.exchange_fault.ExchangeFault.TheVariants.{Rig, Failed}
use Rattle.wire.proofs.Follows.{follow, told_run}
use Rattle.wire.proofs.Tallies.{told_tallies}
use Rattle.wire.proofs.Power.{first_refused}
use Rattle.wire.proofs.Calm.{Ended, unrefused_run}
use Rattle.reading.proofs.Parts.{call_at}
use Rattle.reading.proofs.Quiet.{unrefused}
use Rattle.reading.specs.declared.read_fault.ReadFault.{ReadFault}
use Rattle.reading.specs.declared.read_fault.ReadFault.TheVariants.{BadRow, Exchange as InExchange}
use Rattle.reading.specs.Readings.{probes_scratchpad, reads_memory, closes_by_reset, failed, reading, read_call}
use Rattle.reading.specs.ReadOutcomes.{read_end, read_report, read_count, Read}

fails : {A : Type 0} (k : A → Job (Said (List ℕ))) {j : Exchange A} {d d' : Counting} {e : ExchangeFault} → Told j d d' (Err e) → run d.steps (pulses j k failed) d.rig ≡ read_end d' (Err (InExchange e))
fails k {j} {d} {d'} {e} t = told_run k failed t ∙ exits e
  where
    exits : (e : ExchangeFault) → follow k failed d' (Err e) ≡ read_end d' (Err (InExchange e))
    exits (Rig (LineBusy s)) = refl
    exits (Failed error n s) = refl

goes : {A : Type 0} (k : A → Job (Said (List ℕ))) {j : Exchange A} {d d' : Counting} {a : A} → Told j d d' (Ok a) → run d.steps (pulses j k failed) d.rig ≡ run d'.steps (k a) d'.rig
goes k t = told_run k failed t

module _ (x row : ℕ) where
  abbrev from4 : List ℕ → Unit {0} → Job (Said (List ℕ))
  from4 found _ = ret (good found)

  abbrev from3 : List ℕ → Job (Said (List ℕ))
  from3 found = pulses (closes_by_reset 3) (from4 found) failed

  abbrev from2 : Unit {0} → Job (Said (List ℕ))
  from2 _ = pulses (reads_memory 2 x row) from3 failed

  module _ {d0 d1 : Counting} where
    pub end1 : {e : ExchangeFault} → Told (probes_scratchpad x) d0 d1 (Err e) → Read x row d0 d1 (Err (InExchange e))
    end1 t = record { so = sym (fails from2 t); begun = tt; counts = told_tallies t }

    module _ {d2 : Counting} (t1 : Told (probes_scratchpad x) d0 d1 (Ok tt)) where
      pub end2 : {e : ExchangeFault} → Told (reads_memory 2 x row) d1 d2 (Err e) → Read x row d0 d2 (Err (InExchange e))
      end2 t = record { so = sym (goes from2 t1 ∙ fails from3 t); begun = tt; counts = told_tallies t }

      module _ {d3 : Counting} {found : List ℕ} (t2 : Told (reads_memory 2 x row) d1 d2 (Ok found)) where
        pub end3 : {e : ExchangeFault} → Told (closes_by_reset 3) d2 d3 (Err e) → Read x row d0 d3 (Err (InExchange e))
        end3 t = record { so = sym (goes from2 t1 ∙ goes from3 t2 ∙ fails (from4 found) t); begun = tt; counts = told_tallies t }

        pub ended : Told (closes_by_reset 3) d2 d3 (Ok tt) → Read x row d0 d3 (Ok (found, d3.steps))
        ended t = record { so = sym (goes from2 t1 ∙ goes from3 t2 ∙ goes (from4 found) t); begun = tt; counts = refl }

  pub row_refused : (r : RigState) (l : List ℕ) → (row % 8 ≡ 0 → ⊥) → (r, read_report (Err BadRow) l) ≡ read_call x row r
  row_refused r l n = sym (ap (λ t. call_at x row r t) (ne_eqb (row % 8) 0 n))

  called : {d d' : Counting} {r : Result (List ℕ × ℕ) ReadFault} → row % 8 ≡ 0 → d.steps ≡ 0 → Read x row d d' r → reported (read_end d' r) ≡ read_call x row d.rig
  called {d} e z o =
      ap reported (o.so ∙ ap (λ n. run n (reading x row) d.rig) z)
      ∙ sym (ap (λ t. call_at x row d.rig t) (eq-eqb (row % 8) 0 e))

  pub read_ok : {d d' : Counting} {found : List ℕ} {s : ℕ} → row % 8 ≡ 0 → d.steps ≡ 0 → Read x row d d' (Ok (found, s)) → (d'.rig, read_report (Ok s) found) ≡ read_call x row d.rig
  read_ok e z o = called e z o

  pub read_err : {d d' : Counting} (f : ReadFault) (l : List ℕ) → row % 8 ≡ 0 → d.steps ≡ 0 → Read x row d d' (Err f) → (d'.rig, read_report (Err f) l) ≡ read_call x row d.rig
  read_err BadRow l e z o = absurd o.begun
  read_err (InExchange (Rig (LineBusy s))) l e z o = called e z o
  read_err (InExchange (Failed error n s)) l e z o = called e z o

  -- a line that is busy refuses it at once
  pub read_busy : (r : RigState) (l : List ℕ) → row % 8 ≡ 0 → any_busy r.line ≡ true → (r, read_report (Err (InExchange (Rig (LineBusy 0)))) l) ≡ read_call x row r
  read_busy r l e b = sym (ap (λ t. call_at x row r t) (eq-eqb (row % 8) 0 e) ∙ ap reported (first_refused 0 (reading x row) r tt b))

  -- what the rig has counted then; on a line that was not busy no exchange is refused by the rig
  pub count_err : {d d' : Counting} (f : ReadFault) (n : ℕ) → any_busy d.rig.line ≡ false → Read x row d d' (Err f) → d'.steps ≡ read_count n (Err f)
  count_err BadRow n b o = absurd o.begun
  count_err {d} (InExchange (Rig (LineBusy s))) n b o = absurd (subst Ended (sym (ap (λ w. w.got) o.so)) (unrefused_run d.steps (reading x row) d.rig.line d.rig.fuse (unrefused x row d.rig.line b)))
  count_err (InExchange (Failed error e s)) n b o = sym o.counts

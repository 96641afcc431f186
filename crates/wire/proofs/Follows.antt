-- An exchange's outcome is the run of its pulses.
use Rattle.std.proofs.Common.{◌≡◌, ℕ, zero, suc, Bool, true, false, cond, List, [], ◌∷◌, Ok, Err, Result, sym, refl, ap, ◌∙◌}
use Rattle.base.specs.Bits.{bits_all, value}
use Rattle.base.specs.RegistrationNumbers.{word_bytes}
use Rattle.rig.specs.Rigs.{RigState, Pulse, reset_pulse, slot_pulse, dwell_pulse, pulse, refused, counted}
use Rattle.wire.specs.Jobs.{Job, ret, step, Ran, Got, done, line_busy, run, send_bytes, read_bytes}
use Rattle.wire.proofs.Steps.{under}
use Rattle.wire.proofs.Bind.{bind, run_bind, send_bind, onward as after}
use Rattle.rig.specs.RigModel.{Counting, counted_pulse}
use Rattle.rig.specs.declared.rig_fault.RigFault.{RigFault}
use Rattle.rig.specs.declared.rig_fault.RigFault.TheVariants.{LineBusy}
use Rattle.wire.specs.Outcomes.{outcome, does, onward, onwards, keep, sends, reads}
use Rattle.wire.specs.declared.exchange_fault.ExchangeError.{ExchangeError}
use Rattle.wire.specs.declared.exchange_fault.ExchangeError.TheVariants.{NoPresence}
use Rattle.wire.specs.declared.exchange_fault.ExchangeFault.{ExchangeFault}
use Rattle.wire.specs.declared.exchange_fault.ExchangeFault.TheVariants.{Rig, Failed}
use Rattle.wire.specs.Exchanges.{Exchange, answer, refuse, opening, closing, dwelling, send, read, tells, pulses, Told}

bytes_bind : {A : Type 0} (n : ℕ) (f : List ℕ → List ℕ) (k : List ℕ → Job A) → read_bytes n (λ xs. k (f xs)) ≡ bind (read_bytes n (λ xs. ret (f xs))) k
bytes_bind zero f k = refl
bytes_bind (suc n) f k =
    under (slot_pulse true) _ _ (λ a. under (slot_pulse true) _ _ (λ b. under (slot_pulse true) _ _ (λ c. under (slot_pulse true) _ _ (λ d.
    under (slot_pulse true) _ _ (λ e. under (slot_pulse true) _ _ (λ g. under (slot_pulse true) _ _ (λ h. under (slot_pulse true) _ _ (λ i.
    bytes_bind n (λ xs. f (value (a ∷ b ∷ c ∷ d ∷ e ∷ g ∷ h ∷ i ∷ []) ∷ xs)) k))))))))

-- what comes after an outcome
abbrev pub past : {A B : Type 0} → Counting → Result A RigFault → (A → Counting → Ran B) → Ran B
past d (Ok a) rest = rest a d
past d (Err (LineBusy s)) rest = record { rig = d.rig; steps = s; got = line_busy }

abbrev pub follow : {A B : Type 0} → (A → Job B) → (ExchangeError → ℕ → Job B) → Counting → Result A ExchangeFault → Ran B
follow good bad d (Ok a) = run d.steps (good a) d.rig
follow good bad d (Err (Rig (LineBusy s))) = record { rig = d.rig; steps = s; got = line_busy }
follow good bad d (Err (Failed error e s)) = run s (bad error e) d.rig

pub run_step : {B : Type 0} (p : Pulse) (k : Bool → Job B) (d : Counting) → run d.steps (step p k) d.rig ≡ past (counted_pulse p d).0 (counted_pulse p d).1 (λ b e. run e.steps (k b) e.rig)
run_step {B} p k d =
    elim (refused p d.rig.line) as (λ t.
    (elim t as (λ _. Ran B) [ true ↦ record { rig = d.rig; steps = d.steps; got = line_busy } | false ↦ run (counted d.steps) (k (pulse p d.rig).1) (pulse p d.rig).0 ])
    ≡ past (beaten t).0 (beaten t).1 (λ b e. run e.steps (k b) e.rig))
    [ true ↦ refl | false ↦ refl ]
  where
    beaten : Bool → Counting × Result Bool RigFault
    beaten t = elim t [ true ↦ (d, Err (LineBusy d.steps)) | false ↦ (record { rig = (pulse p d.rig).0; steps = counted d.steps }, Ok (pulse p d.rig).1) ]

pub run_part : {A B : Type 0} (p : Job A) (f : A → Job B) (d : Counting) → run d.steps (bind p f) d.rig ≡ past (does p d).0 (does p d).1 (λ a e. run e.steps (f a) e.rig)
unfolding does
run_part {A} {B} p f d = run_bind d.steps p f d.rig ∙ go (run d.steps p d.rig).rig (run d.steps p d.rig).steps (run d.steps p d.rig).got
  where
    go : (r : RigState) (n : ℕ) (g : Got A) → after f r n g ≡ past (outcome (record { rig = r; steps = n; got = g })).0 (outcome (record { rig = r; steps = n; got = g })).1 (λ a e. run e.steps (f a) e.rig)
    go r n (done a) = refl
    go r n line_busy = refl

pub run-send : {B : Type 0} (xs : List ℕ) (k : Job B) (d : Counting) → run d.steps (send_bytes xs k) d.rig ≡ past (does (sends xs) d).0 (does (sends xs) d).1 (λ _ e. run e.steps k e.rig)
unfolding sends
run-send xs k d = ap (λ p. run d.steps p d.rig) (send_bind (bits_all xs) k) ∙ run_part (sends xs) (λ _. k) d

run-read : {B : Type 0} (n : ℕ) (k : List ℕ → Job B) (d : Counting) → run d.steps (read_bytes n k) d.rig ≡ past (does (reads n) d).0 (does (reads n) d).1 (λ xs e. run e.steps (k xs) e.rig)
unfolding reads
run-read n k d = ap (λ p. run d.steps p d.rig) (bytes_bind n (λ xs. xs) k) ∙ run_part (reads n) k d

abbrev fine : Counting → Counting × Result (Unit {0}) ExchangeFault
fine e = (e, Ok tt)

module _ {A B : Type 0} (good : A → Job B) (bad : ExchangeError → ℕ → Job B) where
  -- the rest after a part that the rig may refuse
  abbrev ends : Counting × Result A ExchangeFault → Ran B
  ends s = follow good bad s.0 s.1

  past_on : {C : Type 0} (d : Counting) (r : Result C RigFault) (f : C → Counting → Ran B) (rest : C → Counting → Counting × Result A ExchangeFault)
      → ((c : C) (e : Counting) → f c e ≡ ends (rest c e)) → past d r f ≡ ends (onwards Rig d r rest)
  past_on d (Ok c) f rest h = h c d
  past_on d (Err (LineBusy s)) f rest h = refl

  keep-on : (d : Counting) (r : Result (Unit {0}) RigFault) (rest : Counting → Counting × Result A ExchangeFault)
      → onwards Rig d r (λ _ e. rest e) ≡ onward keep (onwards Rig d r (λ _ e. fine e)) (λ _ e. rest e)
  keep-on d (Ok t) rest = refl
  keep-on d (Err x) rest = refl

  pub run_exchange : (j : Exchange A) (d : Counting) → run d.steps (pulses j good bad) d.rig ≡ ends (tells j d)
  run_exchange (answer a) d = refl
  run_exchange (refuse error e) d = refl
  run_exchange (closing k) d =
      run_step reset_pulse (λ b. pulses (k b) good bad) d
      ∙ past_on (counted_pulse reset_pulse d).0 (counted_pulse reset_pulse d).1 (λ b e. run e.steps (pulses (k b) good bad) e.rig) (λ b e. tells (k b) e) (λ b e. run_exchange (k b) e)
  run_exchange (dwelling k) d = run_exchange k (record { rig = (pulse dwell_pulse d.rig).0; steps = counted d.steps })
  run_exchange (send xs k) d =
      run-send xs (pulses k good bad) d
      ∙ past_on (does (sends xs) d).0 (does (sends xs) d).1 (λ _ e. run e.steps (pulses k good bad) e.rig) (λ _ e. tells k e) (λ _ e. run_exchange k e)
  run_exchange (read n k) d =
      run-read n (λ xs. pulses (k xs) good bad) d
      ∙ past_on (does (reads n) d).0 (does (reads n) d).1 (λ xs e. run e.steps (pulses (k xs) good bad) e.rig) (λ xs e. tells (k xs) e) (λ xs e. run_exchange (k xs) e)
  run_exchange (opening x e k) d =
      run_step reset_pulse opened d
      ∙ past_on (counted_pulse reset_pulse d).0 (counted_pulse reset_pulse d).1 (λ b s. run s.steps (opened b) s.rig) (λ b s. onward keep (begun b s) (λ _ s. tells k s)) (each (λ s. run_exchange k s))
      ∙ ap ends (through (counted_pulse reset_pulse d).0 (counted_pulse reset_pulse d).1)
    where
      opened : Bool → Job B
      opened b = elim b [ true ↦ send_bytes (0x55 ∷ []) (send_bytes (word_bytes x) (pulses k good bad)) | false ↦ bad NoPresence e ]

      named : Counting → Counting × Result (Unit {0}) ExchangeFault
      named s = onward Rig (does (sends (0x55 ∷ [])) s) (λ _ s. onward Rig (does (sends (word_bytes x)) s) (λ _ s. fine s))

      begun : Bool → Counting → Counting × Result (Unit {0}) ExchangeFault
      begun b s = onward keep (s, cond b (Ok (tt {0})) (Err (Failed NoPresence e s.steps))) (λ _ s. named s)

      through : (s : Counting) (r : Result Bool RigFault)
          → onwards Rig s r (λ b s. onward keep (begun b s) (λ _ s. tells k s))
          ≡ onward keep (onward keep (onwards Rig s r (λ b s. (s, cond b (Ok (tt {0})) (Err (Failed NoPresence e s.steps))))) (λ _ s. named s)) (λ _ s. tells k s)
      through s (Ok b) = refl
      through s (Err y) = refl

      second : ((s : Counting) → run s.steps (pulses k good bad) s.rig ≡ ends (tells k s)) → (s : Counting) → run s.steps (send_bytes (word_bytes x) (pulses k good bad)) s.rig ≡ ends (onward keep (onward Rig (does (sends (word_bytes x)) s) (λ _ s. fine s)) (λ _ s. tells k s))
      second ih s =
          run-send (word_bytes x) (pulses k good bad) s
          ∙ past_on (does (sends (word_bytes x)) s).0 (does (sends (word_bytes x)) s).1 (λ _ e. run e.steps (pulses k good bad) e.rig) (λ _ e. tells k e) (λ _ e. ih e)
          ∙ ap ends (keep-on (does (sends (word_bytes x)) s).0 (does (sends (word_bytes x)) s).1 (tells k))

      deep : (s : Counting) (r : Result (Unit {0}) RigFault) (f : Counting → Counting × Result (Unit {0}) ExchangeFault)
          → onwards Rig s r (λ _ s. onward keep (f s) (λ _ s. tells k s)) ≡ onward keep (onwards Rig s r (λ _ s. f s)) (λ _ s. tells k s)
      deep s (Ok t) f = refl
      deep s (Err y) f = refl

      each : ((s : Counting) → run s.steps (pulses k good bad) s.rig ≡ ends (tells k s)) → (b : Bool) (s : Counting) → run s.steps (opened b) s.rig ≡ ends (onward keep (begun b s) (λ _ s. tells k s))
      each ih true s =
          run-send (0x55 ∷ []) (send_bytes (word_bytes x) (pulses k good bad)) s
          ∙ past_on (does (sends (0x55 ∷ [])) s).0 (does (sends (0x55 ∷ [])) s).1 (λ _ e. run e.steps (send_bytes (word_bytes x) (pulses k good bad)) e.rig)
          (λ _ s. onward keep (onward Rig (does (sends (word_bytes x)) s) (λ _ s. fine s)) (λ _ s. tells k s)) (λ _ s. second ih s)
          ∙ ap ends (deep (does (sends (0x55 ∷ [])) s).0 (does (sends (0x55 ∷ [])) s).1 (λ s. onward Rig (does (sends (word_bytes x)) s) (λ _ s. fine s)))
      each ih false s = refl

  pub told_run : {j : Exchange A} {d d' : Counting} {r : Result A ExchangeFault} → Told j d d' r → run d.steps (pulses j good bad) d.rig ≡ follow good bad d' r
  told_run {j} {d} t = run_exchange j d ∙ ap ends (sym t.so)

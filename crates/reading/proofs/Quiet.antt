-- A reading is refused with 3 at its first pulse or never, and changes no byte.
use Rattle.std.proofs.Common.{◌≡◌, ℕ, ◌/◌, ◌%◌, Bool, true, false, cond, eqb, List, [], ◌∷◌, map, sym, refl, ap, ◌∙◌, subst, arith}
use Rattle.base.specs.Bits.{bits_of, bits_all}
use Rattle.memory.proofs.Calm.{read_harmless, report_harmless}
use Rattle.chip.specs.ChipStates.{ChipState, bytes_of, reset_chip, takes}
use Rattle.base.proofs.Choice.{pick}
use Rattle.line.specs.Lines.{presence, any_busy}
use Rattle.rig.specs.Rigs.{RigState}
use Rattle.wire.specs.Jobs.{Job, ret, Got, done, line_busy, run, Said, good, bad, Report, refused_as, report_of, send_bits, send_bytes, read_bytes}
use Rattle.wire.specs.Exchanges.{answer, refuse, pulses}
use Rattle.wire.specs.declared.exchange_fault.ExchangeError.{ExchangeError}
use Rattle.wire.specs.declared.exchange_fault.ExchangeError.TheVariants.{NoPresence, Garbled}
use Rattle.wire.proofs.Leading.{send-append}
use Rattle.wire.proofs.Calm.{NotThree, Still, Leaves, GotAll, leaves, leaves_run, NoDwell, no_dwell, bytes_run, Unrefused, Anyhow, Free, Freed, freed_unrefused, freed_run, busy_reset, freed_opening, command_hears, command_calm, CalmAll, calm_busy, calm_send, calm_bytes, heard_to}
use Rattle.wire.proofs.AtOnce.{refused_at_once}
use Rattle.reading.specs.Readings.{all_ones, probes_scratchpad, reads_memory, closes_by_reset, failed, reading}
use Rattle.reading.specs.Laws.{BusyUnchanged, LeavesFree, BytesStay}
use Rattle.reading.proofs.Parts.{closed, judged, found, asked, call_at}

-- its closing has no dwell
pub still_closes : (e : ℕ) → Still (closes_by_reset e)
still_closes e true = tt
still_closes e false = tt

no_dwells : (x row : ℕ) → NoDwell (reading x row)
no_dwells x row =
    no_dwell (found x row) failed
    (λ _. no_dwell closed failed (λ xs. no_dwell (λ _. ret (good xs)) failed (λ _. tt) (λ w e. tt) (closes_by_reset 3) (still_closes 3)) (λ w e. tt) (reads_memory 2 x row) (λ xs. tt))
    (λ w e. tt) (probes_scratchpad x) (λ xs. pick (all_ones xs) (Still {A = Unit {0}}) tt tt)

pub bytes_stay : BytesStay
bytes_stay r x row =
    pick (eqb (row % 8) 0) (λ (s : RigState × Report (List ℕ)). map bytes_of s.0.line ≡ map bytes_of r.line) (bytes_run 0 (reading x row) r (no_dwells x row)) refl

-- a closing reset on a calm line
pub un_close : (D : List ChipState → Type 0) {B : Type 0} (e : ℕ) (k : Unit {0} → Job B) (fails : ExchangeError → ℕ → Job B)
    → ((l : List ChipState) → any_busy l ≡ false → Freed D (k tt) l) → ((l : List ChipState) → any_busy l ≡ false → Freed D (fails NoPresence e) l)
    → (l : List ChipState) → CalmAll l → Freed D (pulses (closes_by_reset e) k fails) l
un_close D e k fails uk ub l h = (calm_busy l h, go (presence l))
  where
    go : (b : Bool) → Freed D (pulses (cond b (answer tt) (refuse NoPresence e)) k fails) (map reset_chip l)
    go true = uk (map reset_chip l) (busy_reset l (calm_busy l h))
    go false = ub (map reset_chip l) (busy_reset l (calm_busy l h))

module _ (D : List ChipState → Type 0) (x row : ℕ) where
  -- F0h, the address and the row, on a line that is not busy
  pub un_find : {B : Type 0} (e : ℕ) (k : List ℕ → Job B) (fails : ExchangeError → ℕ → Job B) → ((xs : List ℕ) (l : List ChipState) → CalmAll l → Freed D (k xs) l)
      → ((l : List ChipState) → any_busy l ≡ false → Freed D (fails NoPresence e) l) → (l : List ChipState) → any_busy l ≡ false → Freed D (pulses (reads_memory e x row) k fails) l
  un_find e k fails uk ub l b =
      freed_opening D x (send_bytes (0xF0 ∷ row % 256 ∷ row / 256 ∷ []) (read_bytes 8 k)) (fails NoPresence e) l b ub
      (λ l' o. subst (λ j. Freed D j l') (sym (send-append (bits_of 8 0xF0) (bits_all (row % 256 ∷ row / 256 ∷ [])) (read_bytes 8 k)))
      (heard_to D Free (bits_of 8 0xF0) (send_bits (bits_all (row % 256 ∷ row / 256 ∷ [])) (read_bytes 8 k)) l' (command_hears 0xF0 l' o)
      (calm_send D (bits_all (row % 256 ∷ row / 256 ∷ [])) (read_bytes 8 k) (map (takes (bits_of 8 0xF0)) l') (command_calm 0xF0 read_harmless l' o)
      (λ l'' h. calm_bytes D 8 k l'' h uk))))

module _ (x row : ℕ) where
  un_asked : (got : List ℕ) (l : List ChipState) → CalmAll l → Freed Anyhow (asked x row got) l
  un_asked got l h = go (all_ones got)
    where
      go : (t : Bool) → Freed Anyhow (pulses (judged t) (found x row) failed) l
      go true = calm_busy l h
      go false = un_find Anyhow x row 2 closed failed (λ xs. un_close Anyhow 3 (λ _. ret (good xs)) failed (λ _ b. b) (λ _ b. b)) (λ _ b. b) l (calm_busy l h)

  pub freed : (l : List ChipState) → any_busy l ≡ false → Freed Anyhow (reading x row) l
  freed l e =
      freed_opening Anyhow x (send_bytes (0xAA ∷ []) (read_bytes 3 (asked x row))) (failed NoPresence 1) l e (λ _ b. b)
      (λ l' o. heard_to Anyhow Free (bits_of 8 0xAA) (read_bytes 3 (asked x row)) l' (command_hears 0xAA l' o)
      (calm_bytes Anyhow 3 (asked x row) (map (takes (bits_of 8 0xAA)) l') (command_calm 0xAA report_harmless l' o) un_asked))

  pub unrefused : (l : List ChipState) → any_busy l ≡ false → Unrefused (reading x row) l
  unrefused l e = freed_unrefused Anyhow (reading x row) l (freed l e)

pub leaves_free : LeavesFree
leaves_free r x row b =
    pick (eqb (row % 8) 0) (λ (s : RigState × Report (List ℕ)). Free s.0.line) (freed_run Anyhow 0 (reading x row) r.line r.fuse (freed x row r.line b)) b

-- no answer of a reading has the number 3
failed_not : (w : ExchangeError) (e : ℕ) → Leaves NotThree (failed {A = List ℕ} w e)
failed_not NoPresence e = λ q. omega arith
failed_not Garbled e = λ q. omega arith

never_three : (x row : ℕ) → Leaves NotThree (reading x row)
never_three x row =
    leaves NotThree (found x row) failed
    (λ _. leaves NotThree closed failed (λ xs. leaves NotThree (λ _. ret (good xs)) failed (λ _. tt) failed_not (closes_by_reset 3)) failed_not (reads_memory 2 x row))
    failed_not (probes_scratchpad x)

-- refusal 3 comes first, on whatever line
pub busy_unchanged : BusyUnchanged
busy_unchanged r x row e steps q = go (eqb (row % 8) 0) q
  where
    begun : (run 0 (reading x row) r).got ≡ line_busy → (call_at x row r true).1 ≡ refused_as 3 e steps
        → ((run 0 (reading x row) r).rig ≡ r) × (any_busy r.line ≡ true) × (e ≡ 0) × (steps ≡ 0)
    begun g q =
        let f = refused_at_once (reading x row) r tt (unrefused x row r.line) g in
        let u : ◌≡◌ {A = Report (List ℕ)} (refused_as 3 0 0) (refused_as 3 e steps) = ap (λ w. report_of w.got w.steps) (sym f.0) ∙ q in
        let none : 0 ≡ e = cc in let made : 0 ≡ steps = cc in (ap (λ w. w.rig) f.0, f.1, sym none, sym made)

    said : (g : Got (Said (List ℕ))) (n : ℕ) → GotAll NotThree g → report_of g n ≡ refused_as 3 e steps → g ≡ line_busy
    said (done (good a)) n h q = let z : ◌≡◌ {A = ℕ} 0 1 = cc in absurd (omega arith)
    said (done (bad k f)) n h q = absurd (h (cc))
    said line_busy n h q = refl

    go : (t : Bool) → (call_at x row r t).1 ≡ refused_as 3 e steps → ((call_at x row r t).0 ≡ r) × (any_busy r.line ≡ true) × (e ≡ 0) × (steps ≡ 0)
    go true q =
        begun (said (run 0 (reading x row) r).got (run 0 (reading x row) r).steps (leaves_run NotThree 0 (reading x row) r (never_three x row)) q) q
    go false q = let z : ◌≡◌ {A = ℕ} 3 4 = cc in absurd (omega arith)

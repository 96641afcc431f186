-- An order is refused with 3 at its first pulse or never; and one refused with 7 changes no byte.
use Rattle.std.proofs.Common.{◌≡◌, ℕ, ◌/◌, ◌%◌, Bool, true, false, eqb, List, [], ◌∷◌, ◌++◌, map, get_or, take, drop, Some, None, Option, sym, refl, ap, ◌∙◌, subst, arith}
use Rattle.std.proofs.lemmas.Bool.{eqb-true}
use Rattle.std.proofs.lemmas.Bool.Decides.{nat_tests}
use Rattle.std.proofs.lemmas.Simd.{map-map}
use Rattle.base.specs.Bits.{bits_of, bits_all, odd}
use Rattle.base.specs.Crc.{inverted}
use Rattle.memory.proofs.Calm.{copy_bits, copy_heard, copy_dwelt, load_harmless, report_harmless}
use Rattle.chip.specs.ChipStates.{ChipState, bytes_of, reset_chip, dwell_chip, takes}
use Rattle.chip.proofs.Select.{takes-idle, takes-off}
use Rattle.line.specs.Lines.{any_busy}
use Rattle.rig.specs.Rigs.{dwell_pulse}
use Rattle.wire.specs.Jobs.{Job, step, Got, done, line_busy, run, send_bits, send_bytes, read_bytes}
use Rattle.wire.specs.Exchanges.{answer, read as listens, pulses}
use Rattle.wire.specs.declared.exchange_fault.ExchangeError.{ExchangeError}
use Rattle.wire.specs.declared.exchange_fault.ExchangeError.TheVariants.{NoPresence, Garbled}
use Rattle.wire.proofs.Leading.{send-append}
use Rattle.wire.proofs.Calm.{Leaves, GotAll, leaves, leaves_run, DwellFree, Gets, bytes_unless, Still, still_free, dwell_free, Unrefused, Anyhow, Free, Freed, freed_unrefused, freed_run, opening_at, freed_opening, BegunAll, begun_hear, begun_calm, command_hears, command_calm, CalmChip, CalmAll, calm_busy, calm_send, calm_bytes, heard_to}
use Rattle.wire.proofs.AtOnce.{refused_at_once}
use Rattle.reading.specs.Readings.{reads_memory, closes_by_reset}
use Rattle.reading.proofs.Quiet.{still_closes, un_close, un_find}
use Rattle.order.specs.Differences.{first_difference}
use Rattle.order.specs.Writings.{writes_scratchpad, verifies_scratchpad, copies_scratchpad, whole_status, programmed_byte}
use Rattle.order.specs.Orders.{Ending, held, refusal, refusal_at, failed, judged, finds_and_closes, copies_if, ordering, refuses, refuses_at, verdict_of}
use Rattle.order.specs.Laws.{LeavesFree, BusyUnchanged, Uncopied}
use Rattle.order.proofs.Parts.{judged1, judged2, target, summed_bytes, sent_sum, ends, closing, copying, told, checking, next, call_at}

-- 1. the bits of a copy: every chip hears them, and after the dwell none is programming
module _ (a b c : ℕ) (even : odd a ≡ false) where
  dwelt_calm : (l : List ChipState) → BegunAll l → CalmAll (map (λ d. dwell_chip (takes (copy_bits a b c) d)) l)
  dwelt_calm =
      begun_calm (λ d. dwell_chip (takes (copy_bits a b c) d)) (λ x m. subst (λ d. CalmChip (dwell_chip d)) (sym (takes-off x m (copy_bits a b c))) tt) (λ x m. copy_dwelt a b c even m)
      (λ x m. subst (λ d. CalmChip (dwell_chip d)) (sym (takes-idle x m (copy_bits a b c) false)) tt)

-- 2. no pulse of an order is refused on a line that was not busy, and no chip programs at its end
module _ (x row : ℕ) (new : List ℕ) where
  abbrev pub sent : List Bool
  sent = copy_bits (row % 256) (row / 256) whole_status

  -- the line once the third exchange has begun, and once the copy was sent
  abbrev pub begun : List ChipState → List ChipState
  begun l = map (takes (bits_of 8 0x55 ++ bits_of 64 x)) (map reset_chip l)

  abbrev pub copied : List ChipState → List ChipState
  copied l = map (takes sent) (begun l)

  low_even : row % 8 ≡ 0 → odd (row % 256) ≡ false
  low_even aligned = grind (arith, nat_tests, aligned)

  module _ (aligned : row % 8 ≡ 0) (D : List ChipState → Type 0) (dwelling : (l : List ChipState) → any_busy l ≡ false → D (copied l)) where
    un_concludes : (programmed : Bool) (l : List ChipState) → CalmAll l → Freed D (finds_and_closes x row new programmed) l
    un_concludes programmed l h =
        un_find D x row 4 (closing new programmed) failed (λ xs. un_close D 5 (ends new programmed xs) failed (λ _ b. b) (λ _ b. b)) (λ _ b. b) l (calm_busy l h)

    abbrev said : List ℕ → Job Ending
    said got = finds_and_closes x row new (eqb (get_or got 0 0) programmed_byte)

    un_copies : (o : Option ℕ) (l : List ChipState) → any_busy l ≡ false → Freed D (copies_if x row new o) l
    un_copies (Some i) l e = e
    un_copies None l e =
        opening_at D x (send_bytes (0x55 ∷ row % 256 ∷ row / 256 ∷ whole_status ∷ []) (step dwell_pulse (λ _. read_bytes 1 said))) (failed NoPresence 3) l e (λ _ b. b)
        (λ o. heard_to D Free sent (step dwell_pulse (λ _. read_bytes 1 said)) (begun l) (begun_hear sent (λ y m. copy_heard (row % 256) (row / 256) whole_status (low_even aligned) m) (begun l) o)
        (dwelling l e, calm_bytes D 1 said (map dwell_chip (copied l)) (subst CalmAll (sym (map-map dwell_chip (takes sent) (begun l))) (dwelt_calm (row % 256) (row / 256) whole_status (low_even aligned) (begun l) o)) (λ got. un_concludes (eqb (get_or got 0 0) programmed_byte))))

    un_told : (got : List ℕ) (l : List ChipState) → CalmAll l → Freed D (told x row new got) l
    un_told got l h = go (target row got) (summed_bytes row got)
      where
        go : (a b : Option ℕ) → Freed D (pulses (judged2 a b (take 8 (drop 3 got))) (copying x row new) failed) l
        go (Some i) b = calm_busy l h
        go None (Some i) = calm_busy l h
        go None None = un_copies (first_difference new (take 8 (drop 3 got))) l (calm_busy l h)

    un_checks : (l : List ChipState) → any_busy l ≡ false → Freed D (checking x row new tt) l
    un_checks l e =
        freed_opening D x (send_bytes (0xAA ∷ []) (read_bytes 13 (told x row new))) (failed NoPresence 2) l e (λ _ b. b)
        (λ l' o. heard_to D Free (bits_of 8 0xAA) (read_bytes 13 (told x row new)) l' (command_hears 0xAA l' o)
        (calm_bytes D 13 (told x row new) (map (takes (bits_of 8 0xAA)) l') (command_calm 0xAA report_harmless l' o) un_told))

    un_next : (got : List ℕ) (l : List ChipState) → CalmAll l → Freed D (next x row new got) l
    un_next got l h = go (first_difference got (inverted (sent_sum row new)))
      where
        go : (o : Option ℕ) → Freed D (pulses (judged1 o) (checking x row new) failed) l
        go None = un_checks l (calm_busy l h)
        go (Some i) = calm_busy l h

    pub freed : (l : List ChipState) → any_busy l ≡ false → Freed D (ordering x row new) l
    freed l e =
        freed_opening D x (send_bytes (0x0F ∷ row % 256 ∷ row / 256 ∷ []) (send_bytes new (read_bytes 2 (next x row new)))) (failed NoPresence 1) l e (λ _ b. b)
        (λ l' o. subst (λ j. Freed D j l') (sym (send-append (bits_of 8 0x0F) (bits_all (row % 256 ∷ row / 256 ∷ [])) (send_bytes new (read_bytes 2 (next x row new)))))
        (heard_to D Free (bits_of 8 0x0F) (send_bits (bits_all (row % 256 ∷ row / 256 ∷ [])) (send_bytes new (read_bytes 2 (next x row new)))) l' (command_hears 0x0F l' o)
        (calm_send D (bits_all (row % 256 ∷ row / 256 ∷ [])) (send_bytes new (read_bytes 2 (next x row new))) (map (takes (bits_of 8 0x0F)) l') (command_calm 0x0F load_harmless l' o)
        (λ l'' h. calm_send D (bits_all new) (read_bytes 2 (next x row new)) l'' h (λ l''' h'. calm_bytes D 2 (next x row new) l''' h' un_next)))))

  pub freed_anyhow : row % 8 ≡ 0 → (l : List ChipState) → any_busy l ≡ false → Freed Anyhow (ordering x row new) l
  freed_anyhow al l e = freed al Anyhow (λ _ _. tt) l e

  pub unrefused : row % 8 ≡ 0 → (l : List ChipState) → any_busy l ≡ false → Unrefused (ordering x row new) l
  unrefused al l e = freed_unrefused Anyhow (ordering x row new) l (freed_anyhow al l e)

-- 3. so refusal 3 leaves all unchanged
abbrev NotThree : Ending → Type 0
NotThree (held programmed) = Unit {0}
NotThree (refusal k e) = k ≡ 3 → ⊥
NotThree (refusal_at k e i) = Unit {0}

abbrev NotSeven : Ending → Type 0
NotSeven (held programmed) = Unit {0}
NotSeven (refusal k e) = Unit {0}
NotSeven (refusal_at k e i) = k ≡ 7 → ⊥

failed_not : (w : ExchangeError) (e : ℕ) → Leaves NotThree (failed w e)
failed_not NoPresence e = λ q. omega arith
failed_not Garbled e = λ q. omega arith

judged_not : (programmed : Bool) (o : Option ℕ) → NotThree (judged programmed o)
judged_not programmed None = tt
judged_not programmed (Some i) = tt

judged-eight : (programmed : Bool) (o : Option ℕ) → NotSeven (judged programmed o)
judged-eight programmed None = tt
judged-eight programmed (Some i) = λ q. omega arith

module _ (x row : ℕ) (new : List ℕ) where
  not_copies : (o : Option ℕ) → Leaves NotThree (copies_if x row new o)
  not_copies (Some i) = tt
  not_copies None =
      leaves NotThree (finds_and_closes x row new) failed
      (λ p. leaves NotThree (closing new p) failed (λ f. leaves NotThree (ends new p f) failed (λ _. judged_not p (first_difference new f)) failed_not (closes_by_reset 5)) failed_not (reads_memory 4 x row)) failed_not (copies_scratchpad x row)

  never_three : Leaves NotThree (ordering x row new)
  never_three = leaves NotThree (checking x row new) failed (λ _. leaves NotThree (copying x row new) failed (λ l. not_copies (first_difference new l)) failed_not (verifies_scratchpad x row)) failed_not (writes_scratchpad x row new)

  -- 4. and no dwell leads to refusal 7
  abbrev IsSeven : Ending → Type 0
  IsSeven (held programmed) = ⊥
  IsSeven (refusal k e) = ⊥
  IsSeven (refusal_at k e i) = k ≡ 7

  seven_not : (a : Ending) → NotSeven a → IsSeven a → ⊥
  seven_not (held programmed) n s = s
  seven_not (refusal k e) n s = s
  seven_not (refusal_at k e i) n s = n s

  abbrev Never : Ending → Type 0
  Never a = IsSeven a → ⊥

  never_concludes : (p : Bool) → Leaves Never (finds_and_closes x row new p)
  never_concludes p =
      leaves Never (closing new p) failed (λ f. leaves Never (ends new p f) failed (λ _. seven_not (judged p (first_difference new f)) (judged-eight p (first_difference new f))) (λ w e s. s) (closes_by_reset 5)) (λ w e s. s) (reads_memory 4 x row)

  free_concludes : (p : Bool) → DwellFree IsSeven (finds_and_closes x row new p)
  free_concludes p =
      still_free IsSeven (closing new p) failed (λ f. still_free IsSeven (ends new p f) failed (λ _. tt) (λ w e. tt) (closes_by_reset 5) (still_closes 5)) (λ w e. tt) (reads_memory 4 x row) (λ xs. tt)

  free_copies : (o : Option ℕ) → DwellFree IsSeven (copies_if x row new o)
  free_copies (Some i) = tt
  free_copies None =
      dwell_free IsSeven (finds_and_closes x row new) failed free_concludes (λ w e. tt) (copies_scratchpad x row)
      (leaves Never (finds_and_closes x row new) failed never_concludes (λ w e s. s) (listens 1 (λ got. answer (eqb (get_or got 0 0) programmed_byte))))

  still_checks : (l : List ℕ) → Still (judged2 (target row l) (summed_bytes row l) (take 8 (drop 3 l)))
  still_checks l = go (target row l) (summed_bytes row l)
    where
      go : (a b : Option ℕ) → Still (judged2 a b (take 8 (drop 3 l)))
      go (Some i) b = tt
      go None (Some i) = tt
      go None None = tt

  still_loads : (o : Option ℕ) → Still (judged1 o)
  still_loads None = tt
  still_loads (Some i) = tt

  pub free_order : DwellFree IsSeven (ordering x row new)
  free_order =
      still_free IsSeven (checking x row new) failed (λ _. still_free IsSeven (copying x row new) failed (λ l. free_copies (first_difference new l)) (λ w e. tt) (verifies_scratchpad x row) still_checks) (λ w e. tt)
      (writes_scratchpad x row new) (λ l. still_loads (first_difference l (inverted (sent_sum row new))))

-- what the caller is told
pub busy_unchanged : BusyUnchanged
busy_unchanged r x row e n new q = go (eqb (row % 8) 0) refl q
  where
    begun : row % 8 ≡ 0 → (run 0 (ordering x row new) r).got ≡ line_busy → (call_at x row new r true).1 ≡ refuses 3 e n
        → ((run 0 (ordering x row new) r).rig ≡ r) × (any_busy r.line ≡ true) × (e ≡ 0) × (n ≡ 0)
    begun al g q =
        let f = refused_at_once (ordering x row new) r tt (unrefused x row new al r.line) g in
        let u : refuses 3 0 0 ≡ refuses 3 e n = ap (λ w. verdict_of w.got w.steps) (sym f.0) ∙ q in
        let none : 0 ≡ e = cc in let made : 0 ≡ n = cc in (ap (λ w. w.rig) f.0, f.1, sym none, sym made)

    said : (g : Got Ending) (k : ℕ) → GotAll NotThree g → verdict_of g k ≡ refuses 3 e n → g ≡ line_busy
    said (done (held p)) k h q = let z : ◌≡◌ {A = ℕ} 0 1 = cc in absurd (omega arith)
    said (done (refusal i f)) k h q = absurd (h (cc))
    said (done (refusal_at i f j)) k h q = let z : ◌≡◌ {A = ℕ} 0 1 = cc in absurd (omega arith)
    said line_busy k h q = refl

    go : (t : Bool) → eqb (row % 8) 0 ≡ t → (call_at x row new r t).1 ≡ refuses 3 e n → ((call_at x row new r t).0 ≡ r) × (any_busy r.line ≡ true) × (e ≡ 0) × (n ≡ 0)
    go true a q =
        begun (eqb-true (row % 8) 0 a) (said (run 0 (ordering x row new) r).got (run 0 (ordering x row new) r).steps (leaves_run NotThree 0 (ordering x row new) r (never_three x row new)) q) q
    go false a q = let z : ◌≡◌ {A = ℕ} 3 4 = cc in absurd (omega arith)

pub leaves_free : LeavesFree
leaves_free r x row new b = go (eqb (row % 8) 0) refl
  where
    go : (t : Bool) → eqb (row % 8) 0 ≡ t → Free (call_at x row new r t).0.line
    go true a = freed_run Anyhow 0 (ordering x row new) r.line r.fuse (freed_anyhow x row new (eqb-true (row % 8) 0 a) r.line b)
    go false a = b

pub uncopied : Uncopied
uncopied r x row e i n new q = go (eqb (row % 8) 0) q
  where
    said : (g : Got Ending) (k : ℕ) → verdict_of g k ≡ refuses_at 7 e i n → Gets (IsSeven x row new) g
    said (done (held p)) k q = let z : ◌≡◌ {A = ℕ} 0 1 = cc in absurd (omega arith)
    said (done (refusal j f)) k q = let z : ◌≡◌ {A = ℕ} 0 1 = cc in absurd (omega arith)
    said (done (refusal_at j f a)) k q = cc
    said line_busy k q = let z : ◌≡◌ {A = ℕ} 0 1 = cc in absurd (omega arith)

    go : (t : Bool) → (call_at x row new r t).1 ≡ refuses_at 7 e i n → map bytes_of (call_at x row new r t).0.line ≡ map bytes_of r.line
    go true q = bytes_unless (IsSeven x row new) 0 (ordering x row new) r (free_order x row new) (said (run 0 (ordering x row new) r).got (run 0 (ordering x row new) r).steps q)
    go false q = refl

-- An order whose tag has no power, and one whose power fails: it never answers held.
use Rattle.std.proofs.Common.{◌≡◌, ℕ, ◌/◌, ◌%◌, ◌^◌, ◌<◌, Bool, true, false, cond, List, [], ◌∷◌, map, get_or, take, drop, replicate, Some, None, Option, refl, ap, ◌∙◌, arith}
use Rattle.base.specs.Bits.{bits_all}
use Rattle.base.specs.Crc.{inverted}
use Rattle.chip.specs.ChipStates.{ChipState, opened_by}
use Rattle.line.specs.Lines.{presence, any_busy}
use Rattle.rig.specs.Rigs.{reset_pulse}
use Rattle.wire.specs.Jobs.{Job, ret, send_bytes, read_bytes}
use Rattle.wire.specs.Exchanges.{answer, refuse, pulses, error_code}
use Rattle.wire.specs.declared.exchange_fault.ExchangeError.{ExchangeError}
use Rattle.wire.specs.declared.exchange_fault.ExchangeError.TheVariants.{NoPresence}
use Rattle.wire.specs.Laws.{powered_in}
use Rattle.wire.proofs.Leading.{Leads, leads_then, leads_none, WideAll, opened, unopened}
use Rattle.wire.proofs.Alone.{QuietAll, busy_quiets, send_quiet, bytes_quiet}
use Rattle.wire.proofs.One.{opened_wide, opened_powered, absent_quiet}
use Rattle.wire.proofs.Power.{Lost, Wary, lost_ret, lost_step, lost_exchange, wary_exchange}
use Rattle.reading.specs.Readings.{reads_memory}
use Rattle.order.specs.Differences.{first_difference}
use Rattle.order.specs.Writings.{writes_scratchpad, verifies_scratchpad, copies_scratchpad}
use Rattle.order.specs.Orders.{Ending, refusal, refusal_at, failed, finds_and_closes, copies_if, ordering}
use Rattle.order.proofs.Comparing.{first_equal}
use Rattle.order.proofs.Parts.{judged1, judged2, target, summed_bytes, sent_sum, ends, closing, copying, told, checking, next}
use Rattle.order.proofs.Present.{IsHeld}

module _ (x row : ℕ) (new : List ℕ) where
  -- 1. after a cut at any step the order does not answer held
  failed_lost : (w : ExchangeError) (e : ℕ) → Lost IsHeld (failed w e)
  failed_lost w e = lost_ret IsHeld (refusal (error_code w) e) (λ z. z)

  closing_lost : (programmed : Bool) (found : List ℕ) → Lost IsHeld (closing new programmed found)
  closing_lost programmed found =
      lost_step IsHeld reset_pulse (λ b. pulses (cond b (answer tt) (refuse NoPresence 5)) (ends new programmed found) failed) (failed_lost NoPresence 5)

  closing_wary : (programmed : Bool) (found : List ℕ) → Wary IsHeld (closing new programmed found)
  closing_wary programmed found = (failed_lost NoPresence 5, go)
    where
      go : (b : Bool) → Wary IsHeld (pulses (cond b (answer tt) (refuse NoPresence 5)) (ends new programmed found) failed)
      go true = tt
      go false = tt

  concludes_lost : (programmed : Bool) → Lost IsHeld (finds_and_closes x row new programmed)
  concludes_lost programmed = lost_exchange IsHeld (closing new programmed) failed (closing_lost programmed) failed_lost (reads_memory 4 x row)

  concludes_wary : (programmed : Bool) → Wary IsHeld (finds_and_closes x row new programmed)
  concludes_wary programmed =
      wary_exchange IsHeld (closing new programmed) failed (closing_lost programmed) failed_lost (closing_wary programmed) (λ w e. tt) (reads_memory 4 x row)

  copies_lost : (o : Option ℕ) → Lost IsHeld (copies_if x row new o)
  copies_lost None = lost_exchange IsHeld (finds_and_closes x row new) failed concludes_lost failed_lost (copies_scratchpad x row)
  copies_lost (Some i) = lost_ret IsHeld (refusal_at 7 2 i) (λ z. z)

  copies_wary : (o : Option ℕ) → Wary IsHeld (copies_if x row new o)
  copies_wary None = wary_exchange IsHeld (finds_and_closes x row new) failed concludes_lost failed_lost concludes_wary (λ w e. tt) (copies_scratchpad x row)
  copies_wary (Some i) = tt

  pub order_wary : Wary IsHeld (ordering x row new)
  order_wary =
      wary_exchange IsHeld (checking x row new) failed
      (λ _. lost_exchange IsHeld (copying x row new) failed (λ l. copies_lost (first_difference new l)) failed_lost (verifies_scratchpad x row)) failed_lost
      (λ _. wary_exchange IsHeld (copying x row new) failed (λ l. copies_lost (first_difference new l)) failed_lost (λ l. copies_wary (first_difference new l)) (λ w e. tt) (verifies_scratchpad x row))
      (λ w e. tt) (writes_scratchpad x row new)

  -- 2. no powered chip has the number: the order is refused in its first or second exchange
  pub record Fails (p : Job Ending) (l : List ChipState) : Type 0 where
    pub number : ℕ
    pub exchange : ℕ
    pub line : List ChipState
    pub so : Leads p l (ret (refusal number exchange)) line

  fails_by : {p q : Job Ending} {l l' : List ChipState} → Leads p l q l' → Fails q l' → Fails p l
  fails_by f g = record { number = g.number; exchange = g.exchange; line = g.line; so = leads_then f g.so }

  refused-at : (k e : ℕ) (l : List ChipState) → Fails (ret (refusal k e)) l
  refused-at k e l = record { number = k; exchange = e; line = l; so = leads_none }

  abbrev silence : List ℕ
  silence = replicate 13 255

  -- what silence says of address and status
  unlike : target row silence ≡ None → ⊥
  unlike e =
      let q : 255 ≡ 7 = ap (λ l. get_or l 2 0) (first_equal (255 ∷ 255 ∷ 255 ∷ []) (row % 256 ∷ row / 256 ∷ 7 ∷ []) e) in
      omega (arith, q)

  told_silence : (l : List ChipState) → Fails (told x row new silence) l
  told_silence l = go (target row silence) refl
    where
      go : (o : Option ℕ) → target row silence ≡ o
          → Fails (pulses (judged2 o (summed_bytes row silence) (take 8 (drop 3 silence))) (copying x row new) failed) l
      go None e = absurd (unlike e)
      go (Some i) e = refused-at 6 2 l

  module _ (hx : x < 2 ^ 64) where
    second : (l : List ChipState) → WideAll l → any_busy l ≡ false → powered_in x l ≡ false → Fails (checking x row new tt) l
    second l w e a = go (presence l) refl
      where
        quietly : QuietAll (map (opened_by x) l)
        quietly = absent_quiet x l a

        go : (t : Bool) → presence l ≡ t → Fails (checking x row new tt) l
        go false p = fails_by (unopened x (send_bytes (0xAA ∷ []) (read_bytes 13 (told x row new))) (failed NoPresence 2) l e p) (refused-at 5 2 _)
        go true p =
            fails_by (opened x (send_bytes (0xAA ∷ []) (read_bytes 13 (told x row new))) (failed NoPresence 2) l hx w e p)
            (fails_by (send_quiet (bits_all (0xAA ∷ [])) (read_bytes 13 (told x row new)) (map (opened_by x) l) quietly)
            (fails_by (bytes_quiet 13 (told x row new) (map (opened_by x) l) quietly) (told_silence (map (opened_by x) l))))

    pub absent : (l : List ChipState) → WideAll l → any_busy l ≡ false → powered_in x l ≡ false → Fails (ordering x row new) l
    absent l w e a = go (presence l) refl
      where
        quietly : QuietAll (map (opened_by x) l)
        quietly = absent_quiet x l a

        on : (o : Option ℕ) → Fails (pulses (judged1 o) (checking x row new) failed) (map (opened_by x) l)
        on None = second (map (opened_by x) l) (opened_wide x l w) (busy_quiets (map (opened_by x) l) quietly) (opened_powered x l ∙ a)
        on (Some i) = refused-at 6 1 (map (opened_by x) l)

        go : (t : Bool) → presence l ≡ t → Fails (ordering x row new) l
        go false p = fails_by (unopened x (send_bytes (0x0F ∷ row % 256 ∷ row / 256 ∷ []) (send_bytes new (read_bytes 2 (next x row new)))) (failed NoPresence 1) l e p) (refused-at 5 1 _)
        go true p =
            fails_by (opened x (send_bytes (0x0F ∷ row % 256 ∷ row / 256 ∷ []) (send_bytes new (read_bytes 2 (next x row new)))) (failed NoPresence 1) l hx w e p)
            (fails_by (send_quiet (bits_all (0x0F ∷ row % 256 ∷ row / 256 ∷ [])) (send_bytes new (read_bytes 2 (next x row new))) (map (opened_by x) l) quietly)
            (fails_by (send_quiet (bits_all new) (read_bytes 2 (next x row new)) (map (opened_by x) l) quietly)
            (fails_by (bytes_quiet 2 (next x row new) (map (opened_by x) l) quietly) (on (first_difference (255 ∷ 255 ∷ []) (inverted (sent_sum row new)))))))

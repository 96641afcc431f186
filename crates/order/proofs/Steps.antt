-- How many steps an order takes.
use Rattle.std.proofs.Common.{◌≡◌, ℕ, ◌+◌, ◌/◌, ◌%◌, ◌≤◌, Bool, true, false, cond, eqb, ◌⊎◌, List, [], ◌∷◌, length, get_or, take, drop, Some, None, Option, sym, refl, ap, ◌∙◌, subst, inl, inr, arith}
use Rattle.base.specs.Bits.{bits_all}
use Rattle.base.proofs.Queues.{length_all}
use Rattle.base.specs.Crc.{inverted}
use Rattle.rig.specs.Rigs.{RigState, reset_pulse, dwell_pulse}
use Rattle.wire.specs.Jobs.{Job, step, Got, done, line_busy, run, send_bytes, read_bytes}
use Rattle.wire.specs.Exchanges.{answer, refuse, pulses}
use Rattle.wire.specs.declared.exchange_fault.ExchangeError.TheVariants.{NoPresence}
use Rattle.wire.proofs.Counts.{LeavesAt, GotAt, leaves_at, at-step, at-send, at_bytes, at-opening}
use Rattle.order.specs.Differences.{first_difference}
use Rattle.order.specs.Writings.{whole_status, programmed_byte}
use Rattle.order.specs.Orders.{Ending, held, refusal, refusal_at, failed, judged, finds_and_closes, copies_if, ordering, holds, refuses, verdict_of}
use Rattle.order.specs.Laws.{steps_of, OrderSteps}
use Rattle.order.proofs.Quiet.{busy_unchanged}
use Rattle.order.proofs.Parts.{judged1, judged2, target, summed_bytes, sent_sum, ends, closing, copying, told, checking, next, call_at}

abbrev pub Takes : ℕ → Ending → Type 0
Takes k (held programmed) = k ≡ 638
Takes k (refusal n e) = k ≤ 638
Takes k (refusal_at n e i) = ((n ≡ 7) × (e ≡ 2) × (k ≡ 362)) ⊎ ((n ≡ 8) × (e ≡ 5) × (k ≡ 638))

module _ (x row : ℕ) (new : List ℕ) where
  at-closing : (p : Bool) (f : List ℕ) → LeavesAt Takes 637 (closing new p f)
  at-closing p f = at-step Takes reset_pulse 637 (λ b. pulses (cond b (answer tt) (refuse NoPresence 5)) (ends new p f) failed) (omega arith) go
    where
      last : (o : Option ℕ) → Takes 638 (judged p o)
      last None = refl
      last (Some i) = inr (refl, refl, refl)

      go : (b : Bool) → LeavesAt Takes 638 (pulses (cond b (answer tt) (refuse NoPresence 5)) (ends new p f) failed)
      go true = last (first_difference new f)
      go false = omega arith

  at_concludes : (p : Bool) → LeavesAt Takes 476 (finds_and_closes x row new p)
  at_concludes p =
      at-opening Takes x 476 (send_bytes (0xF0 ∷ row % 256 ∷ row / 256 ∷ []) (read_bytes 8 (closing new p))) (failed NoPresence 4) (omega arith)
      (at-send Takes (bits_all (0xF0 ∷ row % 256 ∷ row / 256 ∷ [])) 549 (read_bytes 8 (closing new p)) (omega arith) (at_bytes Takes 8 573 (closing new p) (omega arith) (at-closing p)))
      (omega arith)

  abbrev said : List ℕ → Job Ending
  said got = finds_and_closes x row new (eqb (get_or got 0 0) programmed_byte)

  at_copies : (o : Option ℕ) → LeavesAt Takes 362 (copies_if x row new o)
  at_copies (Some i) = inl (refl, refl, refl)
  at_copies None =
      at-opening Takes x 362 (send_bytes (0x55 ∷ row % 256 ∷ row / 256 ∷ whole_status ∷ []) (step dwell_pulse (λ _. read_bytes 1 said))) (failed NoPresence 3) (omega arith)
      (at-send Takes (bits_all (0x55 ∷ row % 256 ∷ row / 256 ∷ whole_status ∷ [])) 435 (step dwell_pulse (λ _. read_bytes 1 said)) (omega arith)
      (at-step Takes dwell_pulse 467 (λ _. read_bytes 1 said) (omega arith) (λ _. at_bytes Takes 1 468 said (omega arith) (λ got. at_concludes (eqb (get_or got 0 0) programmed_byte)))))
      (omega arith)

  at_told : (l : List ℕ) → LeavesAt Takes 362 (told x row new l)
  at_told l = go (target row l) (summed_bytes row l)
    where
      go : (a b : Option ℕ) → LeavesAt Takes 362 (pulses (judged2 a b (take 8 (drop 3 l))) (copying x row new) failed)
      go (Some i) b = omega arith
      go None (Some i) = omega arith
      go None None = at_copies (first_difference new (take 8 (drop 3 l)))

  at_checking : LeavesAt Takes 177 (checking x row new tt)
  at_checking =
      at-opening Takes x 177 (send_bytes (0xAA ∷ []) (read_bytes 13 (told x row new))) (failed NoPresence 2) (omega arith)
      (at-send Takes (bits_all (0xAA ∷ [])) 250 (read_bytes 13 (told x row new)) (omega arith) (at_bytes Takes 13 258 (told x row new) (omega arith) at_told))
      (omega arith)

  at_next : (l : List ℕ) → LeavesAt Takes 177 (next x row new l)
  at_next l = go (first_difference l (inverted (sent_sum row new)))
    where
      go : (o : Option ℕ) → LeavesAt Takes 177 (pulses (judged1 o) (checking x row new) failed)
      go None = at_checking
      go (Some i) = omega arith

  takes : length new ≡ 8 → LeavesAt Takes 0 (ordering x row new)
  takes len =
      at-opening Takes x 0 (send_bytes (0x0F ∷ row % 256 ∷ row / 256 ∷ []) (send_bytes new (read_bytes 2 (next x row new)))) (failed NoPresence 1) (omega arith)
      (at-send Takes (bits_all (0x0F ∷ row % 256 ∷ row / 256 ∷ [])) 73 (send_bytes new (read_bytes 2 (next x row new))) (omega arith)
      (at-send Takes (bits_all new) 97 (read_bytes 2 (next x row new)) (omega (arith, sent))
      (subst (λ n. LeavesAt Takes n (read_bytes 2 (next x row new))) (sym sent) (at_bytes Takes 2 161 (next x row new) (omega arith) at_next))))
      (omega arith)
    where
      sent : 97 + length (bits_all new) ≡ 161
      sent = let h = length_all new in omega (arith, h, len)

said_steps : (g : Got Ending) (k n : ℕ) (p : Bool) → GotAt Takes k g → verdict_of g k ≡ holds p n → n ≡ 638
said_steps (done (held b)) k n p h q = let e : k ≡ n = cc in sym e ∙ h
said_steps (done (refusal j e)) k n p h q = let z : ◌≡◌ {A = ℕ} 0 1 = cc in absurd (omega arith)
said_steps (done (refusal_at j e i)) k n p h q = let z : ◌≡◌ {A = ℕ} 0 1 = cc in absurd (omega arith)
said_steps line_busy k n p h q = let z : ◌≡◌ {A = ℕ} 0 1 = cc in absurd (omega arith)

bounded : (g : Got Ending) (k : ℕ) → (g ≡ line_busy → k ≡ 0) → GotAt Takes k g → steps_of (verdict_of g k) ≤ 638
bounded (done (held b)) k z h = omega (arith, h)
bounded (done (refusal j e)) k z h = h
bounded (done (refusal_at j e i)) k z (inl h) = let q = h.2 in omega (arith, q)
bounded (done (refusal_at j e i)) k z (inr h) = let q = h.2 in omega (arith, q)
bounded line_busy k z h = let s = z refl in omega (arith, s)

module _ (r : RigState) (x row : ℕ) (new : List ℕ) (len : length new ≡ 8) where
  pub counts : GotAt Takes (run 0 (ordering x row new) r).steps (run 0 (ordering x row new) r).got
  counts = leaves_at Takes 0 (ordering x row new) r (takes x row new len)

  steps_held : (n : ℕ) (p : Bool) (t : Bool) → (call_at x row new r t).1 ≡ holds p n → n ≡ 638
  steps_held n p true q = said_steps (run 0 (ordering x row new) r).got (run 0 (ordering x row new) r).steps n p counts q
  steps_held n p false q = let z : ◌≡◌ {A = ℕ} 0 1 = cc in absurd (omega arith)

  steps_bounded : (t : Bool) → ((n : ℕ) → (call_at x row new r t).1 ≡ refuses 3 0 n → n ≡ 0) → steps_of (call_at x row new r t).1 ≤ 638
  steps_bounded true early =
      bounded (run 0 (ordering x row new) r).got (run 0 (ordering x row new) r).steps
      (λ q. early (run 0 (ordering x row new) r).steps (ap (λ g. verdict_of g (run 0 (ordering x row new) r).steps) q)) counts
  steps_bounded false early = omega arith

pub order_steps : OrderSteps
order_steps r x row new len = (λ n p q. steps_held r x row new len n p (eqb (row % 8) 0) q, steps_bounded r x row new len (eqb (row % 8) 0) (λ n q. (busy_unchanged r x row 0 n new q).3))

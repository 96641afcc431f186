-- How many steps lead to an answer.
use Rattle.std.proofs.Common.{◌≡◌, ℕ, zero, suc, ◌+◌, ◌*◌, ◌<◌, Bool, true, false, List, [], ◌∷◌, length, sym, subst, arith}
use Rattle.base.specs.Bits.{bits_all, value}
use Rattle.base.specs.RegistrationNumbers.{word_bytes}
use Rattle.base.proofs.Choice.{pick}
use Rattle.rig.specs.Rigs.{RigState, Pulse, reset_pulse, slot_pulse, refused, pulse, counted}
use Rattle.wire.specs.Jobs.{Job, ret, step, Got, done, line_busy, Ran, run, send_bits, read_bits, read_bytes, send_bytes}
use Rattle.wire.proofs.Leading.{after_opening}

module _ {A : Type 0} (P : ℕ → A → Type 0) where
  -- P holds of every answer that a job can give from a count on, with the count then
  abbrev pub LeavesAt : ℕ → Job A → Type 0
  LeavesAt k (ret a) = P k a
  LeavesAt k (step p f) = (b : Bool) → LeavesAt (counted k) (f b)

  abbrev pub GotAt : ℕ → Got A → Type 0
  GotAt k (done a) = P k a
  GotAt k line_busy = Unit {0}

  pub leaves_at : (k : ℕ) (p : Job A) (r : RigState) → LeavesAt k p → GotAt (run k p r).steps (run k p r).got
  leaves_at k (ret a) r h = h
  leaves_at k (step p f) r h =
      pick (refused p r.line) (λ (w : Ran A). GotAt w.steps w.got) tt (leaves_at (counted k) (f (pulse p r).1) (pulse p r).0 (h (pulse p r).1))

  count_one : (k : ℕ) → k < 4294967295 → counted k ≡ k + 1
  count_one k h = omega arith

  pub at-step : (p : Pulse) (k : ℕ) (f : Bool → Job A) → k < 4294967295 → ((b : Bool) → LeavesAt (k + 1) (f b)) → LeavesAt k (step p f)
  at-step p k f h g = λ b. subst (λ n. LeavesAt n (f b)) (sym (count_one k h)) (g b)

  pub at-send : (bs : List Bool) (k : ℕ) (K : Job A) → k + length bs < 4294967295 → LeavesAt (k + length bs) K → LeavesAt k (send_bits bs K)
  at-send [] k K h g = let e : k + 0 ≡ k = omega arith in subst (λ n. LeavesAt n K) e g
  at-send (b ∷ bs) k K h g =
      let e : k + length (b ∷ bs) ≡ k + 1 + length bs = omega arith in
      at-step (slot_pulse b) k (λ _. send_bits bs K) (omega arith) (λ _. at-send bs (k + 1) K (omega arith) (subst (λ n. LeavesAt n K) e g))

  pub at_read : (n k : ℕ) (K : List Bool → Job A) → k + n < 4294967295 → ((bs : List Bool) → LeavesAt (k + n) (K bs)) → LeavesAt k (read_bits n K)
  at_read zero k K h g = let e : k + 0 ≡ k = omega arith in subst (λ n. LeavesAt n (K [])) e (g [])
  at_read (suc n) k K h g =
      let e : k + suc n ≡ k + 1 + n = omega arith in
      at-step (slot_pulse true) k (λ b. read_bits n (λ bs. K (b ∷ bs))) (omega arith) (λ b. at_read n (k + 1) (λ bs. K (b ∷ bs)) (omega arith) (λ bs. subst (λ n. LeavesAt n (K (b ∷ bs))) e (g (b ∷ bs))))

  pub at_bytes : (n k : ℕ) (K : List ℕ → Job A) → k + 8 * n < 4294967295 → ((xs : List ℕ) → LeavesAt (k + 8 * n) (K xs)) → LeavesAt k (read_bytes n K)
  at_bytes zero k K h g = let e : k + 8 * 0 ≡ k = omega arith in subst (λ n. LeavesAt n (K [])) e (g [])
  at_bytes (suc n) k K h g =
      let e : k + 8 * suc n ≡ k + 8 + 8 * n = omega arith in
      at_read 8 k (λ bs. read_bytes n (λ xs. K (value bs ∷ xs))) (omega arith)
      (λ bs. at_bytes n (k + 8) (λ xs. K (value bs ∷ xs)) (omega arith) (λ xs. subst (λ n. LeavesAt n (K (value bs ∷ xs))) e (g (value bs ∷ xs))))

  -- a reset, 55h and a number are 73 steps
  pub at-opening : (x k : ℕ) (K nope : Job A) → k + 73 < 4294967295 → LeavesAt (k + 73) K → LeavesAt (k + 1) nope → LeavesAt k (step reset_pulse (after_opening x K nope))
  at-opening x k K nope h g z = at-step reset_pulse k (after_opening x K nope) (omega arith) go
    where
      e : k + 73 ≡ k + 1 + 8 + 64
      e = omega arith

      go : (b : Bool) → LeavesAt (k + 1) (after_opening x K nope b)
      go true = at-send (bits_all (0x55 ∷ [])) (k + 1) (send_bytes (word_bytes x) K) (omega arith) (at-send (bits_all (word_bytes x)) (k + 1 + 8) K (omega arith) (subst (λ n. LeavesAt n K) e g))
      go false = z

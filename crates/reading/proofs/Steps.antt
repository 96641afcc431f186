-- How many steps a reading takes.
use Rattle.std.proofs.Common.{◌≡◌, ℕ, ◌/◌, ◌%◌, ◌≤◌, Bool, true, false, cond, eqb, List, [], ◌∷◌, sym, refl, ap, ◌∙◌, arith}
use Rattle.base.specs.Bits.{bits_all}
use Rattle.rig.specs.Rigs.{reset_pulse}
use Rattle.wire.specs.Jobs.{ret, Got, done, line_busy, run, Said, good, bad, answered, refused_as, steps_in, report_of, send_bytes, read_bytes}
use Rattle.wire.specs.Exchanges.{answer, refuse, pulses}
use Rattle.wire.specs.declared.exchange_fault.ExchangeError.TheVariants.{NoPresence}
use Rattle.wire.proofs.Counts.{LeavesAt, GotAt, leaves_at, at-step, at-send, at_bytes, at-opening}
use Rattle.reading.specs.Readings.{all_ones, failed, reading}
use Rattle.reading.specs.Laws.{ReadingSteps}
use Rattle.reading.proofs.Quiet.{busy_unchanged}
use Rattle.reading.proofs.Parts.{closed, judged, found, asked, call_at}

abbrev Takes : ℕ → Said (List ℕ) → Type 0
Takes k (good found) = k ≡ 267
Takes k (bad n e) = k ≤ 267

module _ (x row : ℕ) where
  at_closed : (xs : List ℕ) → LeavesAt Takes 266 (closed xs)
  at_closed xs = at-step Takes reset_pulse 266 (λ b. pulses (cond b (answer tt) (refuse NoPresence 3)) (λ (_ : Unit {0}). ret (good xs)) failed) (omega arith) go
    where
      go : (b : Bool) → LeavesAt Takes 267 (pulses (cond b (answer tt) (refuse NoPresence 3)) (λ (_ : Unit {0}). ret (good xs)) failed)
      go true = refl
      go false = omega arith

  at_found : LeavesAt Takes 105 (found x row tt)
  at_found =
      at-opening Takes x 105 (send_bytes (0xF0 ∷ row % 256 ∷ row / 256 ∷ []) (read_bytes 8 closed)) (failed NoPresence 2) (omega arith)
      (at-send Takes (bits_all (0xF0 ∷ row % 256 ∷ row / 256 ∷ [])) 178 (read_bytes 8 closed) (omega arith) (at_bytes Takes 8 202 closed (omega arith) at_closed))
      (omega arith)

  at_asked : (got : List ℕ) → LeavesAt Takes 105 (asked x row got)
  at_asked got = go (all_ones got)
    where
      go : (t : Bool) → LeavesAt Takes 105 (pulses (judged t) (found x row) failed)
      go true = omega arith
      go false = at_found

  takes : LeavesAt Takes 0 (reading x row)
  takes =
      at-opening Takes x 0 (send_bytes (0xAA ∷ []) (read_bytes 3 (asked x row))) (failed NoPresence 1) (omega arith)
      (at-send Takes (bits_all (0xAA ∷ [])) 73 (read_bytes 3 (asked x row)) (omega arith) (at_bytes Takes 3 81 (asked x row) (omega arith) at_asked))
      (omega arith)

said : (g : Got (Said (List ℕ))) (n steps : ℕ) (found : List ℕ) → GotAt Takes n g → report_of g n ≡ answered found steps → steps ≡ 267
said (done (good xs)) n steps found h q = let e : n ≡ steps = cc in sym e ∙ h
said (done (bad k e)) n steps found h q = let z : ◌≡◌ {A = ℕ} 0 1 = cc in absurd (omega arith)
said line_busy n steps found h q = let z : ◌≡◌ {A = ℕ} 0 1 = cc in absurd (omega arith)

bounded : (g : Got (Said (List ℕ))) (n : ℕ) → (g ≡ line_busy → n ≡ 0) → GotAt Takes n g → steps_in (report_of g n) ≤ 267
bounded (done (good xs)) n z h = omega (arith, h)
bounded (done (bad k e)) n z h = h
bounded line_busy n z h = let s = z refl in omega (arith, s)

pub reading_steps : ReadingSteps
reading_steps r x row = (λ found steps. read found steps (eqb (row % 8) 0), most (eqb (row % 8) 0) (λ n q. (busy_unchanged r x row 0 n q).3))
  where
    counts : GotAt Takes (run 0 (reading x row) r).steps (run 0 (reading x row) r).got
    counts = leaves_at Takes 0 (reading x row) r (takes x row)

    read : (found : List ℕ) (steps : ℕ) (t : Bool) → (call_at x row r t).1 ≡ answered found steps → steps ≡ 267
    read found steps true q = said (run 0 (reading x row) r).got (run 0 (reading x row) r).steps steps found counts q
    read found steps false q = let z : ◌≡◌ {A = ℕ} 0 1 = cc in absurd (omega arith)

    most : (t : Bool) → ((n : ℕ) → (call_at x row r t).1 ≡ refused_as 3 0 n → n ≡ 0) → steps_in (call_at x row r t).1 ≤ 267
    most true early =
        bounded (run 0 (reading x row) r).got (run 0 (reading x row) r).steps
        (λ q. early (run 0 (reading x row) r).steps (ap (λ g. report_of g (run 0 (reading x row) r).steps) q)) counts
    most false early = omega arith

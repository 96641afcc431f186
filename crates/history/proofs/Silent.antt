-- A line without power: what every list of calls gets from it.
use Rattle.std.proofs.Common.{min, arith, ◌≡◌, ℕ, zero, suc, ◌%◌, Bool, true, false, eqb, List, [], ◌∷◌, map, sym, refl, ap, ◌∙◌, subst, ap₂}
use Rattle.std.proofs.lemmas.Bool.{true≢false}
use Rattle.kinds.specs.Kinds.{row_length}
use Rattle.chip.specs.ChipStates.{cut_chip}
use Rattle.chip.proofs.Keeps.{off-cut}
use Rattle.rig.specs.Rigs.{RigState, Pulse, reset_pulse, slot_pulse, dwell_pulse, answer_if_cut, pulse}
use Rattle.rig.proofs.Unpowered.{AllOff, all_off, off-map, off-refused, off-pulse}
use Rattle.wire.specs.Jobs.{Job, ret, step, Ran, line_busy, run, Said, Report, refused_as, report_of, reported}
use Rattle.wire.proofs.Power.{Resetting}
use Rattle.reading.specs.Readings.{reading}
use Rattle.rom_search.specs.Searches.{passes, room_of}
use Rattle.rom_search.specs.Searches.{listed as searched}
use Rattle.order.specs.Orders.{ordering, Ending, Verdict, refuses, verdict_of, with_verdict}
use Rattle.history.specs.Calls.{Request, reset, slot, dwell, cut, power_up, fuse, rom_search, read, order, Reply, presence_is, bit_is, done, refused_with, listed, row_is, judged_as, stepped, serve, serve_all}
use Rattle.history.specs.Laws.{silent, NoPowerUp, SilentUnpowered}

abbrev Answers : Reply → RigState → RigState × Reply → Type 0
Answers said r s = (s.0.line ≡ r.line) × (s.1 ≡ said)

off-stepped : (p : Pulse) (say : Bool → Reply) (r : RigState) → AllOff r.line → Answers (say (answer_if_cut p)) r (stepped p say r)
off-stepped p say r o =
    let through = off-pulse r.fuse p r.line o in
    subst (λ b. Answers (say (answer_if_cut p)) r (elim b as (λ _. RigState × Reply) [ true ↦ (r, refused_with 3) | false ↦ ((pulse p r).0, say (pulse p r).1) ]))
    (sym (off-refused p r.line o)) (through.0, ap say through.1)

-- a job that begins with a reset goes on as if nobody were there
abbrev unanswered : {A : Type 0} → Job A → Job A
unanswered (ret a) = ret a
unanswered (step p k) = k (answer_if_cut p)

off_job : {A : Type 0} (j : Job A) (r : RigState) → AllOff r.line → Resetting j → run 0 j r ≡ run 1 (unanswered j) (pulse reset_pulse r).0
off_job (ret a) r o h = absurd h
off_job (step (slot_pulse b) k) r o h = absurd h
off_job (step dwell_pulse k) r o h = absurd h
off_job {A} (step reset_pulse k) r o h =
    ap (λ b. elim b as (λ _. Ran A) [ true ↦ record { rig = r; steps = 0; got = line_busy } | false ↦ run 1 (k (pulse reset_pulse r).1) (pulse reset_pulse r).0 ]) (off-refused reset_pulse r.line o)
    ∙ ap (λ b. run 1 (k b) (pulse reset_pulse r).0) (off-pulse r.fuse reset_pulse r.line o).1

some_room : (places : ℕ) → eqb places 0 ≡ false → (n : ℕ) × (room_of places ≡ suc n)
some_room zero h = absurd (true≢false h)
some_room (suc n) h = (min n 63, omega arith)

off-rom_search : (places : ℕ) (r : RigState) → AllOff r.line → Answers (silent (rom_search places)) r (serve (rom_search places) r)
off-rom_search places r o = go (eqb places 0) refl
  where
    end : Bool → RigState × (Report ℕ × List ℕ)
    end t = elim t as (λ _. RigState × (Report ℕ × List ℕ)) [
      | true ↦ (r, (refused_as 9 0 0, []))
      | false ↦ ((run 0 (passes (room_of places) 1 [] []) r).rig, searched (run 0 (passes (room_of places) 1 [] []) r).got (run 0 (passes (room_of places) 1 [] []) r).steps)
    ]

    go : (t : Bool) → eqb places 0 ≡ t
        → Answers (elim t as (λ _. Reply) [ true ↦ listed (refused_as 9 0 0, []) | false ↦ listed (refused_as 5 1 1, []) ]) r ((end t).0, listed (end t).1)
    go true h = (refl, refl)
    go false h =
        subst (λ (w : Ran (Said ℕ × List ℕ)). Answers (listed (refused_as 5 1 1, [])) r (w.rig, listed (searched w.got w.steps)))
        (sym (ap (λ n. run 0 (passes n 1 [] []) r) (some_room places h).1 ∙ off_job (passes (suc (some_room places h).0) 1 [] []) r o tt))
        ((off-pulse r.fuse reset_pulse r.line o).0, refl)

off-read : (x row : ℕ) (r : RigState) → AllOff r.line → Answers (silent (read x row)) r (serve (read x row) r)
off-read x row r o = go (eqb (row % row_length) 0)
  where
    end : Bool → RigState × Report (List ℕ)
    end t = elim t as (λ _. RigState × Report (List ℕ)) [ false ↦ (r, refused_as 4 0 0) | true ↦ reported (run 0 (reading x row) r) ]

    go : (t : Bool) → Answers (elim t as (λ _. Reply) [ true ↦ row_is (refused_as 5 1 1) | false ↦ row_is (refused_as 4 0 0) ]) r ((end t).0, row_is (end t).1)
    go true =
        subst (λ (w : Ran (Said (List ℕ))). Answers (row_is (refused_as 5 1 1)) r (w.rig, row_is (report_of w.got w.steps)))
        (sym (off_job (reading x row) r o tt)) ((off-pulse r.fuse reset_pulse r.line o).0, refl)
    go false = (refl, refl)

off-order : (x row : ℕ) (new : List ℕ) (r : RigState) → AllOff r.line → Answers (silent (order x row new)) r (serve (order x row new) r)
off-order x row new r o = go (eqb (row % row_length) 0)
  where
    end : Bool → RigState × Verdict
    end t = elim t as (λ _. RigState × Verdict) [ false ↦ (r, refuses 4 0 0) | true ↦ with_verdict (run 0 (ordering x row new) r) ]

    go : (t : Bool) → Answers (elim t as (λ _. Reply) [ true ↦ judged_as (refuses 5 1 1) | false ↦ judged_as (refuses 4 0 0) ]) r ((end t).0, judged_as (end t).1)
    go true =
        subst (λ (w : Ran Ending). Answers (judged_as (refuses 5 1 1)) r (w.rig, judged_as (verdict_of w.got w.steps)))
        (sym (off_job (ordering x row new) r o tt)) ((off-pulse r.fuse reset_pulse r.line o).0, refl)
    go false = (refl, refl)

-- so is a call, unless it is a power-up
off-serve : (q : Request) (qs : List Request) (r : RigState) → AllOff r.line → NoPowerUp (q ∷ qs) → Answers (silent q) r (serve q r) × NoPowerUp qs
off-serve reset qs r o h = (off-stepped reset_pulse presence_is r o, h)
off-serve (slot b) qs r o h = (off-stepped (slot_pulse b) bit_is r o, h)
off-serve dwell qs r o h = (off-stepped dwell_pulse (λ _. done) r o, h)
off-serve (cut mask) qs r o h = ((off-map (cut_chip mask) (off-cut mask) r.line o, refl), h)
off-serve power_up qs r o h = absurd h
off-serve (fuse count mask) qs r o h = ((refl, refl), h)
off-serve (rom_search places) qs r o h = (off-rom_search places r o, h)
off-serve (read x row) qs r o h = (off-read x row r o, h)
off-serve (order x row new) qs r o h = (off-order x row new r o, h)

off_all : (qs : List Request) (r : RigState) → AllOff r.line → NoPowerUp qs → ((serve_all qs r).0.line ≡ r.line) × ((serve_all qs r).1 ≡ map silent qs)
off_all [] r o h = (refl, refl)
off_all (q ∷ qs) r o h =
    let one = off-serve q qs r o h in
    let rest = off_all qs (serve q r).0 (subst AllOff (sym one.0.0) o) one.1 in
    (rest.0 ∙ one.0.0, ap₂ (λ x xs. x ∷ xs) one.0.1 rest.1)

pub silent_unpowered : SilentUnpowered
silent_unpowered r qs h n = off_all qs r (all_off r.line h) n

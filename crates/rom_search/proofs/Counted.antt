-- How many steps a search takes.
use Rattle.std.proofs.Common.{◌≡◌, ℕ, zero, suc, ◌+◌, ◌-◌, ◌*◌, ◌<◌, ◌≤◌, Bool, true, false, not, ◌&&◌, eqb, ◌⊎◌, List, [], ◌∷◌, ◌++◌, sym, refl, ap, ◌∙◌, subst, inl, inr, arith}
use Rattle.base.specs.Bits.{bits_of, value}
use Rattle.base.proofs.Choice.{pick}
use Rattle.rig.specs.Rigs.{RigState, reset_pulse, slot_pulse}
use Rattle.wire.specs.Jobs.{Job, ret, step, Got, done, line_busy, run, good, bad, Report, answered, refused_as}
use Rattle.wire.proofs.Counts.{LeavesAt, GotAt, leaves_at, at-step, at-send}
use Rattle.rom_search.specs.Searches.{NextPath, no_path, next_path, onward, tail_of, chosen, triples, passes, most_places, room_of, listed}
use Rattle.rom_search.specs.Laws.{SearchSteps, AbsentSteps}
use Rattle.rom_search.proofs.Complete.{Out, going, seeks, after_reset}

abbrev pub Takes : ℕ → Out → Type 0
Takes k (good n, xs) = k ≡ 201 * n
Takes k (bad n e, xs) = (n ≡ 9 → k ≡ 201 * e) × (n ≡ 5 → k ≡ 201 * (e - 1) + 1) × (k ≤ 201 * e)

-- n triples are 3 n steps
at-triples : (lost : Job Out) (top : ℕ) → ((k : ℕ) → k ≤ top → LeavesAt Takes k lost) → (n k : ℕ) (path : List Bool) (K : List Bool → NextPath → Job Out) → k + 3 * n < 4294967295 → k + 3 * n ≤ top
    → ((bs : List Bool) (nx : NextPath) → LeavesAt Takes (k + 3 * n) (K bs nx)) → LeavesAt Takes k (triples lost n path K)
at-triples lost top z zero k path K h ht g = let e : k + 3 * 0 ≡ k = omega arith in subst (λ j. LeavesAt Takes j (K [] no_path)) e (g [] no_path)
at-triples lost top z (suc n) k path K h ht g =
    at-step Takes (slot_pulse true) k (λ a. step (slot_pulse true) (λ b. third a b (a && b))) (omega arith) (λ a.
    at-step Takes (slot_pulse true) (k + 1) (λ b. third a b (a && b)) (omega arith) (λ b.
    judged a b (a && b) (at-triples lost top z n (k + 3) (tail_of path) (λ bs nx. K (chosen a b path ∷ bs) (onward (not a && not b && not (chosen a b path)) (chosen a b path) nx)) (omega arith) (omega arith)
    (λ bs nx. let e : k + 3 * suc n ≡ k + 3 + 3 * n = omega arith in
    subst (λ j. LeavesAt Takes j (K (chosen a b path ∷ bs) (onward (not a && not b && not (chosen a b path)) (chosen a b path) nx))) e (g (chosen a b path ∷ bs) (onward (not a && not b && not (chosen a b path)) (chosen a b path) nx))))))
  where
    rest : Bool → Bool → Job Out
    rest a b = triples lost n (tail_of path) (λ bs nx. K (chosen a b path ∷ bs) (onward (not a && not b && not (chosen a b path)) (chosen a b path) nx))

    third : Bool → Bool → Bool → Job Out
    third a b t = elim t [ true ↦ lost | false ↦ step (slot_pulse (chosen a b path)) (λ _. rest a b) ]

    judged : (a b t : Bool) → LeavesAt Takes (k + 3) (rest a b) → LeavesAt Takes (k + 1 + 1) (third a b t)
    judged a b true ih = z (k + 1 + 1) (omega arith)
    judged a b false ih =
        let e : k + 3 ≡ k + 1 + 1 + 1 = omega arith in
        at-step Takes (slot_pulse (chosen a b path)) (k + 1 + 1) (λ _. rest a b) (omega arith) (λ _. subst (λ j. LeavesAt Takes j (rest a b)) e ih)

-- a pass is 201 steps
pub at-passes : (room pass : ℕ) (path : List Bool) (got : List ℕ) → pass + room ≤ suc most_places → LeavesAt Takes (201 * pass) (passes room (suc pass) path got)
at-passes zero pass path got h = ((λ _. let e : suc pass - 1 ≡ pass = omega arith in ap (λ n. 201 * n) (sym e)), (λ z. absurd (omega arith)), omega arith)
at-passes (suc room) pass path got h =
    at-step Takes reset_pulse (201 * pass) (after_reset room (suc pass) path got) (omega arith)
    (λ b. opened b (λ bs nx. on bs nx (λ p. at-passes room (suc pass) p (got ++ (value bs ∷ [])) (omega arith))))
  where
    lost : (k : ℕ) → k ≤ 201 * suc pass → LeavesAt Takes k (ret (bad 6 (suc pass), got))
    lost k h = ((λ e. absurd (omega arith)), (λ e. absurd (omega arith)), h)

    on : (bs : List Bool) (nx : NextPath) → ((p : List Bool) → LeavesAt Takes (201 * suc pass) (passes room (suc (suc pass)) p (got ++ (value bs ∷ [])))) → LeavesAt Takes (201 * suc pass) (going room (suc pass) got bs nx)
    on bs no_path ih = refl
    on bs (next_path p) ih = ih p

    opened : (b : Bool) → ((bs : List Bool) (nx : NextPath) → LeavesAt Takes (201 * suc pass) (going room (suc pass) got bs nx)) → LeavesAt Takes (201 * pass + 1) (after_reset room (suc pass) path got b)
    opened false g = ((λ e. absurd (omega arith)), (λ e. omega arith), omega arith)
    opened true g =
        at-send Takes (bits_of 8 0xF0) (201 * pass + 1) (seeks room (suc pass) path got) (omega arith)
        (at-triples (ret (bad 6 (suc pass), got)) (201 * suc pass) lost 64 (201 * pass + 1 + 8) path (going room (suc pass) got) (omega arith) (omega arith)
        (λ bs nx. let e : 201 * suc pass ≡ 201 * pass + 1 + 8 + 3 * 64 = omega arith in subst (λ j. LeavesAt Takes j (going room (suc pass) got bs nx)) e (g bs nx)))

pub room_most : (places : ℕ) → room_of places ≤ most_places
room_most places = omega arith

module _ (count steps : ℕ) (found : List ℕ) where
  abbrev Told : Report ℕ × List ℕ → Type 0
  Told a = (a ≡ (answered count steps, found)) ⊎ (a ≡ (refused_as 9 count steps, found))

  said : (g : Got Out) (n : ℕ) → GotAt Takes n g → Told (listed g n) → steps ≡ 201 * count
  said (done (good c, xs)) n h (inl q) =
      let u : ◌≡◌ {A = Report ℕ} (answered c n) (answered count steps) = ap (λ (p : Report ℕ × List ℕ). p.0) q in
      let a : c ≡ count = cc in let b : n ≡ steps = cc in sym b ∙ h ∙ ap (λ k. 201 * k) a
  said (done (good c, xs)) n h (inr q) =
      let u : ◌≡◌ {A = Report ℕ} (answered c n) (refused_as 9 count steps) = ap (λ (p : Report ℕ × List ℕ). p.0) q in
      let z : ◌≡◌ {A = ℕ} 0 1 = cc in absurd (omega arith)
  said (done (bad k e, xs)) n h (inl q) =
      let u : ◌≡◌ {A = Report ℕ} (refused_as k e n) (answered count steps) = ap (λ (p : Report ℕ × List ℕ). p.0) q in
      let z : ◌≡◌ {A = ℕ} 0 1 = cc in absurd (omega arith)
  said (done (bad k e, xs)) n h (inr q) =
      let u : ◌≡◌ {A = Report ℕ} (refused_as k e n) (refused_as 9 count steps) = ap (λ (p : Report ℕ × List ℕ). p.0) q in
      let a : e ≡ count = cc in let b : n ≡ steps = cc in let c : k ≡ 9 = cc in sym b ∙ h.0 c ∙ ap (λ k. 201 * k) a
  said line_busy n h (inl q) =
      let u : ◌≡◌ {A = Report ℕ} (refused_as 3 0 n) (answered count steps) = ap (λ (p : Report ℕ × List ℕ). p.0) q in
      let z : ◌≡◌ {A = ℕ} 0 1 = cc in absurd (omega arith)
  said line_busy n h (inr q) =
      let u : ◌≡◌ {A = Report ℕ} (refused_as 3 0 n) (refused_as 9 count steps) = ap (λ (p : Report ℕ × List ℕ). p.0) q in
      let z : ◌≡◌ {A = ℕ} 3 9 = cc in absurd (omega arith)

  none_said : Told (refused_as 9 0 0, []) → steps ≡ 201 * count
  none_said (inl q) =
      let u : ◌≡◌ {A = Report ℕ} (refused_as 9 0 0) (answered count steps) = ap (λ (p : Report ℕ × List ℕ). p.0) q in
      let z : ◌≡◌ {A = ℕ} 0 1 = cc in absurd (omega arith)
  none_said (inr q) =
      let u : ◌≡◌ {A = Report ℕ} (refused_as 9 0 0) (refused_as 9 count steps) = ap (λ (p : Report ℕ × List ℕ). p.0) q in
      let a : 0 ≡ count = cc in let b : 0 ≡ steps = cc in omega arith

pub search_steps : SearchSteps
search_steps r places count steps found h = go (eqb places 0) h
  where
    go : (t : Bool) → Told count steps found (elim t as (λ _. RigState × (Report ℕ × List ℕ)) [ true ↦ (r, (refused_as 9 0 0, [])) | false ↦ ((run 0 (passes (room_of places) 1 [] []) r).rig, listed (run 0 (passes (room_of places) 1 [] []) r).got (run 0 (passes (room_of places) 1 [] []) r).steps) ]).1 → steps ≡ 201 * count
    go true q = none_said count steps found q
    go false q =
        said count steps found (run 0 (passes (room_of places) 1 [] []) r).got (run 0 (passes (room_of places) 1 [] []) r).steps
        (leaves_at Takes 0 (passes (room_of places) 1 [] []) r (at-passes (room_of places) 0 [] [] (let m : room_of places ≤ most_places = room_most places in omega arith))) q

-- refused with 5, it made whole passes and one reset
module _ (pass steps : ℕ) (found : List ℕ) where
  said_absent : (g : Got Out) (n : ℕ) → GotAt Takes n g → listed g n ≡ (refused_as 5 pass steps, found) → steps ≡ 201 * (pass - 1) + 1
  said_absent (done (good c, xs)) n h q =
      let u : ◌≡◌ {A = Report ℕ} (answered c n) (refused_as 5 pass steps) = ap (λ (p : Report ℕ × List ℕ). p.0) q in
      let z : ◌≡◌ {A = ℕ} 0 1 = cc in absurd (omega arith)
  said_absent (done (bad k e, xs)) n h q =
      let u : ◌≡◌ {A = Report ℕ} (refused_as k e n) (refused_as 5 pass steps) = ap (λ (p : Report ℕ × List ℕ). p.0) q in
      let a : e ≡ pass = cc in let b : n ≡ steps = cc in let c : k ≡ 5 = cc in let d = h.1 c in omega (arith, a, b, d)
  said_absent line_busy n h q =
      let u : ◌≡◌ {A = Report ℕ} (refused_as 3 0 n) (refused_as 5 pass steps) = ap (λ (p : Report ℕ × List ℕ). p.0) q in
      let z : ◌≡◌ {A = ℕ} 3 5 = cc in absurd (omega arith)

  none_absent : ◌≡◌ {A = Report ℕ × List ℕ} (refused_as 9 0 0, []) (refused_as 5 pass steps, found) → steps ≡ 201 * (pass - 1) + 1
  none_absent q =
      let u : ◌≡◌ {A = Report ℕ} (refused_as 9 0 0) (refused_as 5 pass steps) = ap (λ (p : Report ℕ × List ℕ). p.0) q in
      let z : ◌≡◌ {A = ℕ} 9 5 = cc in absurd (omega arith)

pub absent_steps : AbsentSteps
absent_steps r places pass steps found h =
    pick (eqb places 0) (λ (a : RigState × (Report ℕ × List ℕ)). a.1 ≡ (refused_as 5 pass steps, found) → steps ≡ 201 * (pass - 1) + 1)
    (none_absent pass steps found)
    (said_absent pass steps found (run 0 (passes (room_of places) 1 [] []) r).got (run 0 (passes (room_of places) 1 [] []) r).steps
    (leaves_at Takes 0 (passes (room_of places) 1 [] []) r (at-passes (room_of places) 0 [] [] (let m : room_of places ≤ most_places = room_most places in omega arith)))) h

-- Passes against a line.
use Rattle.std.proofs.Common.{◌≡◌, ℕ, zero, suc, ◌-◌, ◌<◌, ◌≤◌, Bool, true, false, not, ◌&&◌, ◌||◌, ◌⊎◌, List, [], ◌∷◌, map, take, sym, refl, ap, ◌∙◌, subst, ap₂, subst₂, inl, inr, arith}
use mathlib.Core.Bool.{and-true}
use Rattle.std.proofs.lemmas.Bool.{true≢false, cases_lt}
use Rattle.base.specs.Bits.{same, bits_of}
use Rattle.base.proofs.Choice.{pick}
use Rattle.memory.specs.Memories.{Memory, protocols}
use Rattle.memory.proofs.Calm.{selected_free}
use Rattle.chip.specs.Chips.{on, SearchPart, rom_bit, complement, direction, idle, searching, after_agreed}
use Rattle.chip.specs.ChipStates.{ChipState, made_chip, has_power, is_busy, take_bit}
use Rattle.line.specs.Lines.{pull, any_busy}
use Rattle.rig.specs.Rigs.{Pulse, slot_pulse, answer_if_cut}
use Rattle.wire.proofs.Power.{dead_run}
use Rattle.wire.proofs.Cuts.{CutSafe}
use Rattle.wire.proofs.Calm.{Unrefused}
use Rattle.wire.specs.Jobs.{Job, step}
use Rattle.wire.proofs.Leading.{Leads, leads_then, leads_none, leads_step}
use Rattle.wire.proofs.Alone.{QuietLive, quiet}
use Rattle.rom_search.specs.Searches.{NextPath, no_path, onward, tail_of, chosen, triples}
use Rattle.rom_search.proofs.Enumerate.{Rests, is_nil, branch, found, next, Valid, Uniform, uniform_branch, taken, forked, valid_on}

-- a chip during a pass: quiet, or with these bits still to go
pub data Searcher : Type 0 where
  silent : (c : ChipState) → QuietLive c.live → Searcher
  going : ℕ → Memory → Bool → List Bool → Searcher  -- number, memory, RC

abbrev pub rests : List Searcher → Rests
rests [] = []
rests (silent c q ∷ D) = rests D
rests (going x m rc bs ∷ D) = bs ∷ rests D

-- where it stands within a bit
abbrev pub chip_at : SearchPart → ℕ → Memory → Bool → List Bool → ChipState
chip_at rom_bit x m rc bs = after_agreed protocols bs (searching rom_bit bs) rc (made_chip x m)
chip_at complement x m rc bs = record { number = x; live = on rc (searching complement bs); memory = m }
chip_at direction x m rc bs = record { number = x; live = on rc (searching direction bs); memory = m }

abbrev pub place : SearchPart → Searcher → ChipState
place t (silent c q) = c
place t (going x m rc bs) = chip_at t x m rc bs

abbrev pub line_at : SearchPart → List Searcher → List ChipState
line_at t D = map (place t) D

-- the chips left after the master took t
abbrev narrow1 : Bool → Searcher → Searcher
narrow1 t (silent c q) = silent c q
narrow1 t (going x m rc []) = silent (record { number = x; live = on rc idle; memory = m }) tt
narrow1 t (going x m rc (b ∷ bs)) = elim (same b t) [ true ↦ going x m rc bs | false ↦ silent (record { number = x; live = on rc idle; memory = m }) tt ]

abbrev pub narrow : Bool → List Searcher → List Searcher
narrow t D = map (narrow1 t) D

rests_narrow : (t : Bool) (n : ℕ) (D : List Searcher) → Uniform (suc n) (rests D) → rests (narrow t D) ≡ branch t (rests D)
rests_narrow t n [] u = refl
rests_narrow t n (silent c q ∷ D) u = rests_narrow t n D u
rests_narrow t n (going x m rc [] ∷ D) u = absurd u
rests_narrow t n (going x m rc (b ∷ bs) ∷ D) u =
    elim (same b t) as (λ z. rests (elim z as (λ _. Searcher) [ true ↦ going x m rc bs | false ↦ silent (record { number = x; live = on rc idle; memory = m }) tt ] ∷ narrow t D) ≡ elim z [ true ↦ bs ∷ branch t (rests D) | false ↦ branch t (rests D) ]) [
      | true ↦ ap (λ l. bs ∷ l) (rests_narrow t n D u.1)
      | false ↦ rests_narrow t n D u.1
    ]

-- what the three slots do
pull_first : (n : ℕ) (D : List Searcher) → Uniform (suc n) (rests D) → pull (line_at rom_bit D) ≡ is_nil (branch false (rests D))
pull_first n [] u = refl
pull_first n (silent c q ∷ D) u = ap₂ (λ a b. a && b) (quiet true c q).1 (pull_first n D u)
pull_first n (going x m rc [] ∷ D) u = absurd u
pull_first n (going x m rc (true ∷ bs) ∷ D) u = pull_first n D u.1
pull_first n (going x m rc (false ∷ bs) ∷ D) u = refl

pull_second : (n : ℕ) (D : List Searcher) → Uniform (suc n) (rests D) → pull (line_at complement D) ≡ is_nil (branch true (rests D))
pull_second n [] u = refl
pull_second n (silent c q ∷ D) u = ap₂ (λ a b. a && b) (quiet true c q).1 (pull_second n D u)
pull_second n (going x m rc [] ∷ D) u = absurd u
pull_second n (going x m rc (true ∷ bs) ∷ D) u = refl
pull_second n (going x m rc (false ∷ bs) ∷ D) u = pull_second n D u.1

pull_third : (D : List Searcher) → pull (line_at direction D) ≡ true
pull_third [] = refl
pull_third (silent c q ∷ D) = ap₂ (λ a b. a && b) (quiet true c q).1 (pull_third D)
pull_third (going x m rc bs ∷ D) = pull_third D

take-silent : (b : Bool) (c : ChipState) (q : QuietLive c.live) → take_bit b c ≡ c
take-silent b c q = (quiet b c q).0

take_first : (b : Bool) (n : ℕ) (D : List Searcher) → Uniform (suc n) (rests D) → map (take_bit b) (line_at rom_bit D) ≡ line_at complement D
take_first b n [] u = refl
take_first b n (silent c q ∷ D) u = ap₂ (λ d l. d ∷ l) (take-silent b c q) (take_first b n D u)
take_first b n (going x m rc [] ∷ D) u = absurd u
take_first b n (going x m rc (y ∷ ys) ∷ D) u = ap (λ l. place complement (going x m rc (y ∷ ys)) ∷ l) (take_first b n D u.1)

take_second : (b : Bool) (n : ℕ) (D : List Searcher) → Uniform (suc n) (rests D) → map (take_bit b) (line_at complement D) ≡ line_at direction D
take_second b n [] u = refl
take_second b n (silent c q ∷ D) u = ap₂ (λ d l. d ∷ l) (take-silent b c q) (take_second b n D u)
take_second b n (going x m rc [] ∷ D) u = absurd u
take_second b n (going x m rc (y ∷ ys) ∷ D) u = ap (λ l. place direction (going x m rc (y ∷ ys)) ∷ l) (take_second b n D u.1)

take_third : (t : Bool) (n : ℕ) (D : List Searcher) → Uniform (suc n) (rests D) → map (take_bit t) (line_at direction D) ≡ line_at rom_bit (narrow t D)
take_third t n [] u = refl
take_third t n (silent c q ∷ D) u = ap₂ (λ d l. d ∷ l) (take-silent t c q) (take_third t n D u)
take_third t n (going x m rc [] ∷ D) u = absurd u
take_third t n (going x m rc (y ∷ ys) ∷ D) u =
    ap₂ (λ d l. d ∷ l)
    (elim (same y t) as (λ z. ◌≡◌ {A = ChipState} (elim z as (λ _. ChipState) [ true ↦ chip_at rom_bit x m rc ys | false ↦ record { number = x; live = on rc idle; memory = m } ]) (place rom_bit (elim z as (λ _. Searcher) [ true ↦ going x m rc ys | false ↦ silent (record { number = x; live = on rc idle; memory = m }) tt ]))) [ true ↦ refl | false ↦ refl ])
    (take_third t n D u.1)

any_busy-at : (h : SearchPart) (n : ℕ) (D : List Searcher) → Uniform (suc n) (rests D) → any_busy (line_at h D) ≡ false
any_busy-at h n [] u = refl
any_busy-at h n (silent c q ∷ D) u = ap₂ (λ a b. a || b) (quiet true c q).2 (any_busy-at h n D u)
any_busy-at h n (going x m rc [] ∷ D) u = absurd u
any_busy-at rom_bit n (going x m rc (y ∷ ys) ∷ D) u = any_busy-at rom_bit n D u.1
any_busy-at complement n (going x m rc (y ∷ ys) ∷ D) u = any_busy-at complement n D u.1
any_busy-at direction n (going x m rc (y ∷ ys) ∷ D) u = any_busy-at direction n D u.1

-- the numbers of the powered chips, as bits
abbrev pub bits_on : Bool → ℕ → Rests → Rests
bits_on true x S = bits_of 64 x ∷ S
bits_on false x S = S

abbrev pub here : List ChipState → Rests
here [] = []
here (c ∷ cs) = bits_on (has_power c) c.number (here cs)

standing : (x : ℕ) (m : Memory) (rc : Bool) (bs : List Bool) → (has_power (chip_at rom_bit x m rc bs) ≡ true) × (is_busy (chip_at rom_bit x m rc bs) ≡ false) × ((chip_at rom_bit x m rc bs).number ≡ x)
standing x m rc [] = (refl, selected_free m, refl)
standing x m rc (b ∷ bs) = (refl, refl, refl)

pub busy_any : (D : List Searcher) → any_busy (line_at rom_bit D) ≡ false
busy_any [] = refl
busy_any (silent c q ∷ D) = ap₂ (λ a b. a || b) (quiet true c q).2 (busy_any D)
busy_any (going x m rc bs ∷ D) = ap₂ (λ a b. a || b) (standing x m rc bs).1 (busy_any D)

here_narrow : (t : Bool) (n : ℕ) (D : List Searcher) → Uniform (suc n) (rests D) → here (line_at rom_bit (narrow t D)) ≡ here (line_at rom_bit D)
here_narrow t n [] u = refl
here_narrow t n (silent c q ∷ D) u = ap (bits_on (has_power c) c.number) (here_narrow t n D u)
here_narrow t n (going x m rc [] ∷ D) u = absurd u
here_narrow t n (going x m rc (y ∷ ys) ∷ D) u =
    elim (same y t) as (λ z. here (place rom_bit (elim z [ true ↦ going x m rc ys | false ↦ silent (record { number = x; live = on rc idle; memory = m }) tt ]) ∷ line_at rom_bit (narrow t D)) ≡ bits_of 64 x ∷ here (line_at rom_bit D)) [
      | true ↦ ap (λ k. bits_on (has_power (chip_at rom_bit x m rc ys)) k (here (line_at rom_bit (narrow t D)))) (standing x m rc ys).2 ∙ ap₂ (λ p S. bits_on p x S) (standing x m rc ys).0 (here_narrow t n D u.1)
      | false ↦ ap (λ S. bits_of 64 x ∷ S) (here_narrow t n D u.1)
    ]

module _ {A : Type 0} (lost : Job A) where
  abbrev third : ℕ → List Bool → (List Bool → NextPath → Job A) → Bool → Bool → Bool → Job A
  third n path k a b z =
      elim z [
        | true ↦ lost
        | false ↦ let t = chosen a b path in
            step (slot_pulse t) (λ _. triples lost n (tail_of path) (λ bs nx. k (t ∷ bs) (onward (not a && not b && not t) t nx)))
      ]

  abbrev second : ℕ → List Bool → (List Bool → NextPath → Job A) → Bool → Job A
  second n path k a = step (slot_pulse true) (λ b. third n path k a b (a && b))

  -- one triple
  triple : (n : ℕ) (path : List Bool) (k : List Bool → NextPath → Job A) (D : List Searcher) → Uniform (suc n) (rests D) → (is_nil (branch false (rests D)) && is_nil (branch true (rests D))) ≡ false
      → Leads (triples lost (suc n) path k) (line_at rom_bit D)
      (triples lost n (tail_of path) (λ bs nx. k (taken path (rests D) ∷ bs) (onward (forked path (rests D)) (taken path (rests D)) nx))) (line_at rom_bit (narrow (taken path (rests D)) D))
  triple n path k D u e = leads_then s1 (leads_then s2 (leads_then s2' s3))
    where
      s1 : Leads (triples lost (suc n) path k) (line_at rom_bit D) (second n path k (is_nil (branch false (rests D)))) (line_at complement D)
      s1 = subst₂ (λ a l. Leads (triples lost (suc n) path k) (line_at rom_bit D) (second n path k a) l) (pull_first n D u) (take_first (pull (line_at rom_bit D)) n D u)
          (leads_step (slot_pulse true) (second n path k) (line_at rom_bit D) (any_busy-at rom_bit n D u))

      s2 : Leads (second n path k (is_nil (branch false (rests D)))) (line_at complement D)
          (third n path k (is_nil (branch false (rests D))) (is_nil (branch true (rests D))) (is_nil (branch false (rests D)) && is_nil (branch true (rests D)))) (line_at direction D)
      s2 = subst₂ (λ b l. Leads (second n path k (is_nil (branch false (rests D)))) (line_at complement D) (third n path k (is_nil (branch false (rests D))) b (is_nil (branch false (rests D)) && b)) l) (pull_second n D u) (take_second (pull (line_at complement D)) n D u)
          (leads_step (slot_pulse true) (λ b. third n path k (is_nil (branch false (rests D))) b (is_nil (branch false (rests D)) && b)) (line_at complement D) (any_busy-at complement n D u))

      s2' : Leads (third n path k (is_nil (branch false (rests D))) (is_nil (branch true (rests D))) (is_nil (branch false (rests D)) && is_nil (branch true (rests D)))) (line_at direction D)
          (third n path k (is_nil (branch false (rests D))) (is_nil (branch true (rests D))) false) (line_at direction D)
      s2' = subst (λ z. Leads (third n path k (is_nil (branch false (rests D))) (is_nil (branch true (rests D))) z) (line_at direction D) (third n path k (is_nil (branch false (rests D))) (is_nil (branch true (rests D))) false) (line_at direction D)) (sym e) leads_none

      s3 : Leads (third n path k (is_nil (branch false (rests D))) (is_nil (branch true (rests D))) false) (line_at direction D)
          (triples lost n (tail_of path) (λ bs nx. k (taken path (rests D) ∷ bs) (onward (forked path (rests D)) (taken path (rests D)) nx))) (line_at rom_bit (narrow (taken path (rests D)) D))
      s3 = subst (λ l. Leads (third n path k (is_nil (branch false (rests D))) (is_nil (branch true (rests D))) false) (line_at direction D) (triples lost n (tail_of path) (λ bs nx. k (taken path (rests D) ∷ bs) (onward (forked path (rests D)) (taken path (rests D)) nx))) l)
          (ap (λ y. map (take_bit y) (line_at direction D)) (ap (λ y. taken path (rests D) && y) (pull_third D) ∙ and-true (taken path (rests D))) ∙ take_third (taken path (rests D)) n D u)
          (leads_step (slot_pulse (taken path (rests D))) (λ _. triples lost n (tail_of path) (λ bs nx. k (taken path (rests D) ∷ bs) (onward (forked path (rests D)) (taken path (rests D)) nx))) (line_at direction D) (any_busy-at direction n D u))

  -- all the triples of a pass
  pub pass_line : (n : ℕ) (path : List Bool) (k : List Bool → NextPath → Job A) (D : List Searcher) → Uniform n (rests D) → Valid n path (rests D)
      → (D' : List Searcher) × Leads (triples lost n path k) (line_at rom_bit D) (k (found n path (rests D)) (next n path (rests D))) (line_at rom_bit D') × (here (line_at rom_bit D') ≡ here (line_at rom_bit D))
  pass_line zero path k D u v = (D, leads_none, refl)
  pass_line (suc n) path k D u v =
      let w = valid_on n path (rests D) u v in
      let t = taken path (rests D) in
      let e = rests_narrow t n D u in
      let h = pass_line n (tail_of path) (λ bs nx. k (t ∷ bs) (onward (forked path (rests D)) t nx)) (narrow t D)
      (subst (Uniform n) (sym e) (uniform_branch t n (rests D) u)) (subst (Valid n (tail_of path)) (sym e) w.0) in (
        h.0,
        leads_then (triple n path k D u w.1)
            (subst (λ S. Leads (triples lost n (tail_of path) (λ bs nx. k (t ∷ bs) (onward (forked path (rests D)) t nx))) (line_at rom_bit (narrow t D)) (k (t ∷ found n (tail_of path) S) (onward (forked path (rests D)) t (next n (tail_of path) S))) (line_at rom_bit h.0)) e h.1),
        h.2 ∙ here_narrow t n D u,
      )

-- no slot of the triples is refused, whatever they read
module _ {A : Type 0} (lost : Job A) (un-lost : (l : List ChipState) → Unrefused lost l) where
  pub unrefused_triples : (n : ℕ) (path : List Bool) (k : List Bool → NextPath → Job A) (D : List Searcher) → Uniform n (rests D)
      → ((bs : List Bool) (nx : NextPath) (D' : List Searcher) → Unrefused (k bs nx) (line_at rom_bit D')) → Unrefused (triples lost n path k) (line_at rom_bit D)
  unrefused_triples zero path k D u h = h [] no_path D
  unrefused_triples (suc n) path k D u h =
      let a = pull (line_at rom_bit D) in
      let b = pull (line_at complement D) in
      let t = chosen a b path in
      let y = t && pull (line_at direction D) in (
        any_busy-at rom_bit n D u,
        subst (Unrefused (second lost n path k a)) (sym (take_first a n D u)) (
          any_busy-at complement n D u,
          subst (Unrefused (third lost n path k a b (a && b))) (sym (take_second b n D u))
              (pick (a && b) (λ (j : Job A). Unrefused j (line_at direction D)) (un-lost (line_at direction D)) (
                any_busy-at direction n D u,
                subst (Unrefused (triples lost n (tail_of path) (λ bs nx. k (t ∷ bs) (onward (not a && not b && not t) t nx)))) (sym (take_third y n D u))
                    (unrefused_triples n (tail_of path) (λ bs nx. k (t ∷ bs) (onward (not a && not b && not t) t nx)) (narrow y D)
                    (subst (Uniform n) (sym (rests_narrow y n D u)) (uniform_branch y n (rests D) u)) (λ bs nx D'. h (t ∷ bs) (onward (not a && not b && not t) t nx) D')),
              )),
        ),
      )

-- numbers whose first bits, all but eight, say the rest
abbrev pub In : List Bool → Rests → Type 0
In y [] = ⊥
In y (s ∷ S) = (y ≡ s) ⊎ In y S

abbrev pub Determined : ℕ → Rests → Type 0
Determined n S = (y z : List Bool) → In y S → In z S → take (n - 8) y ≡ take (n - 8) z → y ≡ z

pub same_is : (a b : Bool) → same a b ≡ true → a ≡ b
same_is true true e = refl
same_is true false e = sym e
same_is false true e = e
same_is false false e = refl

pub in_branch : (b : Bool) (y : List Bool) (S : Rests) → In y (branch b S) → In (b ∷ y) S
in_branch b y [] h = absurd h
in_branch b y ([] ∷ S) h = inr (in_branch b y S h)
in_branch b y ((x ∷ xs) ∷ S) h = go (same x b) refl h (in_branch b y S)
  where
    go : (t : Bool) → same x b ≡ t → In y (elim t as (λ _. Rests) [ true ↦ xs ∷ branch b S | false ↦ branch b S ]) → (In y (branch b S) → In (b ∷ y) S) → In (b ∷ y) ((x ∷ xs) ∷ S)
    go true e (inl q) f = inl (ap₂ (λ a l. a ∷ l) (sym (same_is x b e)) q)
    go true e (inr g) f = inr (f g)
    go false e g f = inr (f g)

tail_same : (b : Bool) (y z : List Bool) → b ∷ y ≡ b ∷ z → y ≡ z
tail_same b y z e = cc

determined_branch : (b : Bool) (n : ℕ) (S : Rests) → Determined (suc n) S → Determined n (branch b S)
determined_branch b n S d y z hy hz e =
    tail_same b y z (d (b ∷ y) (b ∷ z) (in_branch b y S hy) (in_branch b z S hz) (front (cases_lt n 8)))
  where
    front : (n < 8) ⊎ (8 ≤ n) → take (suc n - 8) (b ∷ y) ≡ take (suc n - 8) (b ∷ z)
    front (inl h) = let k : suc n - 8 ≡ 0 = omega arith in ap (λ j. take j (b ∷ y)) k ∙ sym (ap (λ j. take j (b ∷ z)) k)
    front (inr h) =
        let k : suc n - 8 ≡ suc (n - 8) = omega arith in
        ap (λ j. take j (b ∷ y)) k ∙ ap (λ l. b ∷ l) e ∙ sym (ap (λ j. take j (b ∷ z)) k)

some_in : (S : Rests) → is_nil S ≡ false → (y : List Bool) × In y S
some_in [] e = absurd (true≢false e)
some_in (s ∷ S) e = (s, inl refl)

heads : (a b : Bool) (y z : List Bool) → a ∷ y ≡ b ∷ z → a ≡ b
heads a b y z e = cc

-- at the last bit nobody has the other one
last_one : (S : Rests) → Uniform 1 S → Determined 1 S → is_nil (branch false S) ≡ false → is_nil (branch true S) ≡ true
last_one S u d e = go (is_nil (branch true S)) refl
  where
    go : (t : Bool) → is_nil (branch true S) ≡ t → t ≡ true
    go true q = refl
    go false q =
        let y = some_in (branch false S) e in
        let z = some_in (branch true S) q in
        let b : false ∷ y.0 ≡ true ∷ z.0 = d (false ∷ y.0) (true ∷ z.0) (in_branch false y.0 S y.1) (in_branch true z.0 S z.1) refl in
        absurd (true≢false (sym (heads false true y.0 z.0 b)))

module _ {A : Type 0} (P : A → Type 0) (lost : Job A) (pl : P (dead_run lost)) where
  -- triples that nobody answers
  pub dead_triples : (n : ℕ) (path : List Bool) (k : List Bool → NextPath → Job A) → (n ≡ 0 → P (dead_run (k [] no_path))) → P (dead_run (triples lost n path k))
  unfolding dead_run
  dead_triples zero path k h = h refl
  dead_triples (suc n) path k h = pl

  dead_first : (n : ℕ) (path : List Bool) (k : List Bool → NextPath → Job A) → P (dead_run (second lost n path k true))
  unfolding dead_run
  dead_first n path k = pl

  dead_step : (p : Pulse) (k : Bool → Job A) → P (dead_run (k (answer_if_cut p))) → P (dead_run (step p k))
  unfolding dead_run
  dead_step p k h = h

  -- the third slot is cut
  cut_third : (n : ℕ) (path : List Bool) (k : List Bool → NextPath → Job A) (S : Rests) → P (dead_run (k (found (suc n) path S) (next (suc n) path S)))
      → P (dead_run (triples lost n (tail_of path) (λ bs nx. k (taken path S ∷ bs) (onward (forked path S) (taken path S) nx))))
  cut_third zero path k S h = dead_triples zero (tail_of path) (λ bs nx. k (taken path S ∷ bs) (onward (forked path S) (taken path S) nx)) (λ _. h)
  cut_third (suc n) path k S h = dead_triples (suc n) (tail_of path) (λ bs nx. k (taken path S ∷ bs) (onward (forked path S) (taken path S) nx)) (λ z. absurd (omega arith))

  -- the second is: where the first said 0, that is the bit at the last place
  low_taken : (path : List Bool) (S : Rests) → is_nil (branch false S) ≡ false → is_nil (branch true S) ≡ true → taken path S ≡ false
  low_taken path S e q = ap₂ (λ a b. chosen a b path) e q

  low_next : (path : List Bool) (S : Rests) → is_nil (branch false S) ≡ false → is_nil (branch true S) ≡ true → next 1 path S ≡ no_path
  low_next path S e q = ap₂ (λ a b. onward (not a && not b && not (chosen a b path)) (chosen a b path) no_path) e q

  cut_second : (n : ℕ) (path : List Bool) (k : List Bool → NextPath → Job A) (S : Rests) → Uniform (suc n) S → Determined (suc n) S → P (dead_run (k (found (suc n) path S) (next (suc n) path S)))
      → P (dead_run (third lost n path k (is_nil (branch false S)) true (is_nil (branch false S) && true)))
  cut_second n path k S u d h = go n u d h (is_nil (branch false S)) refl
    where
      after_low : (m : ℕ) → Uniform (suc m) S → Determined (suc m) S → P (dead_run (k (found (suc m) path S) (next (suc m) path S))) → is_nil (branch false S) ≡ false
          → P (dead_run (triples lost m (tail_of path) (λ bs nx. k (false ∷ bs) (onward false false nx))))
      after_low zero u' d' h' e =
          dead_triples zero (tail_of path) (λ bs nx. k (false ∷ bs) (onward false false nx))
          (λ _. subst₂ (λ b nx. P (dead_run (k (b ∷ []) nx))) (low_taken path S e (last_one S u' d' e)) (low_next path S e (last_one S u' d' e)) h')
      after_low (suc m) u' d' h' e = dead_triples (suc m) (tail_of path) (λ bs nx. k (false ∷ bs) (onward false false nx)) (λ z. absurd (omega arith))

      go : (m : ℕ) → Uniform (suc m) S → Determined (suc m) S → P (dead_run (k (found (suc m) path S) (next (suc m) path S))) → (a : Bool) → is_nil (branch false S) ≡ a → P (dead_run (third lost m path k a true (a && true)))
      go m u' d' h' true e = pl
      go m u' d' h' false e = dead_step (slot_pulse false) (λ _. triples lost m (tail_of path) (λ bs nx. k (false ∷ bs) (onward false false nx))) (after_low m u' d' h' e)

  -- a pass, whichever step of it is cut: what k makes of the number found decides
  pub pass_safe : (n : ℕ) (path : List Bool) (k : List Bool → NextPath → Job A) (D : List Searcher) → Uniform n (rests D) → Valid n path (rests D) → Determined n (rests D)
      → P (dead_run (k (found n path (rests D)) (next n path (rests D))))
      → ((D' : List Searcher) → here (line_at rom_bit D') ≡ here (line_at rom_bit D) → CutSafe P (k (found n path (rests D)) (next n path (rests D))) (line_at rom_bit D'))
      → CutSafe P (triples lost n path k) (line_at rom_bit D)
  pass_safe zero path k D u v d h g = g D refl
  pass_safe (suc n) path k D u v d h g =
      let S = rests D in
      let w = valid_on n path S u v in
      let t = taken path S in
      let a = is_nil (branch false S) in
      let e = rests_narrow t n D u in (
        any_busy-at rom_bit n D u,
        dead_first n path k,
        subst₂ (λ x l. CutSafe P (second lost n path k x) l) (sym (pull_first n D u)) (sym (take_first (pull (line_at rom_bit D)) n D u)) (
          any_busy-at complement n D u,
          cut_second n path k S u d h,
          subst₂ (λ b l. CutSafe P (third lost n path k a b (a && b)) l) (sym (pull_second n D u)) (sym (take_second (pull (line_at complement D)) n D u))
              (subst (λ z. CutSafe P (third lost n path k a (is_nil (branch true S)) z) (line_at direction D)) (sym w.1) (
                any_busy-at direction n D u,
                cut_third n path k S h,
                subst (λ l. CutSafe P (triples lost n (tail_of path) (λ bs nx. k (t ∷ bs) (onward (forked path S) t nx))) l)
                    (sym (ap (λ y. map (take_bit y) (line_at direction D)) (ap (λ y. t && y) (pull_third D) ∙ and-true t) ∙ take_third t n D u))
                    (pass_safe n (tail_of path) (λ bs nx. k (t ∷ bs) (onward (forked path S) t nx)) (narrow t D)
                    (subst (Uniform n) (sym e) (uniform_branch t n S u)) (subst (Valid n (tail_of path)) (sym e) w.0) (subst (Determined n) (sym e) (determined_branch t n S d))
                    (subst (λ S'. P (dead_run (k (t ∷ found n (tail_of path) S') (onward (forked path S) t (next n (tail_of path) S'))))) (sym e) h)
                    (λ D' q. subst (λ S'. CutSafe P (k (t ∷ found n (tail_of path) S') (onward (forked path S) t (next n (tail_of path) S'))) (line_at rom_bit D')) (sym e) (g D' (q ∙ here_narrow t n D u)))),
              )),
        ),
      )

-- One triple more of a pass.
use Rattle.std.proofs.Common.{◌≡◌, ℕ, zero, suc, ◌-◌, ◌/◌, ◌≤◌, Bool, true, false, not, ◌&&◌, List, [], ◌∷◌, length, Some, None, Ok, Err, Option, sym, refl, ap, ◌∙◌, ap₂, subst, arith}
use mathlib.Core.Path.{fun_ext}
use Rattle.std.specs.Option.{option_map}
use Rattle.base.specs.Bits.{bits_of, value, odd}
use Rattle.rig.specs.Rigs.{slot_pulse}
use Rattle.wire.specs.Jobs.{Job, ret, step}
use Rattle.rom_search.specs.Searches.{triples, NextPath, no_path, next_path, onward, chosen, tail_of}
use Rattle.rig.specs.RigModel.{Counting, counted_pulse}
use Rattle.rig.specs.declared.rig_fault.RigFault.{RigFault}
use Rattle.wire.specs.Outcomes.{does}
use Rattle.wire.proofs.Steps.{does-ret, step_ok, step_err}
use Rattle.rom_search.specs.Triplets.{triplet_of, direction_taken, turns, shift64, after_triplet, path_word, triplets_along}
use Rattle.rom_search.specs.declared.triplets.Triplet.{Triplet}
use Rattle.rom_search.specs.declared.triplets.Triplet.TheVariants.{Only, Both}
use Rattle.rom_search.specs.declared.triplets.Pass.{Pass}
use Rattle.rom_search.specs.declared.triplets.PassState.{PassState}
use Rattle.rom_search.proofs.Words.{gather, passed, turned, turned_more, path_rest, gather_value, gather_next, halve}

abbrev pub Fits : ℕ → NextPath → Type 0
Fits n no_path = Unit {0}
Fits n (next_path ps) = length ps ≤ n

pub fits_more : (n : ℕ) (f t : Bool) (nx : NextPath) → Fits n nx → Fits (suc n) (onward f t nx)
fits_more n f t (next_path ps) h = omega (arith, h)
fits_more n true t no_path h = omega arith
fits_more n false t no_path h = tt

module _ {A : Type 0} (lost : Job A) where
  triples_ext : (n : ℕ) (path : List Bool) (k k' : List Bool → NextPath → Job A) → ((bs : List Bool) (nx : NextPath) → length bs ≡ n → Fits n nx → k bs nx ≡ k' bs nx) → triples lost n path k ≡ triples lost n path k'
  triples_ext zero path k k' h = h [] no_path refl tt
  triples_ext (suc n) path k k' h =
      ap (step (slot_pulse true)) (fun_ext (λ a. ap (step (slot_pulse true)) (fun_ext (λ b.
      ap (λ q. elim (a && b) as (λ _. Job A) [ true ↦ lost | false ↦ step (slot_pulse (chosen a b path)) (λ _. q) ])
      (triples_ext n (tail_of path) (λ bs nx. k (chosen a b path ∷ bs) (onward (not a && not b && not (chosen a b path)) (chosen a b path) nx)) (λ bs nx. k' (chosen a b path ∷ bs) (onward (not a && not b && not (chosen a b path)) (chosen a b path) nx))
      (λ bs nx e f. h (chosen a b path ∷ bs) (onward (not a && not b && not (chosen a b path)) (chosen a b path) nx) (ap suc e) (fits_more n (not a && not b && not (chosen a b path)) (chosen a b path) nx f)))))))

abbrev ends : ℕ → Option ℕ → Job (Option Pass)
ends x y = ret (Some (passed x y))

pub path_start : (start : ℕ) → path_rest 64 (record { path = start; number = 0; next = None }) ≡ triplets_along start
unfolding triplets_along
path_start start = triples_ext (ret None) 64 (bits_of 64 start) _ _ same
  where
    next : (nx : NextPath) → Fits 64 nx → turned 64 0 None nx ≡ path_word nx
    next no_path f = refl
    next (next_path ps) f = ap Some (gather_next (64 - length ps) ps (omega (arith, f)))

    same : (bs : List Bool) (nx : NextPath) → length bs ≡ 64 → Fits 64 nx → ends (gather 0 bs) (turned 64 0 None nx) ≡ ends (value bs) (path_word nx)
    same bs nx e f = ap₂ ends (gather_value bs e) (next nx f)

pub path_done : (s : PassState) (d : Counting) → (d, Ok (Some (passed s.number s.next))) ≡ does (path_rest 0 s) d
path_done s d = ap (λ o. (d, Ok (Some (passed s.number o)))) (same s.next) ∙ sym (does-ret (Some (passed s.number (option_map (halve 0) s.next))) d)
  where
    same : (o : Option ℕ) → o ≡ option_map (halve 0) o
    same None = refl
    same (Some w) = refl

-- of two slots that were answered, whether nobody answered, which bit is taken, and whether the next way turns
nobody : (a b : Bool) → triplet_of a b ≡ None → (a && b) ≡ true
nobody true true e = refl
nobody true false e = absurd (let z : ◌≡◌ {A = ℕ} 0 1 = cc in omega arith)
nobody false true e = absurd (let z : ◌≡◌ {A = ℕ} 0 1 = cc in omega arith)
nobody false false e = absurd (let z : ◌≡◌ {A = ℕ} 0 1 = cc in omega arith)

record Known (a b : Bool) (path : List Bool) (m : Triplet) (h : Bool) : Type 0 where
  some : (a && b) ≡ false
  picked : chosen a b path ≡ direction_taken m h
  turning : (not a && not b && not (direction_taken m h)) ≡ turns m (direction_taken m h)

known : (a b : Bool) (n w : ℕ) (m : Triplet) → triplet_of a b ≡ Some m → Known a b (bits_of (suc n) w) m (odd w)
known true true n w m e = absurd (let z : ◌≡◌ {A = ℕ} 0 1 = cc in omega arith)
known true false n w m e = let q : Only true ≡ m = cc in subst (λ m. Known true false (bits_of (suc n) w) m (odd w)) q (record { some = refl; picked = refl; turning = refl })
known false true n w m e = let q : Only false ≡ m = cc in subst (λ m. Known false true (bits_of (suc n) w) m (odd w)) q (record { some = refl; picked = refl; turning = refl })
known false false n w m e = let q : Both ≡ m = cc in subst (λ m. Known false false (bits_of (suc n) w) m (odd w)) q (record { some = refl; picked = refl; turning = refl })

module _ (n : ℕ) (s : PassState) (d : Counting) where
  -- after the third slot, with the bit t taken
  abbrev rest : Bool → Bool → Job (Option Pass)
  rest f t = triples (ret None) n (bits_of n (s.path / 2)) (λ bs nx. ends (gather (shift64 s.number t) bs) (turned (suc n) s.number s.next (onward f t nx)))

  abbrev path : List Bool
  path = bits_of (suc n) s.path

  abbrev third : Bool → Bool → Bool → Job (Option Pass)
  third a b lost = elim lost as (λ _. Job (Option Pass)) [ true ↦ ret None | false ↦ step (slot_pulse (chosen a b path)) (λ _. rest (not a && not b && not (chosen a b path)) (chosen a b path)) ]

  abbrev second : Bool → Job (Option Pass)
  second a = step (slot_pulse true) (λ b. third a b (a && b))

  pub walk_err1 : {d1 : Counting} {x : RigFault} → (d1, Err x) ≡ counted_pulse (slot_pulse true) d → does (path_rest (suc n) s) d ≡ (d1, Err x)
  walk_err1 e = step_err (slot_pulse true) second d e

  module _ {d1 : Counting} {a : Bool} (e1 : (d1, Ok a) ≡ counted_pulse (slot_pulse true) d) where
    pub walk_err2 : {d2 : Counting} {x : RigFault} → (d2, Err x) ≡ counted_pulse (slot_pulse true) d1 → does (path_rest (suc n) s) d ≡ (d2, Err x)
    walk_err2 e = step_ok (slot_pulse true) second d e1 ∙ step_err (slot_pulse true) (λ b. third a b (a && b)) d1 e

    module _ {d2 : Counting} {b : Bool} (e2 : (d2, Ok b) ≡ counted_pulse (slot_pulse true) d1) where
      two : does (path_rest (suc n) s) d ≡ does (third a b (a && b)) d2
      two = step_ok (slot_pulse true) second d e1 ∙ step_ok (slot_pulse true) (λ b. third a b (a && b)) d1 e2

      pub path_lost : None ≡ triplet_of a b → does (path_rest (suc n) s) d ≡ (d2, Ok None)
      path_lost h = two ∙ ap (λ l. does (third a b l) d2) (nobody a b (sym h)) ∙ does-ret None d2

      module _ {m : Triplet} {t : Bool} (h : Some m ≡ triplet_of a b) (p : t ≡ direction_taken m (odd s.path)) where
        to_third : does (path_rest (suc n) s) d ≡ does (step (slot_pulse t) (λ _. rest (turns m t) t)) d2
        to_third =
            let k = known a b n s.path m (sym h) in
            two ∙ ap (λ l. does (third a b l) d2) k.some
            ∙ ap (λ t. does (step (slot_pulse t) (λ _. rest (not a && not b && not t) t)) d2) k.picked
            ∙ ap (λ f. does (step (slot_pulse (direction_taken m (odd s.path))) (λ _. rest f (direction_taken m (odd s.path)))) d2) k.turning
            ∙ ap (λ t. does (step (slot_pulse t) (λ _. rest (turns m t) t)) d2) (sym p)

        pub walk_err3 : {d3 : Counting} {x : RigFault} → (d3, Err x) ≡ counted_pulse (slot_pulse t) d2 → does (path_rest (suc n) s) d ≡ (d3, Err x)
        walk_err3 e = to_third ∙ step_err (slot_pulse t) (λ _. rest (turns m t) t) d2 e

        pub path_more : {d3 : Counting} {c : Bool} → (d3, Ok c) ≡ counted_pulse (slot_pulse t) d2 → does (path_rest (suc n) s) d ≡ does (path_rest n (after_triplet s m t)) d3
        path_more {d3} e =
            to_third ∙ step_ok (slot_pulse t) (λ _. rest (turns m t) t) d2 e
            ∙ ap (λ f. does (triples (ret None) n (bits_of n (s.path / 2)) f) d3)
            (fun_ext (λ bs. fun_ext (λ nx. ap (ends (gather (shift64 s.number t) bs)) (turned_more n s.number s.next (turns m t) t nx))))

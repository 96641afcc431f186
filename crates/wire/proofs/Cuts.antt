-- What holds of a job's answer whichever step is cut.
use Rattle.std.proofs.Common.{◌≡◌, ℕ, zero, suc, Bool, true, false, ◌&&◌, List, [], ◌∷◌, map, sym, refl, ap, ◌∙◌, subst}
use mathlib.Core.Bool.{and-true}
use Rattle.chip.specs.ChipStates.{ChipState, take_bit, cut_chip, takes}
use Rattle.rig.specs.Rigs.{FuseState, none, after, line_after, answer, answer_if_cut, pulse, refused, counted}
use Rattle.rig.proofs.Unpowered.{cut_off}
use Rattle.wire.specs.Jobs.{Job, ret, step, Got, done, line_busy, run, send_bits}
use Rattle.wire.specs.Laws.{Uncut, NextUncut}
use Rattle.wire.proofs.Leading.{free, HearsAll, hears_pull, hears_busy, hears_on, map-takes, map-none}
use Rattle.wire.proofs.Power.{dead_run, run_dead, AsFree, on_step}

module _ {A : Type 0} (P : A → Type 0) where
  -- no pulse is refused, and P holds of the answer, whether or not a step is cut
  abbrev pub CutSafe : Job A → List ChipState → Type 0
  CutSafe (ret a) l = P a
  CutSafe (step p k) l = (refused p l ≡ false) × P (dead_run (k (answer_if_cut p))) × CutSafe (k (answer p l)) (line_after p l)

  abbrev pub GotIt : Got A → Type 0
  GotIt (done a) = P a
  GotIt line_busy = ⊥

  pub safe_run : (n : ℕ) (p : Job A) (l : List ChipState) (f : FuseState) → CutSafe p l → GotIt (run n p (record { line = l; fuse = f })).got
  safe_run n (ret a) l f s = s
  safe_run n (step p k) l f s =
      subst (λ t. GotIt (on_step n p k (record { line = l; fuse = f }) t).got) (sym s.0) (go f (λ g. safe_run (counted n) (k (answer p l)) (line_after p l) g s.2))
    where
      go : (g : FuseState) → ((g : FuseState) → GotIt (run (counted n) (k (answer p l)) (record { line = line_after p l; fuse = g })).got) → GotIt (run (counted n) (k (pulse p (record { line = l; fuse = g })).1) (pulse p (record { line = l; fuse = g })).0).got
      go none ih = ih none
      go (after zero m) ih = subst GotIt (sym (run_dead (counted n) (k (answer_if_cut p)) (map (cut_chip m) l) (cut_off m l))) s.1
      go (after (suc j) m) ih = ih (after j m)

  -- nobody hears bits that are sent
  pub dead_send : (bs : List Bool) (k : Job A) → P (dead_run k) → P (dead_run (send_bits bs k))
  unfolding dead_run
  dead_send [] k h = h
  dead_send (b ∷ bs) k h = dead_send bs k h

  pub safe_send : (bs : List Bool) (k : Job A) (l : List ChipState) → HearsAll bs l → P (dead_run k) → CutSafe k (map (takes bs) l) → CutSafe (send_bits bs k) l
  safe_send [] k l h d s = subst (CutSafe k) (map-none l) s
  safe_send (b ∷ bs) k l h d s = (
    hears_busy b bs l h,
    dead_send bs k d,
    subst (λ y. CutSafe (send_bits bs k) (map (take_bit y) l)) (sym (ap (λ y. b && y) (hears_pull b bs l h) ∙ and-true b))
        (safe_send bs k (map (take_bit b) l) (hears_on b bs l h) d (subst (CutSafe k) (sym (map-takes b bs l)) s)),
  )

-- a job that is not cut runs as it would with no fuse
pub uncut_free : {A : Type 0} (n : ℕ) (p : Job A) (l : List ChipState) (f : FuseState) → Uncut p (record { line = l; fuse = f }) → AsFree (run n p (record { line = l; fuse = f })) (run n p (free l))
uncut_free n (ret a) l f u = record { got = refl; line = refl }
uncut_free {A} n (step p k) l f u = go f (refused p l) u (λ b l' f' u'. uncut_free (counted n) (k b) l' f' u')
  where
    go : (g : FuseState) (t : Bool) → (elim t as (λ _. Type 0) [ true ↦ Unit {0} | false ↦ NextUncut g × Uncut (k (pulse p (record { line = l; fuse = g })).1) (pulse p (record { line = l; fuse = g })).0 ])
        → ((b : Bool) (l' : List ChipState) (f' : FuseState) → Uncut (k b) (record { line = l'; fuse = f' }) → AsFree (run (counted n) (k b) (record { line = l'; fuse = f' })) (run (counted n) (k b) (free l')))
        → AsFree (on_step n p k (record { line = l; fuse = g }) t) (on_step n p k (free l) t)
    go g true u' ih = record { got = refl; line = refl }
    go none false u' ih = record { got = refl; line = refl }
    go (after zero m) false u' ih = absurd u'.0
    go (after (suc j) m) false u' ih = ih (answer p l) (line_after p l) (after j m) u'.1

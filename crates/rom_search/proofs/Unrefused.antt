-- No pulse of a search is refused but the first, on whatever line, and no answer of it has the number 3.
use Rattle.std.proofs.Common.{◌≡◌, ℕ, zero, suc, Bool, true, false, not, ◌&&◌, List, [], ◌∷◌, ◌++◌, map, sym, refl, subst, arith}
use Rattle.base.specs.Bits.{bits_of, value}
use Rattle.base.proofs.Choice.{pick}
use Rattle.chip.specs.Chips.{rom_bit}
use Rattle.chip.specs.ChipStates.{ChipState, reset_chip}
use Rattle.line.specs.Lines.{presence, any_busy}
use Rattle.rig.specs.Rigs.{RigState}
use Rattle.wire.specs.Jobs.{Job, ret, line_busy, run, bad}
use Rattle.wire.proofs.Calm.{Leaves, NotThree, leaves_send, Unrefused, Ended, unrefused_run, heard_send}
use Rattle.rom_search.specs.Searches.{NextPath, no_path, next_path, onward, tail_of, chosen, triples, passes}
use Rattle.rom_search.proofs.Enumerate.{Uniform}
use Rattle.rom_search.proofs.Searchers.{Searcher, line_at, busy_any, unrefused_triples}
use Rattle.rom_search.proofs.Starts.{start, rests_start, all_hear, all_take, uniform_here}
use Rattle.rom_search.proofs.Complete.{Out, going, seeks, after_reset}

-- on a line that is not busy none is refused: a pass leaves no chip programming
pub unrefused_passes : (room pass : ℕ) (path : List Bool) (got : List ℕ) (l : List ChipState) → any_busy l ≡ false → Unrefused (passes room pass path got) l
unrefused_passes zero pass path got l b = tt
unrefused_passes (suc room) pass path got l b = (b, opened (presence l) (λ bs nx D. on bs nx D (λ p. unrefused_passes room (suc pass) p (got ++ (value bs ∷ [])) (line_at rom_bit D) (busy_any D))))
  where
    on : (bs : List Bool) (nx : NextPath) (D : List Searcher) → ((p : List Bool) → Unrefused (passes room (suc pass) p (got ++ (value bs ∷ []))) (line_at rom_bit D)) → Unrefused (going room pass got bs nx) (line_at rom_bit D)
    on bs no_path D ih = tt
    on bs (next_path p) D ih = ih p

    opened : (t : Bool) → ((bs : List Bool) (nx : NextPath) (D : List Searcher) → Unrefused (going room pass got bs nx) (line_at rom_bit D)) → Unrefused (after_reset room pass path got t) (map reset_chip l)
    opened false g = tt
    opened true g =
        heard_send (bits_of 8 0xF0) (seeks room pass path got) (map reset_chip l) (all_hear l b)
        (subst (Unrefused (seeks room pass path got)) (sym (all_take l b))
        (unrefused_triples (ret (bad 6 pass, got)) (λ _. tt) 64 path (going room pass got) (start l) (subst (Uniform 64) (sym (rests_start l)) (uniform_here l)) g))

-- so a search that was refused, cut or not, began on a busy line
pub busy_first : (n room pass : ℕ) (path : List Bool) (got : List ℕ) (r : RigState) → (run n (passes room pass path got) r).got ≡ line_busy → any_busy r.line ≡ true
busy_first n room pass path got r q = go (any_busy r.line) refl
  where
    go : (t : Bool) → any_busy r.line ≡ t → any_busy r.line ≡ true
    go true b = b
    go false b = absurd (subst Ended q (unrefused_run n (passes room pass path got) r.line r.fuse (unrefused_passes room pass path got r.line b)))

-- what holds of the answers of all ways holds of the triples' answers
module _ (P : Out → Type 0) where
  pub leaves_triples : (lost : Job Out) → Leaves P lost → (n : ℕ) (path : List Bool) (k : List Bool → NextPath → Job Out) → ((bs : List Bool) (nx : NextPath) → Leaves P (k bs nx)) → Leaves P (triples lost n path k)
  leaves_triples lost z zero path k h = h [] no_path
  leaves_triples lost z (suc n) path k h =
      λ a b. pick (a && b) (Leaves P) z (λ _.
      leaves_triples lost z n (tail_of path) (λ bs nx. k (chosen a b path ∷ bs) (onward (not a && not b && not (chosen a b path)) (chosen a b path) nx))
      (λ bs nx. h (chosen a b path ∷ bs) (onward (not a && not b && not (chosen a b path)) (chosen a b path) nx)))

abbrev pub NotRefused : Out → Type 0
NotRefused out = NotThree out.0

pub never_three : (room pass : ℕ) (path : List Bool) (got : List ℕ) → Leaves NotRefused (passes room pass path got)
never_three zero pass path got = λ e. omega arith
never_three (suc room) pass path got = λ t. opened t (λ bs nx. on bs nx (λ p. never_three room (suc pass) p (got ++ (value bs ∷ []))))
  where
    on : (bs : List Bool) (nx : NextPath) → ((p : List Bool) → Leaves NotRefused (passes room (suc pass) p (got ++ (value bs ∷ [])))) → Leaves NotRefused (going room pass got bs nx)
    on bs no_path ih = tt
    on bs (next_path p) ih = ih p

    opened : (t : Bool) → ((bs : List Bool) (nx : NextPath) → Leaves NotRefused (going room pass got bs nx)) → Leaves NotRefused (after_reset room pass path got t)
    opened false g = λ e. omega arith
    opened true g =
        leaves_send NotRefused (bits_of 8 0xF0) (seeks room pass path got)
        (leaves_triples NotRefused (ret (bad 6 pass, got)) (λ e. omega arith) 64 path (going room pass got) g)

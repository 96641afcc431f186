-- Whichever step of a search is cut, what it leaves is a front of the sequence, and it begins no pass beyond the numbers of the sequence.
use Rattle.std.proofs.Common.{◌≡◌, ℕ, zero, suc, ◌+◌, ◌-◌, ◌<◌, ◌≤◌, Bool, true, false, List, [], ◌∷◌, ◌++◌, map, length, sym, refl, ap, ◌∙◌, subst, arith}
use Rattle.std.proofs.lemmas.Bool.{true≢false}
use Rattle.base.specs.Bits.{bits_of, value}
use Rattle.chip.specs.Chips.{rom_bit}
use Rattle.chip.specs.ChipStates.{ChipState, reset_chip}
use Rattle.line.specs.Lines.{presence, any_busy}
use Rattle.wire.specs.Jobs.{ret, Said, good, bad}
use Rattle.wire.proofs.Power.{dead_run}
use Rattle.wire.proofs.Cuts.{CutSafe, safe_send}
use Rattle.rom_search.specs.Searches.{NextPath, no_path, next_path, passes}
use Rattle.rom_search.specs.Laws.{Front}
use Rattle.rom_search.proofs.Enumerate.{from, after, found, next, Valid, ValidNext, Uniform, Law, pass_law}
use Rattle.rom_search.proofs.Searchers.{line_at, here, busy_any, Determined, dead_triples, pass_safe}
use Rattle.rom_search.proofs.Starts.{start, rests_start, here_start, all_hear, all_take, uniform_here, presence_here, valid_some}
use Rattle.rom_search.proofs.Complete.{Out, going, seeks, after_reset, more_got}

-- the passes that an answer tells of
abbrev pub passes_of : Said ℕ → ℕ
passes_of (good c) = c
passes_of (bad k e) = e

-- no more than there are numbers; where there is none, the first pass finds nobody
abbrev pub Within : ℕ → Said ℕ → Type 0
Within zero s = s ≡ bad 5 1
Within (suc n) s = passes_of s ≤ suc n

within_some : (n : ℕ) (s : Said ℕ) → 0 < n → passes_of s ≤ n → Within n s
within_some zero s z h = absurd (omega arith)
within_some (suc n) s z h = h

-- the numbers are a front of the sequence, found in no more passes than it has numbers
abbrev pub Kept : List ℕ → Out → Type 0
Kept A out = Front out.1 A × Within (length A) out.0

abbrev is_way : NextPath → Bool
is_way no_path = false
is_way (next_path p) = true

over_way : (p : List Bool) → no_path ≡ next_path p → ⊥
over_way p e = true≢false (sym (ap is_way e))

module _ (A : List ℕ) (some : 0 < length A) where
  kept : (s : Said ℕ) (got : List ℕ) → Front got A → passes_of s ≤ length A → Kept A (s, got)
  kept s got f h = (f, within_some (length A) s some h)

  dead_ret : (out : Out) → Kept A out → Kept A (dead_run (ret out))
  unfolding dead_run
  dead_ret out h = h

  -- a pass that would follow has a number to find
  dead_passes : (room pass : ℕ) (path : List Bool) (got : List ℕ) → Front got A → pass ≤ length A → Kept A (dead_run (passes room pass path got))
  unfolding dead_run
  dead_passes zero pass path got f h = kept (bad 9 (pass - 1)) got f (omega (arith, h))
  dead_passes (suc room) pass path got f h = kept (bad 5 pass) got f h

  dead_going : (room pass : ℕ) (got : List ℕ) (bs : List Bool) (nx : NextPath) → Front (got ++ (value bs ∷ [])) A → pass ≤ length A → ((p : List Bool) → nx ≡ next_path p → suc pass ≤ length A)
      → Kept A (dead_run (going room pass got bs nx))
  dead_going room pass got bs no_path f h g = dead_ret (good pass, got ++ (value bs ∷ [])) (kept (good pass) (got ++ (value bs ∷ [])) f h)
  dead_going room pass got bs (next_path p) f h g = dead_passes room (suc pass) p (got ++ (value bs ∷ [])) f (g p refl)

  pub safe : (room pass : ℕ) (path : List Bool) (got : List ℕ) (l : List ChipState) → any_busy l ≡ false → Valid 64 path (here l) → Determined 64 (here l)
      → got ++ map value (from 64 path (here l)) ≡ A → pass + length (from 64 path (here l)) ≡ suc (length A) → CutSafe (Kept A) (passes room pass path got) l
  safe zero pass path got l b v d q n = kept (bad 9 (pass - 1)) got (map value (from 64 path (here l)), q) (omega (arith, n))
  safe (suc room) pass path got l b v d q n = (
    b,
    dead_ret (bad 5 pass, got) (kept (bad 5 pass) got front begun),
    subst (λ t. CutSafe (Kept A) (after_reset room pass path got t) (map reset_chip l)) (sym (presence_here l false (valid_some 63 path (here l) v)))
        (safe_send (Kept A) (bits_of 8 0xF0) (seeks room pass path got) (map reset_chip l) (all_hear l b)
        (dead_triples (Kept A) (ret (bad 6 pass, got)) lost 64 path (going room pass got) (λ z. absurd (omega arith)))
        (subst (CutSafe (Kept A) (seeks room pass path got)) (sym (all_take l b))
        (pass_safe (Kept A) (ret (bad 6 pass, got)) lost 64 path (going room pass got) (start l)
        (subst (Uniform 64) (sym (rests_start l)) (uniform_here l)) (subst (Valid 64 path) (sym (rests_start l)) v) (subst (Determined 64) (sym (rests_start l)) d)
        (subst (λ S. Kept A (dead_run (going room pass got (found 64 path S) (next 64 path S)))) (sym (rests_start l))
        (dead_going room pass got bits (next 64 path (here l)) grown begun (more (next 64 path (here l)) w.first w.goes_on)))
        (λ D' e. subst (λ S. CutSafe (Kept A) (going room pass got (found 64 path S) (next 64 path S)) (line_at rom_bit D')) (sym (rests_start l))
        (on (line_at rom_bit D') (e ∙ here_start l) (next 64 path (here l)) w.first w.goes_on
        (λ p v' d' q' n'. safe room (suc pass) p (got ++ (value bits ∷ [])) (line_at rom_bit D') (busy_any D') v' d' q' n')))))),
  )
    where
      w : Law 64 path (here l)
      w = pass_law 64 path (here l) (uniform_here l) v

      bits : List Bool
      bits = found 64 path (here l)

      front : Front got A
      front = (map value (from 64 path (here l)), q)

      begun : pass ≤ length A
      begun = let e : length (from 64 path (here l)) ≡ suc (length (after 64 (next 64 path (here l)) (here l))) = ap length w.first in omega (arith, n, e)

      lost : Kept A (dead_run (ret (bad 6 pass, got)))
      lost = dead_ret (bad 6 pass, got) (kept (bad 6 pass) got front begun)

      grown : Front (got ++ (value bits ∷ [])) A
      grown = (map value (after 64 (next 64 path (here l)) (here l)), more_got got bits (from 64 path (here l)) (after 64 (next 64 path (here l)) (here l)) w.first ∙ q)

      more : (N : NextPath) → from 64 path (here l) ≡ bits ∷ after 64 N (here l) → ValidNext 64 N (here l) → (p : List Bool) → N ≡ next_path p → suc pass ≤ length A
      more no_path e v' p z = absurd (over_way p z)
      more (next_path p') e v' p z =
          let k : length (from 64 path (here l)) ≡ suc (length (from 64 p' (here l))) = ap length e in
          let f : length (from 64 p' (here l)) ≡ suc (length (after 64 (next 64 p' (here l)) (here l))) = ap length (pass_law 64 p' (here l) (uniform_here l) v').first in
          omega (arith, n, k, f)

      on : (l' : List ChipState) → here l' ≡ here l → (N : NextPath) → from 64 path (here l) ≡ bits ∷ after 64 N (here l) → ValidNext 64 N (here l)
          → ((p : List Bool) → Valid 64 p (here l') → Determined 64 (here l') → (got ++ (value bits ∷ [])) ++ map value (from 64 p (here l')) ≡ A
          → suc pass + length (from 64 p (here l')) ≡ suc (length A) → CutSafe (Kept A) (passes room (suc pass) p (got ++ (value bits ∷ []))) l')
          → CutSafe (Kept A) (going room pass got bits N) l'
      on l' same no_path e v' ih = kept (good pass) (got ++ (value bits ∷ [])) grown begun
      on l' same (next_path p) e v' ih =
          let k : length (from 64 path (here l)) ≡ suc (length (from 64 p (here l))) = ap length e in
          let f : length (from 64 p (here l')) ≡ length (from 64 p (here l)) = ap (λ S. length (from 64 p S)) same in
          ih p (subst (Valid 64 p) (sym same) v') (subst (Determined 64) (sym same) d)
          (ap (λ S. (got ++ (value bits ∷ [])) ++ map value (from 64 p S)) same ∙ more_got got bits (from 64 path (here l)) (from 64 p (here l)) e ∙ q)
          (omega (arith, n, k, f))

-- a line without power: whatever is cut, the first reset finds nobody
dead_none : Kept [] (dead_run (ret (bad 5 1, [])))
unfolding dead_run
dead_none = (([], refl), refl)

pub safe_none : (room : ℕ) (l : List ChipState) → any_busy l ≡ false → presence l ≡ false → CutSafe (Kept []) (passes (suc room) 1 [] []) l
safe_none room l b p = (
  b,
  dead_none,
  subst (λ t. CutSafe (Kept []) (after_reset room 1 [] [] t) (map reset_chip l)) (sym p) (([], refl), refl),
)

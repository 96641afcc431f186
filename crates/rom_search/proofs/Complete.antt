-- The whole search on a line: it lists the numbers of the powered chips, each once, in the order of their bits.
use Rattle.std.proofs.Common.{◌≡◌, ℕ, zero, suc, ◌+◌, ◌-◌, ◌<◌, ◌≤◌, Bool, true, false, List, [], ◌∷◌, ◌++◌, map, length, take, sym, ap, ◌∙◌, subst, append_assoc, append-nil, arith}
use Rattle.base.specs.Bits.{bits_of, value}
use Rattle.chip.specs.Chips.{rom_bit}
use Rattle.chip.specs.ChipStates.{ChipState, reset_chip}
use Rattle.line.specs.Lines.{any_busy}
use Rattle.rig.specs.Rigs.{reset_pulse}
use Rattle.wire.specs.Jobs.{Job, ret, Said, good, bad, send_bytes}
use Rattle.wire.proofs.Leading.{Leads, leads_then, leads_none, leads_step, send_all}
use Rattle.rom_search.specs.Searches.{NextPath, no_path, next_path, triples, passes}
use Rattle.rom_search.proofs.Enumerate.{from, after, found, next, Valid, ValidNext, Uniform, pass_law}
use Rattle.rom_search.proofs.Searchers.{line_at, pass_line, here, busy_any}
use Rattle.rom_search.proofs.Starts.{start, rests_start, here_start, all_hear, all_take, uniform_here, presence_here, valid_some}

abbrev pub Out : Type 0
Out = Said ℕ × List ℕ

abbrev pub going : ℕ → ℕ → List ℕ → List Bool → NextPath → Job Out
going room pass got bs nx =
    elim nx [ no_path ↦ ret (good pass, got ++ (value bs ∷ [])) | next_path path' ↦ passes room (suc pass) path' (got ++ (value bs ∷ [])) ]

abbrev pub seeks : ℕ → ℕ → List Bool → List ℕ → Job Out
seeks room pass path got = triples (ret (bad 6 pass, got)) 64 path (going room pass got)

abbrev pub after_reset : ℕ → ℕ → List Bool → List ℕ → Bool → Job Out
after_reset room pass path got t = elim t [ false ↦ ret (bad 5 pass, got) | true ↦ send_bytes (0xF0 ∷ []) (seeks room pass path got) ]

-- one pass on a line
one_pass : (room pass : ℕ) (path : List Bool) (got : List ℕ) (l : List ChipState) → any_busy l ≡ false → Valid 64 path (here l)
    → (l' : List ChipState) × Leads (passes (suc room) pass path got) l (going room pass got (found 64 path (here l)) (next 64 path (here l))) l' × (here l' ≡ here l) × (any_busy l' ≡ false)
one_pass room pass path got l b v =
    let h = pass_line (ret (bad 6 pass, got)) 64 path (going room pass got) (start l) (subst (Uniform 64) (sym (rests_start l)) (uniform_here l)) (subst (Valid 64 path) (sym (rests_start l)) v) in (
      line_at rom_bit h.0,
      leads_then first (leads_then (subst (λ t. Leads (send_bytes (0xF0 ∷ []) (seeks room pass path got)) (map reset_chip l) (seeks room pass path got) t) (all_take l b) (send_all (bits_of 8 0xF0) (seeks room pass path got) (map reset_chip l) (all_hear l b)))
          (subst (λ S. Leads (seeks room pass path got) (line_at rom_bit (start l)) (going room pass got (found 64 path S) (next 64 path S)) (line_at rom_bit h.0)) (rests_start l) h.1)),
      h.2 ∙ here_start l,
      busy_any h.0,
    )
  where
    first : Leads (passes (suc room) pass path got) l (send_bytes (0xF0 ∷ []) (seeks room pass path got)) (map reset_chip l)
    first =
        subst (λ t. Leads (passes (suc room) pass path got) l (after_reset room pass path got t) (map reset_chip l))
        (presence_here l false (valid_some 63 path (here l) v))
        (leads_step reset_pulse (after_reset room pass path got) l b)

abbrev line_from : List Bool → List ChipState → List (List Bool)
line_from path l = from 64 path (here l)

-- enough room: all that the path leads to
pub record Lists (room pass : ℕ) (path : List Bool) (got : List ℕ) (l : List ChipState) : Type 0 where
  pub end : List ChipState
  pub total : ℕ
  pub so : Leads (passes room pass path got) l (ret (good total, got ++ map value (line_from path l))) end
  pub counts : suc total ≡ pass + length (line_from path l)

-- too little room: as many as there is room for
pub record Fills (room pass : ℕ) (path : List Bool) (got : List ℕ) (l : List ChipState) : Type 0 where
  pub end : List ChipState
  pub total : ℕ
  pub so : Leads (passes room pass path got) l (ret (bad 9 total, got ++ map value (take room (line_from path l)))) end
  pub counts : suc total ≡ pass + room

pub more_got : (got : List ℕ) (bs : List Bool) (L M : List (List Bool)) → L ≡ bs ∷ M → (got ++ (value bs ∷ [])) ++ map value M ≡ got ++ map value L
more_got got bs L M e = append_assoc got (value bs ∷ []) (map value M) ∙ ap (λ K. got ++ map value K) (sym e)

module _ (room pass : ℕ) (path : List Bool) (got : List ℕ) (l l' : List ChipState) (same : here l' ≡ here l) where
  abbrev bits : List Bool
  bits = found 64 path (here l)

  lists_on : (N : NextPath) → Leads (passes (suc room) pass path got) l (going room pass got bits N) l'
      → line_from path l ≡ bits ∷ after 64 N (here l) → ValidNext 64 N (here l) → length (line_from path l) ≤ suc room
      → ((p : List Bool) → Valid 64 p (here l') → length (line_from p l') ≤ room → Lists room (suc pass) p (got ++ (value bits ∷ [])) l')
      → Lists (suc room) pass path got l
  lists_on no_path f e v h ih = record {
    end = l';
    total = pass;
    so = subst (λ L. Leads (passes (suc room) pass path got) l (ret (good pass, got ++ map value L)) l') (sym e) f;
    counts = let q : length (line_from path l) ≡ 1 = ap length e in omega arith;
  }
  lists_on (next_path p) f e v h ih =
      let q : length (line_from path l) ≡ suc (length (from 64 p (here l))) = ap length e in
      let t : length (line_from p l') ≡ length (from 64 p (here l)) = ap (λ S. length (from 64 p S)) same in
      let k = ih p (subst (Valid 64 p) (sym same) v) (omega arith) in
      record {
        end = k.end;
        total = k.total;
        so = leads_then f (subst (λ L. Leads (passes room (suc pass) p (got ++ (value bits ∷ []))) l' (ret (good k.total, L)) k.end)
            (ap (λ S. (got ++ (value bits ∷ [])) ++ map value (from 64 p S)) same ∙ more_got got bits (line_from path l) (from 64 p (here l)) e) k.so);
        counts = let r : suc k.total ≡ suc pass + length (line_from p l') = k.counts in omega arith;
      }

  fills_on : (N : NextPath) → Leads (passes (suc room) pass path got) l (going room pass got bits N) l'
      → line_from path l ≡ bits ∷ after 64 N (here l) → ValidNext 64 N (here l) → suc room < length (line_from path l)
      → ((p : List Bool) → Valid 64 p (here l') → room < length (line_from p l') → Fills room (suc pass) p (got ++ (value bits ∷ [])) l')
      → Fills (suc room) pass path got l
  fills_on no_path f e v h ih = let q : length (line_from path l) ≡ 1 = ap length e in absurd (omega arith)
  fills_on (next_path p) f e v h ih =
      let q : length (line_from path l) ≡ suc (length (from 64 p (here l))) = ap length e in
      let t : length (line_from p l') ≡ length (from 64 p (here l)) = ap (λ S. length (from 64 p S)) same in
      let k = ih p (subst (Valid 64 p) (sym same) v) (omega arith) in
      record {
        end = k.end;
        total = k.total;
        so = leads_then f (subst (λ L. Leads (passes room (suc pass) p (got ++ (value bits ∷ []))) l' (ret (bad 9 k.total, L)) k.end)
            (ap (λ S. (got ++ (value bits ∷ [])) ++ map value (take room (from 64 p S))) same
            ∙ more_got got bits (take (suc room) (line_from path l)) (take room (from 64 p (here l))) (ap (take (suc room)) e)) k.so);
        counts = let r : suc k.total ≡ suc pass + room = k.counts in omega arith;
      }

pub lists : (room pass : ℕ) (path : List Bool) (got : List ℕ) (l : List ChipState) → any_busy l ≡ false → Valid 64 path (here l) → length (line_from path l) ≤ room → Lists room pass path got l
lists zero pass path got l b v h =
    let q : length (line_from path l) ≡ suc (length (after 64 (next 64 path (here l)) (here l))) = ap length (pass_law 64 path (here l) (uniform_here l) v).first in absurd (omega arith)
lists (suc room) pass path got l b v h =
    let p = one_pass room pass path got l b v in
    let w = pass_law 64 path (here l) (uniform_here l) v in
    lists_on room pass path got l p.0 p.2 (next 64 path (here l)) p.1 w.first w.goes_on h
    (λ path' v' h'. lists room (suc pass) path' (got ++ (value (found 64 path (here l)) ∷ [])) p.0 p.3 v' h')

pub fills : (room pass : ℕ) (path : List Bool) (got : List ℕ) (l : List ChipState) → any_busy l ≡ false → Valid 64 path (here l) → 0 < pass → room < length (line_from path l) → Fills room pass path got l
fills zero pass path got l b v z h =
    record { end = l; total = pass - 1; so = subst (λ L. Leads (passes zero pass path got) l (ret (bad 9 (pass - 1), L)) l) (sym (append-nil got)) leads_none; counts = omega arith }
fills (suc room) pass path got l b v z h =
    let p = one_pass room pass path got l b v in
    let w = pass_law 64 path (here l) (uniform_here l) v in
    fills_on room pass path got l p.0 p.2 (next 64 path (here l)) p.1 w.first w.goes_on h
    (λ path' v' h'. fills room (suc pass) path' (got ++ (value (found 64 path (here l)) ∷ [])) p.0 p.3 v' (omega arith) h')

-- Words gathered bit by bit from above.
use Rattle.std.proofs.Common.{◌≡◌, ℕ, zero, suc, ◌+◌, ◌-◌, ◌*◌, ◌/◌, Bool, true, false, List, [], ◌∷◌, length, Some, None, Option, sym, refl, ap, ◌∙◌, arith}
use Rattle.base.specs.Bits.{bit, bits_of, value}
use Rattle.std.specs.Option.{option_map}
use Rattle.wire.specs.Jobs.{Job, ret}
use Rattle.rom_search.specs.declared.triplets.Pass.{Pass}
use Rattle.rom_search.specs.declared.triplets.PassState.{PassState}
use Rattle.rom_search.specs.Searches.{triples, NextPath, no_path, next_path, onward}
use Rattle.rom_search.specs.Triplets.{shift64, next_by}

abbrev pub dbl : ℕ → ℕ → ℕ
dbl zero y = y
dbl (suc k) y = 2 * dbl k y

abbrev pub halve : ℕ → ℕ → ℕ
halve zero x = x
halve (suc k) x = halve k (x / 2)

abbrev pub gather : ℕ → List Bool → ℕ
gather word [] = word
gather word (b ∷ bs) = gather (shift64 word b) bs

dbl_add : (k x y : ℕ) → dbl k (x + y) ≡ dbl k x + dbl k y
dbl_add zero x y = refl
dbl_add (suc k) x y = let h = dbl_add k x y in omega arith

dbl_twice : (k x : ℕ) → dbl k (2 * x) ≡ 2 * dbl k x
dbl_twice zero x = refl
dbl_twice (suc k) x = let h = dbl_twice k x in omega arith

dbl_dbl : (k m x : ℕ) → dbl k (dbl m x) ≡ dbl (k + m) x
dbl_dbl zero m x = ap (λ n. dbl n x) (let e : m ≡ 0 + m = omega arith in e)
dbl_dbl (suc k) m x = ap (λ n. 2 * n) (dbl_dbl k m x) ∙ ap (λ n. dbl n x) (let e : suc (k + m) ≡ suc k + m = omega arith in e)

halve_dbl : (k x y : ℕ) → halve k (x + dbl k y) ≡ halve k x + y
halve_dbl zero x y = refl
halve_dbl (suc k) x y = ap (halve k) (let e : (x + 2 * dbl k y) / 2 ≡ x / 2 + dbl k y = omega arith in e) ∙ halve_dbl k (x / 2) y

top : (y : ℕ) → 9223372036854775808 * y ≡ dbl 63 y
top y = omega arith

gathered : (k x : ℕ) (bs : List Bool) → k + length bs ≡ 64 → gather x bs ≡ halve (length bs) x + dbl k (value bs)
gathered k x [] h = let z : dbl k 0 ≡ 0 = none k in omega arith
  where
    none : (k : ℕ) → dbl k 0 ≡ 0
    none zero = refl
    none (suc k) = let z = none k in omega arith
gathered k x (b ∷ bs) h =
    gathered (suc k) (shift64 x b) bs (omega arith)
    ∙ ap (λ n. halve (length bs) (x / 2 + n) + dbl (suc k) (value bs)) (top (bit b) ∙ ap (λ n. dbl n (bit b)) (let e : 63 ≡ length bs + k = omega arith in e) ∙ sym (dbl_dbl (length bs) k (bit b)))
    ∙ ap (λ n. n + dbl (suc k) (value bs)) (halve_dbl (length bs) (x / 2) (dbl k (bit b)))
    ∙ (let e = dbl_add k (bit b) (2 * value bs) in let f = dbl_twice k (value bs) in omega arith)

zeros : (k : ℕ) → halve k 0 ≡ 0
zeros zero = refl
zeros (suc k) = zeros k

pub gather_value : (bs : List Bool) → length bs ≡ 64 → gather 0 bs ≡ value bs
gather_value bs h = gathered 0 0 bs (omega arith) ∙ ap (λ n. n + value bs) (zeros (length bs)) ∙ (let e : 0 + value bs ≡ value bs = omega arith in e)

pub gather_next : (k : ℕ) (ps : List Bool) → k + length ps ≡ 64 → halve k (gather 0 ps) ≡ value ps
gather_next k ps h =
    ap (halve k) (gathered k 0 ps h ∙ ap (λ n. n + dbl k (value ps)) (zeros (length ps)))
    ∙ halve_dbl k 0 (value ps) ∙ ap (λ n. n + value ps) (zeros k) ∙ (let e : 0 + value ps ≡ value ps = omega arith in e)

-- the next way once n more triples are made
abbrev pub turned : ℕ → ℕ → Option ℕ → NextPath → Option ℕ
turned n word next no_path = option_map (halve n) next
turned n word next (next_path ps) = Some (halve (n - length ps) (gather word ps))

abbrev pub passed : ℕ → Option ℕ → Pass
passed word next = record { number = word; next = next }

-- what is left of a pass
abbrev pub path_rest : ℕ → PassState → Job (Option Pass)
path_rest n s = triples (ret None) n (bits_of n s.path) (λ bs nx. ret (Some (passed (gather s.number bs) (turned n s.number s.next nx))))

pub turned_more : (n word : ℕ) (next : Option ℕ) (f t : Bool) (nx : NextPath) → turned (suc n) word next (onward f t nx) ≡ turned n (shift64 word t) (next_by f word next) nx
turned_more n word next f t (next_path ps) = ap (λ k. Some (halve k (gather (shift64 word t) ps))) (let e : suc n - suc (length ps) ≡ n - length ps = omega arith in e)
turned_more n word next true t no_path = ap (λ k. Some (halve k (shift64 word true))) (let e : suc n - 1 ≡ n = omega arith in e)
turned_more n word None false t no_path = refl
turned_more n word (Some w) false t no_path = refl

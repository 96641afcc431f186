-- One place more of a comparison, and what it tells of two lists.
use Rattle.std.specs.List.{position_from, zip}
use Rattle.std.specs.Option.{option_or}
use Rattle.std.specs.Cmp.Lexicographic.{pointwise, same_text, other_text}
use Rattle.std.proofs.lemmas.Iterator.Adapters.{position_from-zero}
use Rattle.std.proofs.Common.{not, cond, position, min, nat_eq, ◌≡◌, ℕ, suc, ◌+◌, Bool, true, false, eqb, ◌≢◌, List, [], ◌∷◌, length, Some, None, Option, sym, refl, ap, ◌∙◌, ap₂, arith, eq-eqb}
use Rattle.std.proofs.lemmas.Bool.{eqb-true}
use Rattle.order.specs.Differences.{differ_from, first_difference}

-- where they differ below both lengths, and beyond
abbrev differs : ℕ × ℕ → Bool
differs p = not (eqb p.0 p.1)

within : (i : ℕ) (t : Bool) (u v : Option ℕ) → u ≡ v → cond (not t) (Some i) u ≡ (elim t as (λ _. Option ℕ) [ true ↦ v | false ↦ Some i ])
within i true u v e = e
within i false u v e = refl

from_within : (i : ℕ) (a b : List ℕ) → length a ≡ length b → position_from differs i (zip a b) ≡ differ_from i a b
from_within i [] [] h = refl
from_within i [] (y ∷ ys) h = absurd (omega arith)
from_within i (x ∷ xs) [] h = absurd (omega arith)
from_within i (x ∷ xs) (y ∷ ys) h = within i (eqb x y) _ _ (from_within (i + 1) xs ys (omega arith))

beyond : (i : ℕ) (t : Bool) (u v o : Option ℕ) → option_or u o ≡ v → option_or (cond (not t) (Some i) u) o ≡ (elim t as (λ _. Option ℕ) [ true ↦ v | false ↦ Some i ])
beyond i true u v o e = e
beyond i false u v o e = refl

from_beyond : (i : ℕ) (a b : List ℕ) → (length a ≡ length b → ⊥) → option_or (position_from differs i (zip a b)) (Some (i + min (length a) (length b))) ≡ differ_from i a b
from_beyond i [] [] h = absurd (h refl)
from_beyond i [] (y ∷ ys) h = ap Some (omega arith)
from_beyond i (x ∷ xs) [] h = ap Some (omega arith)
from_beyond i (x ∷ xs) (y ∷ ys) h =
    let e : i + min (length (x ∷ xs)) (length (y ∷ ys)) ≡ i + 1 + min (length xs) (length ys) = omega arith in
    ap (λ n. option_or (position_from differs i (zip (x ∷ xs) (y ∷ ys))) (Some n)) e ∙ beyond i (eqb x y) _ _ _ (from_beyond (i + 1) xs ys (λ q. h (ap suc q)))

pub differs_within : (a b : List ℕ) → length a ≡ length b → position differs (zip a b) ≡ first_difference a b
unfolding first_difference
differs_within a b h = position_from-zero differs (zip a b) ∙ from_within 0 a b h

pub differs_beyond : (a b : List ℕ) → (length a ≡ length b → ⊥) → option_or (position differs (zip a b)) (Some (min (length a) (length b))) ≡ first_difference a b
unfolding first_difference
differs_beyond a b h = ap (λ o. option_or o (Some (min (length a) (length b)))) (position_from-zero differs (zip a b))
    ∙ ap (λ n. option_or (position_from differs 0 (zip a b)) (Some n)) (let e : min (length a) (length b) ≡ 0 + min (length a) (length b) = omega arith in e) ∙ from_beyond 0 a b h

-- equal lists differ nowhere, and lists that differ nowhere are equal
differ_self : (i : ℕ) (xs : List ℕ) → differ_from i xs xs ≡ None
differ_self i [] = refl
differ_self i (x ∷ xs) = ap (λ t. elim t as (λ _. Option ℕ) [ true ↦ differ_from (i + 1) xs xs | false ↦ Some i ]) (eq-eqb x x refl) ∙ differ_self (i + 1) xs

none-some : (i : ℕ) → ◌≡◌ {A = Option ℕ} (Some i) None → ⊥
none-some i e = let z : ◌≡◌ {A = ℕ} 0 1 = cc in omega arith

differ_equal : (i : ℕ) (xs ys : List ℕ) → differ_from i xs ys ≡ None → xs ≡ ys
differ_equal i [] [] e = refl
differ_equal i [] (y ∷ ys) e = absurd (none-some i e)
differ_equal i (x ∷ xs) [] e = absurd (none-some i e)
differ_equal i (x ∷ xs) (y ∷ ys) e = go (eqb x y) refl e (differ_equal (i + 1) xs ys)
  where
    go : (t : Bool) → eqb x y ≡ t → (elim t as (λ _. Option ℕ) [ true ↦ differ_from (i + 1) xs ys | false ↦ Some i ]) ≡ None → (differ_from (i + 1) xs ys ≡ None → xs ≡ ys) → x ∷ xs ≡ y ∷ ys
    go true q h ih = ap₂ (λ a l. a ∷ l) (eqb-true x y q) (ih h)
    go false q h ih = absurd (none-some i h)

pub first_self : (xs : List ℕ) → first_difference xs xs ≡ None
unfolding first_difference
first_self xs = differ_self 0 xs

pub first_equal : (xs ys : List ℕ) → first_difference xs ys ≡ None → xs ≡ ys
unfolding first_difference
first_equal xs ys e = differ_equal 0 xs ys e

pub first_differs : (xs ys : List ℕ) (i : ℕ) → first_difference xs ys ≡ Some i → xs ≢ ys
first_differs xs ys i e q = none-some i (sym e ∙ ap (first_difference xs) (sym q) ∙ first_self xs)

-- what `==` of two slices tells of them
pub found_same : (xs ys : List ℕ) → true ≡ pointwise nat_eq xs ys → first_difference xs ys ≡ None
found_same xs ys h = ap (first_difference xs) (sym (same_text xs ys h)) ∙ first_self xs

pub found_other : (xs ys : List ℕ) → false ≡ pointwise nat_eq xs ys → (i : ℕ) × (first_difference xs ys ≡ Some i)
found_other xs ys h = some (first_difference xs ys) (λ e. other_text xs ys h (first_equal xs ys e))
  where
    some : (o : Option ℕ) → (o ≡ None → ⊥) → (i : ℕ) × (o ≡ Some i)
    some (Some i) n = (i, refl)
    some None n = absurd (n refl)

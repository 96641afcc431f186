-- Passes on sets of numbers: what one finds and what it leaves.
use Rattle.std.proofs.Common.{◌≡◌, ℕ, zero, suc, Bool, true, false, not, ◌&&◌, ◌⊎◌, List, [], ◌∷◌, ◌++◌, map, sym, refl, ap, ◌∙◌, subst, ap₂, subst₂, inl, inr}
use mathlib.Core.Bool.{and-false}
use Rattle.base.specs.Bits.{same}
use Rattle.rom_search.specs.Searches.{NextPath, no_path, next_path, onward, tail_of, head_from, chosen}
use Rattle.std.proofs.lemmas.Bool.{true≢false, false≢true}

abbrev pub Rests : Type 0
Rests = List (List Bool)

abbrev pub is_nil : Rests → Bool
is_nil [] = true
is_nil (s ∷ S) = false

-- the rests of those that begin with b
abbrev pub branch : Bool → Rests → Rests
branch b [] = []
branch b ([] ∷ S) = branch b S
branch b ((x ∷ xs) ∷ S) = elim (same x b) [ true ↦ xs ∷ branch b S | false ↦ branch b S ]

-- all of them, 0 before 1 at the first differing bit, each once
abbrev pub enum : ℕ → Rests → Rests
enum zero [] = []
enum zero (s ∷ S) = [] ∷ []
enum (suc n) S = map (λ l. false ∷ l) (enum n (branch false S)) ++ map (λ l. true ∷ l) (enum n (branch true S))

-- those from a way on
abbrev pub from : ℕ → List Bool → Rests → Rests
from n [] S = enum n S
from zero (p ∷ ps) S = enum zero S
from (suc n) (false ∷ ps) S = map (λ l. false ∷ l) (from n ps (branch false S)) ++ map (λ l. true ∷ l) (enum n (branch true S))
from (suc n) (true ∷ ps) S = map (λ l. true ∷ l) (from n ps (branch true S))

abbrev pub after : ℕ → NextPath → Rests → Rests
after n no_path S = []
after n (next_path p) S = from n p S

abbrev pub taken : List Bool → Rests → Bool
taken path S = chosen (is_nil (branch false S)) (is_nil (branch true S)) path

abbrev pub forked : List Bool → Rests → Bool
forked path S = not (is_nil (branch false S)) && not (is_nil (branch true S)) && not (taken path S)

abbrev pub found : ℕ → List Bool → Rests → List Bool
found zero path S = []
found (suc n) path S = taken path S ∷ found n (tail_of path) (branch (taken path S) S)

abbrev pub next : ℕ → List Bool → Rests → NextPath
next zero path S = no_path
next (suc n) path S = onward (forked path S) (taken path S) (next n (tail_of path) (branch (taken path S) S))

-- a way that some number takes
abbrev pub Valid : ℕ → List Bool → Rests → Type 0
Valid zero path S = is_nil S ≡ false
Valid (suc n) [] S = (is_nil (branch false S) ≡ false) ⊎ (is_nil (branch true S) ≡ false)
Valid (suc n) (p ∷ ps) S = (is_nil (branch p S) ≡ false) × Valid n ps (branch p S)

abbrev pub ValidNext : ℕ → NextPath → Rests → Type 0
ValidNext n no_path S = Unit {0}
ValidNext n (next_path p) S = Valid n p S

-- every rest has n bits
abbrev pub Uniform : ℕ → Rests → Type 0
Uniform n [] = Unit {0}
Uniform zero (s ∷ S) = (s ≡ []) × Uniform zero S
Uniform (suc n) ([] ∷ S) = ⊥
Uniform (suc n) ((x ∷ xs) ∷ S) = Uniform n (xs ∷ []) × Uniform (suc n) S

-- nothing to enumerate
enum_nil : (n : ℕ) → enum n [] ≡ []
enum_nil zero = refl
enum_nil (suc n) = ap₂ (λ a b. map (λ l. false ∷ l) a ++ map (λ l. true ∷ l) b) (enum_nil n) (enum_nil n)

nil_is : (S : Rests) → is_nil S ≡ true → S ≡ []
nil_is [] e = refl
nil_is (s ∷ S) e = absurd (false≢true e)

pub enum_none : (n : ℕ) (S : Rests) → is_nil S ≡ true → enum n S ≡ []
enum_none n S e = ap (enum n) (nil_is S e) ∙ enum_nil n

one_more : (n : ℕ) (x : List Bool) (S : Rests) → Uniform n (x ∷ []) → Uniform n S → Uniform n (x ∷ S)
one_more zero x S u v = (u.0, v)
one_more (suc n) [] S u v = u
one_more (suc n) (y ∷ ys) S u v = (u.0, v)

pub uniform_branch : (b : Bool) (n : ℕ) (S : Rests) → Uniform (suc n) S → Uniform n (branch b S)
uniform_branch b n [] u = tt
uniform_branch b n ([] ∷ S) u = absurd u
uniform_branch b n ((x ∷ xs) ∷ S) u = elim (same x b) as (λ t. Uniform n (elim t [ true ↦ xs ∷ branch b S | false ↦ branch b S ])) [ true ↦ one_more n xs (branch b S) u.0 (uniform_branch b n S u.1) | false ↦ uniform_branch b n S u.1 ]

-- some number is there
pub some-next_path : (n : ℕ) (S : Rests) → Uniform n S → is_nil S ≡ false → Valid n [] S
some-next_path zero S u e = e
some-next_path (suc n) [] u e = absurd (true≢false e)
some-next_path (suc n) ([] ∷ S) u e = absurd u
some-next_path (suc n) ((true ∷ xs) ∷ S) u e = inr refl
some-next_path (suc n) ((false ∷ xs) ∷ S) u e = inl refl

pub record Law (n : ℕ) (path : List Bool) (S : Rests) : Type 0 where
  pub first : from n path S ≡ found n path S ∷ after n (next n path S) S
  pub goes_on : ValidNext n (next n path S) S

-- each with a bit before it
abbrev pub ahead : Bool → Rests → Rests
ahead b L = map (λ l. b ∷ l) L

-- what is left after the 0 side, and after the 1 side
low_rest : (n : ℕ) (S : Rests) (N : NextPath) (z : Bool) → is_nil (branch true S) ≡ z → is_nil (branch false S) ≡ false → Uniform n (branch true S) → ValidNext n N (branch false S)
    → (ahead false (after n N (branch false S)) ++ ahead true (enum n (branch true S)) ≡ after (suc n) (onward (not z) false N) S) × ValidNext (suc n) (onward (not z) false N) S
low_rest n S (next_path p) z e f u v = (refl, (f, v))
low_rest n S no_path true e f u v = (ap (ahead true) (enum_none n (branch true S) e), tt)
low_rest n S no_path false e f u v = (refl, (e, some-next_path n (branch true S) u e))

high_rest : (n : ℕ) (S : Rests) (N : NextPath) → is_nil (branch true S) ≡ false → ValidNext n N (branch true S)
    → (ahead true (after n N (branch true S)) ≡ after (suc n) (onward false true N) S) × ValidNext (suc n) (onward false true N) S
high_rest n S (next_path p) e v = (refl, (e, v))
high_rest n S no_path e v = (refl, tt)

-- a pass through the triple that takes t
LawAt : ℕ → List Bool → Rests → Bool → Bool → Type 0
LawAt n path S t f =
    (from (suc n) path S ≡ (t ∷ found n (tail_of path) (branch t S)) ∷ after (suc n) (onward f t (next n (tail_of path) (branch t S))) S)
    × ValidNext (suc n) (onward f t (next n (tail_of path) (branch t S))) S

low : (n : ℕ) (path : List Bool) (S : Rests) → Uniform (suc n) S → is_nil (branch false S) ≡ false
    → from (suc n) path S ≡ ahead false (from n (tail_of path) (branch false S)) ++ ahead true (enum n (branch true S))
    → Law n (tail_of path) (branch false S) → LawAt n path S false (not (is_nil (branch true S)))
unfolding LawAt
low n path S u f e w =
    let r = low_rest n S (next n (tail_of path) (branch false S)) (is_nil (branch true S)) refl f (uniform_branch true n S u) w.goes_on in
    (e ∙ ap (λ l. ahead false l ++ ahead true (enum n (branch true S))) w.first ∙ ap (λ l. (false ∷ found n (tail_of path) (branch false S)) ∷ l) r.0, r.1)

high : (n : ℕ) (path : List Bool) (S : Rests) → is_nil (branch true S) ≡ false
    → from (suc n) path S ≡ ahead true (from n (tail_of path) (branch true S))
    → Law n (tail_of path) (branch true S) → LawAt n path S true false
unfolding LawAt
high n path S f e w =
    let r = high_rest n S (next n (tail_of path) (branch true S)) f w.goes_on in
    (e ∙ ap (ahead true) w.first ∙ ap (λ l. (true ∷ found n (tail_of path) (branch true S)) ∷ l) r.0, r.1)

-- from the bit and the fork to the pass
to_law : (n : ℕ) (path : List Bool) (S : Rests) (t f : Bool) → taken path S ≡ t → forked path S ≡ f → LawAt n path S t f → Law (suc n) path S
unfolding LawAt
to_law n path S t f p q w =
    let v = subst₂ (LawAt n path S) (sym p) (sym q) w in record { first = v.0; goes_on = v.1 }

-- which bit is taken
low_bit : (x y : Bool) (path : List Bool) → x ≡ false → head_from path ≡ false → (chosen x y path ≡ false) × ((not x && not y && not (chosen x y path)) ≡ not y)
low_bit true y path e h = absurd (true≢false e)
low_bit false true path e h = (refl, refl)
low_bit false false path e h = (h, ap not h)

high_bit : (x y : Bool) (path : List Bool) → y ≡ false → (x ≡ true) ⊎ (head_from path ≡ true) → (chosen x y path ≡ true) × ((not x && not y && not (chosen x y path)) ≡ false)
high_bit x true path e h = absurd (true≢false e)
high_bit true false path e h = (refl, refl)
high_bit false false path e (inl h) = absurd (false≢true h)
high_bit false false path e (inr h) = (h, ap not h)

-- one pass finds the first number from its path on, and leaves the path to the next
pub pass_law : (n : ℕ) (path : List Bool) (S : Rests) → Uniform n S → Valid n path S → Law n path S
pass_law zero [] [] u v = absurd (true≢false v)
pass_law zero (p ∷ ps) [] u v = absurd (true≢false v)
pass_law zero [] (s ∷ S) u v = record { first = refl; goes_on = tt }
pass_law zero (p ∷ ps) (s ∷ S) u v = record { first = refl; goes_on = tt }
pass_law (suc n) [] S u v = free_way n S u v (is_nil (branch false S)) refl (pass_law n [] (branch false S)) (pass_law n [] (branch true S))
  where
    free_way : (n : ℕ) (S : Rests) → Uniform (suc n) S → (is_nil (branch false S) ≡ false) ⊎ (is_nil (branch true S) ≡ false) → (x : Bool) → is_nil (branch false S) ≡ x
        → (Uniform n (branch false S) → Valid n [] (branch false S) → Law n [] (branch false S)) → (Uniform n (branch true S) → Valid n [] (branch true S) → Law n [] (branch true S)) → Law (suc n) [] S
    free_way n S u v false e f g =
        let b = low_bit (is_nil (branch false S)) (is_nil (branch true S)) [] e refl in
        to_law n [] S false (not (is_nil (branch true S))) b.0 b.1
        (low n [] S u e refl (f (uniform_branch false n S u) (some-next_path n (branch false S) (uniform_branch false n S u) e)))
    free_way n S u (inl v) true e f g = absurd (true≢false (sym e ∙ v))
    free_way n S u (inr v) true e f g =
        let b = high_bit (is_nil (branch false S)) (is_nil (branch true S)) [] v (inl e) in
        to_law n [] S true false b.0 b.1
        (high n [] S v (ap (λ l. ahead false l ++ ahead true (enum n (branch true S))) (enum_none n (branch false S) e)) (g (uniform_branch true n S u) (some-next_path n (branch true S) (uniform_branch true n S u) v)))
pass_law (suc n) (false ∷ ps) S u v =
    let b = low_bit (is_nil (branch false S)) (is_nil (branch true S)) (false ∷ ps) v.0 refl in
    to_law n (false ∷ ps) S false (not (is_nil (branch true S))) b.0 b.1
    (low n (false ∷ ps) S u v.0 refl (pass_law n ps (branch false S) (uniform_branch false n S u) v.1))
pass_law (suc n) (true ∷ ps) S u v =
    let b = high_bit (is_nil (branch false S)) (is_nil (branch true S)) (true ∷ ps) v.0 (inr refl) in
    to_law n (true ∷ ps) S true false b.0 b.1
    (high n (true ∷ ps) S v.0 refl (pass_law n ps (branch true S) (uniform_branch true n S u) v.1))

-- a valid way stays valid, and somebody answers in each triple
pub valid_on : (n : ℕ) (path : List Bool) (S : Rests) → Uniform (suc n) S → Valid (suc n) path S → Valid n (tail_of path) (branch (taken path S) S) × ((is_nil (branch false S) && is_nil (branch true S)) ≡ false)
valid_on n [] S u v = go (is_nil (branch false S)) refl v
  where
    go : (x : Bool) → is_nil (branch false S) ≡ x → (is_nil (branch false S) ≡ false) ⊎ (is_nil (branch true S) ≡ false) → Valid n [] (branch (taken [] S) S) × ((is_nil (branch false S) && is_nil (branch true S)) ≡ false)
    go false e w = (subst (λ t. Valid n [] (branch t S)) (sym (low_bit _ (is_nil (branch true S)) [] e refl).0) (some-next_path n (branch false S) (uniform_branch false n S u) e), ap (λ b. b && is_nil (branch true S)) e)
    go true e (inl w) = absurd (true≢false (sym e ∙ w))
    go true e (inr w) = (subst (λ t. Valid n [] (branch t S)) (sym (high_bit (is_nil (branch false S)) _ [] w (inl e)).0) (some-next_path n (branch true S) (uniform_branch true n S u) w), ap₂ (λ a b. a && b) e w)
valid_on n (false ∷ ps) S u v =
    (subst (λ t. Valid n ps (branch t S)) (sym (low_bit _ (is_nil (branch true S)) (false ∷ ps) v.0 refl).0) v.1, ap (λ b. b && is_nil (branch true S)) v.0)
valid_on n (true ∷ ps) S u v =
    (subst (λ t. Valid n ps (branch t S)) (sym (high_bit (is_nil (branch false S)) _ (true ∷ ps) v.0 (inr refl)).0) v.1, ap (λ b. is_nil (branch false S) && b) v.0 ∙ and-false (is_nil (branch false S)))

-- What the passes list: each number once, 0 before 1 at the first differing bit, and no other.
use Rattle.std.proofs.Common.{◌≡◌, ℕ, zero, suc, Bool, true, false, ◌⊎◌, List, [], ◌∷◌, ◌++◌, sym, refl, ap, ◌∙◌, subst, inl, inr, arith}
use Rattle.base.specs.Bits.{same}
use Rattle.rom_search.specs.Laws.{Before}
use Rattle.rom_search.proofs.Searchers.{In, in_branch}
use Rattle.rom_search.proofs.Enumerate.{Rests, branch, enum, Uniform, uniform_branch, ahead}

abbrev pub BeforeAll : List Bool → Rests → Type 0
BeforeAll x [] = Unit {0}
BeforeAll x (y ∷ L) = Before x y × BeforeAll x L

abbrev pub Ordered : Rests → Type 0
Ordered [] = Unit {0}
Ordered (x ∷ L) = BeforeAll x L × Ordered L

before_same : (b : Bool) (x : List Bool) (L : Rests) → BeforeAll x L → BeforeAll (b ∷ x) (ahead b L)
before_same b x [] h = tt
before_same true x (y ∷ L) h = (h.0, before_same true x L h.1)
before_same false x (y ∷ L) h = (h.0, before_same false x L h.1)

before_cross : (x : List Bool) (L : Rests) → BeforeAll (false ∷ x) (ahead true L)
before_cross x [] = tt
before_cross x (y ∷ L) = (tt, before_cross x L)

before_both : (x : List Bool) (L M : Rests) → BeforeAll x L → BeforeAll x M → BeforeAll x (L ++ M)
before_both x [] M h g = g
before_both x (y ∷ L) M h g = (h.0, before_both x L M h.1 g)

ordered_ahead : (b : Bool) (L : Rests) → Ordered L → Ordered (ahead b L)
ordered_ahead b [] o = tt
ordered_ahead b (x ∷ L) o = (before_same b x L o.0, ordered_ahead b L o.1)

ordered_join : (L M : Rests) → Ordered L → Ordered M → Ordered (ahead false L ++ ahead true M)
ordered_join [] M o p = ordered_ahead true M p
ordered_join (x ∷ L) M o p = (before_both (false ∷ x) (ahead false L) (ahead true M) (before_same false x L o.0) (before_cross x M), ordered_join L M o.1 p)

pub enum_ordered : (n : ℕ) (S : Rests) → Ordered (enum n S)
enum_ordered zero [] = tt
enum_ordered zero (s ∷ S) = (tt, tt)
enum_ordered (suc n) S = ordered_join (enum n (branch false S)) (enum n (branch true S)) (enum_ordered n (branch false S)) (enum_ordered n (branch true S))

-- membership
in_left : (y : List Bool) (L M : Rests) → In y L → In y (L ++ M)
in_left y [] M h = absurd h
in_left y (x ∷ L) M (inl e) = inl e
in_left y (x ∷ L) M (inr h) = inr (in_left y L M h)

in_right : (y : List Bool) (L M : Rests) → In y M → In y (L ++ M)
in_right y [] M h = h
in_right y (x ∷ L) M h = inr (in_right y L M h)

in_either : (y : List Bool) (L M : Rests) → In y (L ++ M) → In y L ⊎ In y M
in_either y [] M h = inr h
in_either y (x ∷ L) M (inl e) = inl (inl e)
in_either y (x ∷ L) M (inr h) = elim (in_either y L M h) [ inl g ↦ inl (inr g) | inr g ↦ inr g ]

in_ahead : (b : Bool) (y : List Bool) (L : Rests) → In y L → In (b ∷ y) (ahead b L)
in_ahead b y [] h = absurd h
in_ahead b y (x ∷ L) (inl e) = inl (ap (λ l. b ∷ l) e)
in_ahead b y (x ∷ L) (inr h) = inr (in_ahead b y L h)

from_ahead : (b : Bool) (y : List Bool) (L : Rests) → In y (ahead b L) → (z : List Bool) × (y ≡ b ∷ z) × In z L
from_ahead b y [] h = absurd h
from_ahead b y (x ∷ L) (inl e) = (x, e, inl refl)
from_ahead b y (x ∷ L) (inr h) = let t = from_ahead b y L h in (t.0, t.1, inr t.2)

to_branch : (b : Bool) (n : ℕ) (y : List Bool) (S : Rests) → Uniform (suc n) S → In (b ∷ y) S → In y (branch b S)
to_branch b n y [] u h = absurd h
to_branch b n y ([] ∷ S) u h = absurd u
to_branch b n y ((x ∷ xs) ∷ S) u (inl e) =
    let p : b ≡ x = cc in let q : y ≡ xs = cc in
    subst (λ t. In y (elim t [ true ↦ xs ∷ branch b S | false ↦ branch b S ])) (sym (subst (λ c. same x c ≡ true) (sym p) (self x))) (inl q)
  where
    self : (a : Bool) → same a a ≡ true
    self true = refl
    self false = refl
to_branch b n y ((x ∷ xs) ∷ S) u (inr h) =
    let g = to_branch b n y S u.1 h in elim (same x b) as (λ t. In y (elim t [ true ↦ xs ∷ branch b S | false ↦ branch b S ])) [ true ↦ inr g | false ↦ g ]

pub enum_in : (n : ℕ) (y : List Bool) (S : Rests) → Uniform n S → In y (enum n S) → In y S
enum_in zero y [] u h = h
enum_in zero y (s ∷ S) u (inl e) = inl (e ∙ sym u.0)
enum_in zero y (s ∷ S) u (inr h) = absurd h
enum_in (suc n) y S u h = go (in_either y (ahead false (enum n (branch false S))) (ahead true (enum n (branch true S))) h) (λ b z g. enum_in n z (branch b S) (uniform_branch b n S u) g)
  where
    go : In y (ahead false (enum n (branch false S))) ⊎ In y (ahead true (enum n (branch true S))) → ((b : Bool) (z : List Bool) → In z (enum n (branch b S)) → In z (branch b S)) → In y S
    go (inl g) ih = let t = from_ahead false y (enum n (branch false S)) g in subst (λ l. In l S) (sym t.1) (in_branch false t.0 S (ih false t.0 t.2))
    go (inr g) ih = let t = from_ahead true y (enum n (branch true S)) g in subst (λ l. In l S) (sym t.1) (in_branch true t.0 S (ih true t.0 t.2))

all_nil : (y : List Bool) (S : Rests) → Uniform zero S → In y S → y ≡ []
all_nil y [] u h = absurd h
all_nil y (s ∷ S) u (inl e) = e ∙ u.0
all_nil y (s ∷ S) u (inr h) = all_nil y S u.1 h

no_nil : (n : ℕ) (S : Rests) → Uniform (suc n) S → In [] S → ⊥
no_nil n [] u h = h
no_nil n ([] ∷ S) u h = u
no_nil n ((x ∷ xs) ∷ S) u (inl e) = let z : ◌≡◌ {A = ℕ} 0 1 = cc in omega arith
no_nil n ((x ∷ xs) ∷ S) u (inr h) = no_nil n S u.1 h

pub in_enum : (n : ℕ) (y : List Bool) (S : Rests) → Uniform n S → In y S → In y (enum n S)
in_enum zero y [] u h = h
in_enum zero y (s ∷ S) u h = inl (all_nil y (s ∷ S) u h)
in_enum (suc n) [] S u h = absurd (no_nil n S u h)
in_enum (suc n) (false ∷ y) S u h = in_left (false ∷ y) _ _ (in_ahead false y (enum n (branch false S)) (in_enum n y (branch false S) (uniform_branch false n S u) (to_branch false n y S u h)))
in_enum (suc n) (true ∷ y) S u h = in_right (true ∷ y) (ahead false (enum n (branch false S))) _ (in_ahead true y (enum n (branch true S)) (in_enum n y (branch true S) (uniform_branch true n S u) (to_branch true n y S u h)))

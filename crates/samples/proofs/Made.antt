-- A list made by a call for each index.
use Rattle.std.proofs.Common.{◌≡◌, ℕ, zero, suc, ◌<◌, List, [], ◌∷◌, map, length, get_or, refl, ◌∙◌, arith}
use Rattle.std.specs.List.{range_with_len}
use Rattle.std.proofs.lemmas.List.{get_or-map, length-map}
use Rattle.std.proofs.lemmas.List.FromFn.{fill_by_all}

-- what is seen of each element, if it is known wherever there is one
pub all_made : {X Y : Type 0} (see : X → Y) (f : ℕ → Y) (xs : List X) (n : ℕ) → length xs ≡ n
    → ((i : ℕ) (e : X) → i < n → see (get_or xs i e) ≡ f i) → map see xs ≡ map f (range_with_len 0 n)
all_made see f [] zero h each = refl
all_made see f [] (suc n) h each = absurd (omega arith)
all_made see f (x ∷ xs) n h each = fill_by_all f (map see (x ∷ xs)) n (see x) (length-map (x ∷ xs) see ∙ h) (λ k lt. let inside : k < length (x ∷ xs) = omega arith in get_or-map see (x ∷ xs) k x (see x) inside ∙ each k x lt)

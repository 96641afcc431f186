-- The chips of several lines, one line after another: a step of each line in turn, and a question to all.
use Rattle.std.proofs.Common.{◌≡◌, ℕ, ◌+◌, ◌-◌, ◌<◌, ◌≤◌, Bool, true, false, ◌&&◌, ◌||◌, List, [], ◌∷◌, ◌++◌, map, length, get_or, take, drop, set, sym, refl, ap, ◌∙◌, ap₂, arith}
use Rattle.std.specs.List.{list_any, list_all, flat_map}
use Rattle.std.proofs.lemmas.List.{take_more, take_more_set, drop_more, map-append, length-drop, take_all, drop-set-lt, append-nil}
use Rattle.std.proofs.lemmas.List.Concat.{flat_map-append}
use Rattle.chip.specs.ChipStates.{ChipState}
use Rattle.line.specs.Lines.{some, every}

some-append : (f : ChipState → Bool) (xs ys : List ChipState) → some f (xs ++ ys) ≡ (some f xs || some f ys)
some-append f [] ys = refl
some-append f (x ∷ xs) ys = elim (f x) as (λ b. (b || some f (xs ++ ys)) ≡ ((b || some f xs) || some f ys)) [ true ↦ refl | false ↦ some-append f xs ys ]

every-append : (f : ChipState → Bool) (xs ys : List ChipState) → every f (xs ++ ys) ≡ (every f xs && every f ys)
every-append f [] ys = refl
every-append f (x ∷ xs) ys = elim (f x) as (λ b. (b && every f (xs ++ ys)) ≡ ((b && every f xs) && every f ys)) [ true ↦ every-append f xs ys | false ↦ refl ]

module _ {L : Type 0} (chips : L → List ChipState) where
  -- a step has reached the chips of the first i lines, and the other lines are as they were
  pub record Stepped (f : ChipState → ChipState) (old new : List L) (i : ℕ) : Type 0 where
    pub reached : flat_map chips (take i new) ≡ map f (flat_map chips (take i old))
    pub others : drop i new ≡ drop i old

  one_more : (ls : List L) (l : L) → flat_map chips (ls ++ (l ∷ [])) ≡ flat_map chips ls ++ chips l
  one_more ls l = flat_map-append chips ls (l ∷ []) ∙ ap (λ t. flat_map chips ls ++ t) (append-nil (chips l))

  module _ {f : ChipState → ChipState} {old new : List L} {i : ℕ} (s : Stepped f old new i) where
    left : length new - i ≡ length old - i
    left = sym (length-drop i new) ∙ ap length s.others ∙ length-drop i old

    -- it reaches the chips of the line at i, which x was and y becomes
    pub stepped_more : {x y : L} → x ≡ get_or new i x → chips y ≡ map f (chips (get_or new i x)) → i < length old → Stepped f old (set new i y) (i + 1)
    stepped_more {x} {y} here one ho =
        let rests = left in
        let hn : i < length new = omega arith in
        let below : i < i + 1 = omega arith in
        let p = drop_more new i x hn in
        let q = drop_more old i x ho in
        let e = s.others in
        let at : x ≡ get_or old i x = cc in
        let rest : drop (i + 1) new ≡ drop (i + 1) old = cc in
        let taken : take i old ++ (x ∷ []) ≡ take (i + 1) old = ap (λ l. take i old ++ (l ∷ [])) at ∙ sym (take_more old i x ho) in
        record {
          reached =
              ap (flat_map chips) (take_more_set new i y hn) ∙ one_more (take i new) y ∙ ap₂ (λ a b. a ++ b) s.reached (one ∙ ap (λ l. map f (chips l)) (sym here))
              ∙ sym (map-append f (flat_map chips (take i old)) (chips x)) ∙ ap (map f) (sym (one_more (take i old) x) ∙ ap (flat_map chips) taken);
          others = drop-set-lt (i + 1) new i y below ∙ rest;
        }

    -- at the end it has reached every chip
    pub stepped_all : length old ≡ i → flat_map chips new ≡ map f (flat_map chips old)
    stepped_all ho =
        let rests = left in
        let hn : length new ≤ i = omega arith in
        let hi : length old ≤ i = omega arith in
        ap (flat_map chips) (sym (take_all i new hn)) ∙ s.reached ∙ ap (λ l. map f (flat_map chips l)) (take_all i old hi)

  pub some_over : (f : ChipState → Bool) (ls : List L) → list_any (λ l. some f (chips l)) ls ≡ some f (flat_map chips ls)
  some_over f [] = refl
  some_over f (l ∷ ls) = ap (λ b. some f (chips l) || b) (some_over f ls) ∙ sym (some-append f (chips l) (flat_map chips ls))

  pub every_over : (f : ChipState → Bool) (ls : List L) → list_all (λ l. every f (chips l)) ls ≡ every f (flat_map chips ls)
  every_over f [] = refl
  every_over f (l ∷ ls) = ap (λ b. every f (chips l) && b) (every_over f ls) ∙ sym (every-append f (chips l) (flat_map chips ls))

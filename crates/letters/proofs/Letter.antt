-- Letters played so far.
use Rattle.std.proofs.Common.{◌≡◌, ℕ, ◌+◌, ◌<◌, List, [], ◌∷◌, ◌++◌, length, get_or, take, set, sym, refl, ap, ◌∙◌}
use Rattle.std.proofs.lemmas.List.{map-id, take_more}
use Rattle.rig.specs.Rigs.{RigState}
use Rattle.history.proofs.Runs.{turn}
use Rattle.letters.specs.Letters.{requested, script, script_all, count_after, count_all}

-- from `r`, the first n letters lead to `s` and print what stands in the first n places
abbrev pub Printed : RigState → ℕ → List ℕ → List ℕ → RigState → Type 0
Printed s n output input r = ◌≡◌ {A = RigState × List ℕ} (s, take n output) (script_all (take n input) r)

abbrev same : ℕ → ℕ
same x = x

pub letter_more : (input output : List ℕ) (i letter x : ℕ) (r s t : RigState) → i < length input → i < length output
    → Printed s i output input r → ◌≡◌ {A = RigState × ℕ} (t, x) (script letter s) → letter ≡ get_or input i 0 → Printed t (i + 1) (set output i x) input r
letter_more input output i letter x r s t hi ho before one at =
    ap (λ l. (t, l)) (sym (map-id (take (i + 1) (set output i x))))
    ∙ turn script same same input output i 0 x r s t hi ho
    (ap (λ l. (s, l)) (map-id (take i output)) ∙ before ∙ ap (λ l. script_all l r) (sym (map-id (take i input))))
    (one ∙ ap (λ k. script k s) at)
    ∙ ap (λ l. script_all l r) (map-id (take (i + 1) input))

-- what the rig has counted after one letter more
count_push : (letters : List ℕ) (letter : ℕ) (r : RigState) (n : ℕ)
    → count_all (letters ++ (letter ∷ [])) r n ≡ count_after (requested letter) (script_all letters r).0 (count_all letters r n)
count_push [] letter r n = refl
count_push (l ∷ ls) letter r n = count_push ls letter (script l r).0 (count_after (requested l) r n)

pub count_more : (input output : List ℕ) (i letter : ℕ) (r s : RigState) (n m t : ℕ) → i < length input → Printed s i output input r
    → m ≡ count_all (take i input) r n → t ≡ count_after (requested letter) s m → letter ≡ get_or input i 0 → t ≡ count_all (take (i + 1) input) r n
count_more input output i letter r s n m t h printed before one at =
    one ∙ ap (λ x. count_after (requested x) s m) at
    ∙ ap (count_after (requested (get_or input i 0)) s) before
    ∙ ap (λ (u : RigState × List ℕ). count_after (requested (get_or input i 0)) u.0 (count_all (take i input) r n)) printed
    ∙ sym (count_push (take i input) (get_or input i 0) r n)
    ∙ ap (λ l. count_all l r n) (sym (take_more input i 0 h))

-- Where two rows differ.
use Rattle.std.specs.Prelude.{ℕ, ◌+◌, true, false, List, [], ◌∷◌, Some, None, Option, ◌==◌}

-- the first index at which two lists differ, counted from i; the end of the shorter one where they differ in length alone
abbrev pub differ_from : ℕ → List ℕ → List ℕ → Option ℕ
differ_from i [] [] = None
differ_from i [] (y ∷ ys) = Some i
differ_from i (x ∷ xs) [] = Some i
differ_from i (x ∷ xs) (y ∷ ys) = elim (x == y) [ true ↦ differ_from (i + 1) xs ys | false ↦ Some i ]

-- the same, by a name that stays shut where it need not be opened
unfoldable pub first_difference : List ℕ → List ℕ → Option ℕ
first_difference xs ys = differ_from 0 xs ys

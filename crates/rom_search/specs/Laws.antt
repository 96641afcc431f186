-- Laws of every search on every rig.
use Rattle.std.specs.Prelude.{◌≡◌, ℕ, zero, suc, ◌+◌, ◌-◌, ◌*◌, ◌<◌, ◌≤◌, Bool, true, false, ◌⊎◌, List, [], ◌∷◌, ◌++◌, map, length, take, ◌≢◌}
use Rattle.base.specs.Bits.{bits_of}
use Rattle.chip.specs.ChipStates.{ChipState, has_power, bytes_of}
use Rattle.chip.specs.Histories.{MetAll}
use Rattle.line.specs.Lines.{any_busy}
use Rattle.rig.specs.Rigs.{RigState}
use Rattle.wire.specs.Jobs.{answered, refused_as, steps_in}
use Rattle.wire.specs.Laws.{Uncut}
use Rattle.rom_search.specs.Searches.{passes, room_of, search_call}

-- the numbers of the powered chips
abbrev pub numbers_on : List ChipState → List ℕ
numbers_on [] = []
numbers_on (c ∷ cs) = elim (has_power c) [ true ↦ c.number ∷ numbers_on cs | false ↦ numbers_on cs ]

abbrev pub In : ℕ → List ℕ → Type 0
In x [] = ⊥
In x (y ∷ ys) = (x ≡ y) ⊎ In x ys

-- 0 before 1 at the first differing bit
abbrev pub Before : List Bool → List Bool → Type 0
Before [] ys = ⊥
Before (x ∷ xs) [] = ⊥
Before (false ∷ xs) (false ∷ ys) = Before xs ys
Before (false ∷ xs) (true ∷ ys) = Unit {0}
Before (true ∷ xs) (false ∷ ys) = ⊥
Before (true ∷ xs) (true ∷ ys) = Before xs ys

abbrev pub BeforeEach : ℕ → List ℕ → Type 0
BeforeEach x [] = Unit {0}
BeforeEach x (y ∷ ys) = Before (bits_of 64 x) (bits_of 64 y) × BeforeEach x ys

-- each before all that follow it, so none twice
abbrev pub Ordered : List ℕ → Type 0
Ordered [] = Unit {0}
Ordered (x ∷ xs) = BeforeEach x xs × Ordered xs

-- the numbers of the powered chips, each once, in the order of their bits
pub record Sequence (l : List ChipState) (xs : List ℕ) : Type 0 where
  pub ordered : Ordered xs
  pub only : (x : ℕ) → In x xs → In x (numbers_on l)
  pub every : (x : ℕ) → In x (numbers_on l) → In x xs

abbrev pub Front : List ℕ → List ℕ → Type 0
Front xs ys = (zs : List ℕ) × (xs ++ zs ≡ ys)

-- what a search with so many places tells of the sequence xs
pub record Lists (places : ℕ) (r : RigState) (xs : List ℕ) : Type 0 where
  -- neither refused nor cut, it lists the sequence and answers its length
  pub complete : Uncut (passes (room_of places) 1 [] []) r → (count steps : ℕ) (found : List ℕ) → (search_call places r).1 ≡ (answered count steps, found)
      → (found ≡ xs) × (count ≡ length xs)
  -- not cut, it is refused with 9 where there are more numbers than room, with the first of them in the places
  pub full : Uncut (passes (room_of places) 1 [] []) r → room_of places < length xs
      → (steps : ℕ) × ((search_call places r).1 ≡ (refused_as 9 (room_of places) steps, take (room_of places) xs))
  -- and it answers where there is room and a chip with power
  pub answers : Uncut (passes (room_of places) 1 [] []) r → 0 < length xs → length xs ≤ room_of places
      → (steps : ℕ) × ((search_call places r).1 ≡ (answered (length xs) steps, xs))
  -- refused, cut or not, it leaves a front of the sequence
  pub front : (k e steps : ℕ) (found : List ℕ) → (search_call places r).1 ≡ (refused_as k e steps, found) → Front found xs

-- a search is complete
abbrev pub SearchComplete : Type 0
SearchComplete =
    (r : RigState) (places : ℕ) → MetAll r.line → (places ≢ 0) → any_busy r.line ≡ false
    → (xs : List ℕ) × Sequence r.line xs × Lists places r xs

-- refusal 3 comes before any step, to a line that is busy, with all unchanged, whatever its chips have met
abbrev pub BusyUnchanged : Type 0
BusyUnchanged =
    (r : RigState) (places e steps : ℕ) (found : List ℕ) → (search_call places r).1 ≡ (refused_as 3 e steps, found)
    → ((search_call places r).0 ≡ r) × (any_busy r.line ≡ true) × (found ≡ []) × (e ≡ 0) × (steps ≡ 0)

-- a search changes no tag's bytes
abbrev pub BytesStay : Type 0
BytesStay = (r : RigState) (places : ℕ) → map bytes_of (search_call places r).0.line ≡ map bytes_of r.line

-- a search takes 201 steps for each number that it lists
abbrev pub SearchSteps : Type 0
SearchSteps =
    (r : RigState) (places count steps : ℕ) (found : List ℕ)
    → ((search_call places r).1 ≡ (answered count steps, found)) ⊎ ((search_call places r).1 ≡ (refused_as 9 count steps, found))
    → steps ≡ 201 * count

-- one refused with 5 in a pass made the passes before it, and then one reset that nobody answered
abbrev pub AbsentSteps : Type 0
AbsentSteps =
    (r : RigState) (places pass steps : ℕ) (found : List ℕ) → (search_call places r).1 ≡ (refused_as 5 pass steps, found) → steps ≡ 201 * (pass - 1) + 1

-- the most steps where so many numbers are to be listed: a pass for each; where there is none, one reset
abbrev pub most_steps : ℕ → ℕ
most_steps zero = 1
most_steps (suc n) = 201 * suc n

-- answered, refused or cut, a search takes at most 201 steps for each number that a powered chip has at its start, and 1 where none has
abbrev pub SearchBound : Type 0
SearchBound =
    (r : RigState) (places : ℕ) → MetAll r.line
    → (xs : List ℕ) × Sequence r.line xs × (steps_in (search_call places r).1.0 ≤ most_steps (length xs))

-- Words for laws of jobs: the moments of a job, the tag with a number, its power and its bytes.
use Rattle.std.specs.Prelude.{◌≡◌, ℕ, zero, suc, Bool, true, false, ◌&&◌, ◌||◌, ◌≢◌, List, [], ◌∷◌, ◌++◌, drop, ◌==◌}
use Rattle.kinds.specs.Kinds.{row_length}
use Rattle.memory.specs.Memories.{HasScratchpad}
use Rattle.chip.specs.ChipStates.{ChipState, has_power}
use Rattle.rig.specs.Rigs.{RigState, FuseState, none, after, pulse, refused}
use Rattle.wire.specs.Jobs.{Job, ret, step}

-- the rig after each step of a job
abbrev pub states : {A : Type 0} → Job A → RigState → List RigState
states (ret a) r = []
states (step p k) r = elim (refused p r.line) [ true ↦ [] | false ↦ (pulse p r).0 ∷ states (k (pulse p r).1) (pulse p r).0 ]

-- chip by chip, in their sequence
abbrev pub Along : (ChipState → ChipState → Type 0) → List ChipState → List ChipState → Type 0
Along R [] [] = Unit {0}
Along R [] (d ∷ ds) = ⊥
Along R (c ∷ cs) [] = ⊥
Along R (c ∷ cs) (d ∷ ds) = R c d × Along R cs ds

-- a chip with the number has power
abbrev pub powered_in : ℕ → List ChipState → Bool
powered_in x [] = false
powered_in x (c ∷ cs) = c.number == x && has_power c || powered_in x cs

abbrev pub KeptPower : ℕ → List RigState → Type 0
KeptPower x [] = Unit {0}
KeptPower x (r ∷ rs) = (powered_in x r.line ≡ true) × KeptPower x rs

abbrev pub NoneHas : ℕ → List ChipState → Type 0
NoneHas x [] = Unit {0}
NoneHas x (c ∷ cs) = (c.number ≢ x) × NoneHas x cs

-- exactly one chip has the number, and that one has a scratchpad
pub record Single (x : ℕ) (l : List ChipState) : Type 0 where
  pub before : List ChipState
  pub tag : ChipState
  pub behind : List ChipState
  pub so : l ≡ before ++ (tag ∷ behind)
  pub is : tag.number ≡ x
  pub pad : HasScratchpad tag.memory
  pub none_before : NoneHas x before
  pub none_behind : NoneHas x behind

-- the next n bytes, FFh past the end
abbrev pub first_bytes : ℕ → List ℕ → List ℕ
first_bytes zero m = []
first_bytes (suc n) [] = 255 ∷ first_bytes n []
first_bytes (suc n) (b ∷ bs) = b ∷ first_bytes n bs

-- the bytes of a row that F0h gives
abbrev pub row_in : List ℕ → ℕ → List ℕ
row_in m row = first_bytes row_length (drop row m)

-- no step of a job becomes a cut
abbrev pub NextUncut : FuseState → Type 0
NextUncut none = Unit {0}
NextUncut (after zero mask) = ⊥
NextUncut (after (suc n) mask) = Unit {0}

abbrev pub Uncut : {A : Type 0} → Job A → RigState → Type 0
Uncut (ret a) r = Unit {0}
Uncut (step p k) r = elim (refused p r.line) [ true ↦ Unit {0} | false ↦ NextUncut r.fuse × Uncut (k (pulse p r).1) (pulse p r).0 ]

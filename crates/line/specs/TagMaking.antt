-- Making a tag, in a lent place or given back.
use Rattle.std.specs.Prelude.{◌≡◌, ℕ, ◌^◌, ◌<◌, true, false, List, length, Some, None, Ok, Err, Option, Result, ◌==◌}
use Rattle.base.specs.RegistrationNumbers.{IsChecked}
use Rattle.kinds.specs.Kinds.{Rules, Lawful, Bytes}
use Rattle.kinds.specs.ImageMaking.{refusal}
use Rattle.kinds.specs.declared.image_fault.ImageFault.{ImageFault}
use Rattle.memory.specs.Scratchpads.{on, fresh, idle}
use Rattle.memory.specs.Memories.{Memory, padded, HasScratchpad}
use Rattle.chip.specs.ChipStates.{ChipState, made_chip}
use Rattle.chip.specs.Histories.{Met}
use Rattle.chip.specs.ChipModel.{model}
use Rattle.line.specs.declared.one_tag.OneTag.{OneTag}

-- the chip of a tag just made: its number, its kind, its bytes, no power
abbrev pub made_tag : Rules → ℕ → List ℕ → ChipState
made_tag K number image = made_chip number (padded (record { rules = K; bytes = K.made image; work = on fresh idle }))

-- what the place holds afterwards, and the refusal's code if it was refused
abbrev pub placing : Rules → ℕ → List ℕ → Option ChipState → Option ChipState × Option ℕ
placing K number image held =
    elim (length image == K.image) [ true ↦ (Some (made_tag K number image), None) | false ↦ (held, Some 2) ]

module _ {P : Type 0} (memory : P → Memory) where
  -- the chip of a tag of the code
  abbrev pub chip_in : OneTag P → ChipState
  chip_in t = model memory t.chip

  abbrev pub place_of : Option (OneTag P) → Option ChipState
  place_of None = None
  place_of (Some t) = Some (chip_in t)

abbrev pub answer_of : Result (Unit {0}) ImageFault → Option ℕ
answer_of (Ok u) = None
answer_of (Err e) = Some (refusal e)

-- what is given back: the chip of a tag that was made, or the refusal's code
abbrev pub given : {T : Type 0} → (T → ChipState) → Result T ImageFault → Option ChipState × Option ℕ
given chip (Ok t) = (Some (chip t), None)
given chip (Err e) = (None, Some (refusal e))

-- a tag made from a registration number, a lawful kind and an image of its length has met nothing yet, and has a scratchpad
abbrev pub MadeMet : Type 0
MadeMet =
    (K : Rules) (number : ℕ) (image : List ℕ) → Lawful K → number < 2 ^ 64 → IsChecked number → length image ≡ K.image → Bytes image
    → Met (made_tag K number image) × HasScratchpad (made_tag K number image).memory

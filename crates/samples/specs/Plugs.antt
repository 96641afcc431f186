-- Practice plugs of one family, which differ in their serial numbers alone.
use Rattle.std.specs.Prelude.{ℕ, List, [], ◌∷◌, ◌++◌, replicate}
use Rattle.std.specs.Int.{w64, from_le_bytes}
use Rattle.base.specs.Crc.{crc8}
use Rattle.kinds.specs.PracticePlug.{plug}
use Rattle.chip.specs.ChipStates.{ChipState}
use Rattle.chip.specs.ChipModel.{model as chip_model}
use Rattle.memory.specs.Memories.{padded}
use Rattle.memory.specs.ScratchpadModel.{model}
use Rattle.memory.specs.declared.scratchpad_memory.ScratchpadMemory.{ScratchpadMemory}
use Rattle.line.specs.declared.one_tag.OneTag.{OneTag}
use Rattle.kinds.specs.declared.practice_plug.PracticePlug.{PracticePlug}
use Rattle.line.specs.TagMaking.{made_tag}

-- family code 2Dh and the six serial bytes, the serial number in the lowest
abbrev pub before_sum : ℕ → List ℕ
before_sum serial = 0x2D ∷ serial ∷ 0 ∷ 0 ∷ 0 ∷ 0 ∷ 0 ∷ []

abbrev pub plug_word : ℕ → ℕ
plug_word serial = from_le_bytes w64 (before_sum serial ++ (crc8 (before_sum serial) ∷ []))

-- the chip of such a plug just made, whose bytes are all 00h
abbrev pub plug_chip : ℕ → ChipState
plug_chip serial = made_tag plug (plug_word serial) (replicate 64 0)

-- the chip of a plug of the code
abbrev pub chip_of : OneTag (ScratchpadMemory PracticePlug) → ChipState
chip_of t = chip_model (λ p. padded (model plug (λ k. k.image.bytes) p)) t.chip

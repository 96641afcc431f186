-- Tags whose kind is chosen when a program runs.
use Rattle.kinds.specs.Kinds.{Rules}
use Rattle.kinds.specs.SealedTag.{sealed, made}
use Rattle.kinds.specs.PracticePlug.{plug}
use Rattle.memory.specs.Memories.{padded}
use Rattle.memory.specs.ScratchpadModel.{model}
use Rattle.chip.specs.ChipStates.{ChipState}
use Rattle.line.specs.TagMaking.{chip_in}
use Rattle.line.specs.declared.any_tag.TagKind.{TagKind}
use Rattle.line.specs.declared.any_tag.TagKind.TheVariants.{Sealed, Plug}
use Rattle.line.specs.declared.any_tag.AnyTag.{AnyTag}
use Rattle.line.specs.declared.any_tag.AnyTag.TheVariants.{Sealed as SealedCase, Plug as PlugCase}

-- the rules that a kind stands for
abbrev pub rules_of : TagKind → Rules
rules_of Sealed = sealed
rules_of Plug = plug

-- the chip of such a tag, whichever its kind
abbrev pub chip_of : AnyTag → ChipState
chip_of (SealedCase t) = chip_in (λ p. padded (model sealed (λ k. made k.image.bytes) p)) t
chip_of (PlugCase t) = chip_in (λ p. padded (model plug (λ k. k.image.bytes) p)) t

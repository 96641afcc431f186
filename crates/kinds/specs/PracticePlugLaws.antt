-- The practice plug keeps the law of a kind.
use Rattle.std.proofs.Common.{refl, rules}
use Rattle.kinds.specs.Kinds.{Figures, Lawful}
use Rattle.kinds.specs.PracticePlug.{plug}

pub plug_figures : Figures plug 64 64 64
plug_figures = record { readable = refl; programmable = refl; image_length = refl }

pub plug_lawful : Lawful plug
plug_lawful = search rules

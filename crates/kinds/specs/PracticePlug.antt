-- The practice plug: 64 bytes, all readable and programmable, with no protection.
use Rattle.std.specs.Prelude.{ltb}
use Rattle.kinds.specs.Kinds.{Rules}

abbrev pub plug : Rules
plug = record { n = 64; w = 64; image = 64; made = λ m. m; load = λ m a x. x; copy_rule = λ m row. ltb row 64 }

-- Words that take bits from above.
use Rattle.std.specs.Prelude.{ℕ, ◌+◌, ◌*◌, ◌/◌, Bool}
use Rattle.base.specs.Bits.{bit}

-- a bit shifted into a word whose highest bit counts `top`
abbrev pub shifted : ℕ → ℕ → Bool → ℕ
shifted top word b = word / 2 + top * bit b

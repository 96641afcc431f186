-- What protection promises: bytes that stay, and bits that never rise.
use Rattle.std.specs.Prelude.{◌≡◌, ℕ, Bool, true, false, List, slice_index_or}
use Rattle.base.specs.Bits.{bits_of}
use Rattle.kinds.specs.Kinds.{at}
use Rattle.kinds.specs.SealedTag.{protected, eprom}

-- bit j of a byte
abbrev pub bit_at : ℕ → ℕ → Bool
bit_at j x = slice_index_or (bits_of 8 x) j false

-- what the bytes of a sealed tag allow later ones
pub record Keeps (m m' : List ℕ) : Type 0 where
  pub kept : (a : ℕ) → protected m a ≡ true → at m' a ≡ at m a  -- a write-protected byte stays
  pub falls : (a j : ℕ) → eprom m a ≡ true → bit_at j (at m a) ≡ false → bit_at j (at m' a) ≡ false  -- in EPROM mode a 0 stays 0

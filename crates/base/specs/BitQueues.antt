-- Bits that come and go, one after another.
use Rattle.std.specs.Prelude.{◌≡◌, ℕ, Bool, true, false, List, [], ◌∷◌, ◌++◌, Some, None, Option}
use Rattle.base.specs.Bits.{bits_of, value, full, rest_bits, none_left}
use Rattle.base.specs.declared.bit_queue.Incoming.{Incoming}
use Rattle.base.specs.declared.bit_queue.Outgoing.{Outgoing}

-- the bits that have come
unfoldable pub arrived : Incoming → List Bool
arrived i = bits_of i.count i.bits

-- the bits still to go
unfoldable pub queue : Outgoing → List Bool
queue o = bits_of o.left o.word

-- one more bit after bs leaves bs', and gives the byte that is then complete
abbrev pub Pushes : List Bool → Bool → List Bool → Option ℕ → Type 0
Pushes bs b bs' None = (bs' ≡ bs ++ (b ∷ [])) × (full (bs ++ (b ∷ [])) ≡ false)
Pushes bs b bs' (Some x) = (bs' ≡ []) × (x ≡ value (bs ++ (b ∷ []))) × (full (bs ++ (b ∷ [])) ≡ true)

-- the first of the bits xs gone, whatever follows them; or it is the last, and stays
abbrev pub Advances : List Bool → List Bool → Bool → Type 0
Advances xs xs' true = (rest_bits xs ≡ xs') × (none_left xs' ≡ false) × ((ys : List Bool) → rest_bits (xs ++ ys) ≡ xs' ++ ys)
Advances xs xs' false = (xs' ≡ xs) × (rest_bits xs ≡ []) × ((ys : List Bool) → rest_bits (xs ++ ys) ≡ ys)

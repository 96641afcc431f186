-- Kinds of tag: two figures, and rules that depend on the tag's bytes alone.
use Rattle.std.specs.Prelude.{◌≡◌, ℕ, suc, ◌+◌, ◌-◌, ◌%◌, ◌<◌, ◌≤◌, Bool, true, false, cond, ◌&&◌, List, [], ◌∷◌, length, ◌==◌, nat_le, nat_lt, slice_index_or}
use Rattle.base.specs.Bits.{bits_of, value, byte_of}

pub record Rules : Type 0 where
  pub n : ℕ  -- readable bytes
  pub w : ℕ  -- programmable bytes
  pub image : ℕ  -- the length of an image
  pub made : List ℕ → List ℕ  -- the bytes of a tag made from an image
  pub load : List ℕ → ℕ → ℕ → ℕ  -- bytes, address, sent byte: the byte to be loaded
  pub copy_rule : List ℕ → ℕ → Bool  -- bytes, row: may it be copied to

-- the copy rule's question, for the bytes of a tag: may this row be copied to
abbrev pub may_copy : Rules → List ℕ → ℕ → Bool
may_copy K m row = K.copy_rule m row

-- the constants of a kind are the figures of its rules
pub record Figures (K : Rules) (n w image : ℕ) : Type 0 where
  pub readable : n ≡ K.n
  pub programmable : w ≡ K.w
  pub image_length : image ≡ K.image

-- the byte at an address, FFh at N and above
abbrev pub at : List ℕ → ℕ → ℕ
at m a = slice_index_or m a 255

-- every one is a byte
abbrev pub Bytes : List ℕ → Type 0
Bytes m = (a : ℕ) → at m a < 256

-- the bytes of a row, and the mask that takes all of its bits
abbrev pub row_length : ℕ
row_length = 8

abbrev pub whole_row : ℕ
whole_row = 0xFFFFFFFFFFFFFFFF

-- what whoever adds a kind shows of its figures and rules
pub record Lawful (K : Rules) : Type 0 where
  pub n_rows : K.n % row_length ≡ 0
  pub w_rows : K.w % row_length ≡ 0
  pub w_some : row_length ≤ K.w
  pub w_in : K.w ≤ K.n
  pub n_in : K.n ≤ 4096
  pub made_whole : (m : List ℕ) → length m ≡ K.image → length (K.made m) ≡ K.n
  pub made_bytes : (m : List ℕ) → Bytes m → Bytes (K.made m)
  pub load_byte : (m : List ℕ) (a x : ℕ) → x < 256 → Bytes m → K.load m a x < 256
  pub load_past : (m : List ℕ) (a x : ℕ) → K.w ≤ a → K.load m a x ≡ x
  pub copy_past : (m : List ℕ) (row : ℕ) → K.w ≤ row → may_copy K m row ≡ false
  -- loading a byte that the address already holds answers that byte
  pub load_held : (m : List ℕ) (a : ℕ) → length m ≡ K.n → K.load m a (at m a) ≡ at m a

-- every byte b at address a becomes f a b
abbrev pub edit : ℕ → (ℕ → ℕ → ℕ) → List ℕ → List ℕ
edit a f [] = []
edit a f (b ∷ bs) = f a b ∷ edit (suc a) f bs

-- the new bit where the mask has a one, the old bit elsewhere
abbrev pub blend_bits : List Bool → List Bool → List Bool → List Bool
blend_bits [] ns os = []
blend_bits (m ∷ ms) [] os = []
blend_bits (m ∷ ms) (n ∷ ns) [] = []
blend_bits (m ∷ ms) (n ∷ ns) (o ∷ os) = cond m n o ∷ blend_bits ms ns os

abbrev pub blend : ℕ → ℕ → ℕ → ℕ
blend mask new old = value (blend_bits (bits_of 8 mask) (bits_of 8 new) (bits_of 8 old))

abbrev pub in_row : ℕ → ℕ → Bool
in_row row a = nat_le row a && nat_lt a (row + row_length)

-- programming of a row below w with new bytes through a mask: mask byte i is for row byte i
abbrev pub program : ℕ → ℕ → List ℕ → ℕ → List ℕ → List ℕ
program w row new mask m =
    edit 0 (λ a b. elim (in_row row a && nat_lt a w) [ true ↦ blend (byte_of mask (a - row)) (at new (a - row)) b | false ↦ b ]) m

-- what making a tag, or the image that it holds, gives
pub data Made : Type 0 where
  holding : List ℕ → Made  -- with its bytes
  refused : ℕ → Made  -- with the refusal's code

abbrev pub imaging : ℕ → List ℕ → Made
imaging size image = cond (length image == size) (holding image) (refused 2)

abbrev pub making : Rules → List ℕ → Made
making K image = cond (length image == K.image) (holding (K.made image)) (refused 2)

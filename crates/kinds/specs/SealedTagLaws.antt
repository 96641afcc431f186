-- The sealed tag keeps the law of a kind.
use Rattle.std.specs.Prelude.{◌≡◌, ℕ, zero, suc, ◌<◌, true, false, List, [], ◌∷◌, length, replicate, bit_and, refl}
use Rattle.std.proofs.Common.{arith, length-append, rules}
use Rattle.std.specs.Int.Bits.{and_self}
use Rattle.std.proofs.lemmas.Nat.{and_le_r}
use Rattle.std.proofs.lemmas.Bool.Decides.{nat_tests}
use Rattle.kinds.specs.Kinds.{at, Bytes, Figures, Lawful}
use Rattle.kinds.specs.SealedTag.{protected, eprom, load, made, sealed}

ones : (n a : ℕ) → at (replicate n 255) a ≡ 255
ones zero a = refl
ones (suc n) zero = refl
ones (suc n) (suc a) = ones n a

-- FFh stands behind the image, as it is read past its end
pub at-made : (m : List ℕ) (a : ℕ) → at (made m) a ≡ at m a
at-made [] a = ones 8 a
at-made (b ∷ bs) zero = refl
at-made (b ∷ bs) (suc a) = at-made bs a

pub bytes_made : (m : List ℕ) → Bytes m → Bytes (made m)
bytes_made m small a = rw (at-made m a) (small a)

-- whatever the tests say, a load answers a byte
pub load_byte : (m : List ℕ) (a x : ℕ) → x < 256 → Bytes m → load m a x < 256
load_byte m a x h small =
    elim (protected m a)
    as (λ p. elim p as (λ _. ℕ) [ true ↦ at m a | false ↦ elim (eprom m a) [ true ↦ bit_and x (at m a) | false ↦ x ] ] < 256) [
      | true ↦ small a
      | false ↦ elim (eprom m a) as (λ e. elim e as (λ _. ℕ) [ true ↦ bit_and x (at m a) | false ↦ x ] < 256)
          [ true ↦ omega (arith, and_le_r x (at m a), small a) | false ↦ h ]
    ]

pub load_held : (m : List ℕ) (a : ℕ) → load m a (at m a) ≡ at m a
load_held m a =
    elim (protected m a)
    as (λ p. elim p as (λ _. ℕ) [ true ↦ at m a | false ↦ elim (eprom m a) [ true ↦ bit_and (at m a) (at m a) | false ↦ at m a ] ] ≡ at m a) [
      | true ↦ refl
      | false ↦ elim (eprom m a) as (λ e. elim e as (λ _. ℕ) [ true ↦ bit_and (at m a) (at m a) | false ↦ at m a ] ≡ at m a)
          [ true ↦ and_self (at m a) | false ↦ refl ]
    ]

-- an image of 136 bytes is read as 144
pub made_length : (m : List ℕ) → length m ≡ 136 → length (made m) ≡ 144
made_length m h = simp length-append (omega arith)

pub sealed_figures : Figures sealed 144 136 136
sealed_figures = record { readable = refl; programmable = refl; image_length = refl }

pub sealed_lawful : Lawful sealed
sealed_lawful = record {
  n_rows = refl;
  w_rows = refl;
  w_some = search rules;
  w_in = search rules;
  n_in = search rules;
  made_whole = made_length;
  made_bytes = bytes_made;
  load_byte = load_byte;
  load_past = λ m a x h. grind (arith, nat_tests);
  copy_past = λ m row h. grind (arith, nat_tests);
  load_held = λ m a _. load_held m a;
}

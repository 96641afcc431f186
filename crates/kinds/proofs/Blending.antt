-- Blending old and new bits under a mask, in a word of any width.
use Rattle.std.proofs.Common.{◌≡◌, ℕ, zero, suc, ◌/◌, ◌%◌, ◌^◌, ◌<◌, ◌≤◌, Bool, true, false, cond, List, [], ◌∷◌, length, get_or, sym, refl, ap, ◌∙◌, arith}
use lib.Bits.{bit_and, bit_xor, and_shr, xor_shr, and_mod, xor_mod}
use Rattle.base.specs.Bits.{odd, bit, bits_of, value}
use Rattle.base.proofs.Queues.{double, bits_value}
use Rattle.base.specs.Widths.{bit-odd, value_bits}
use Rattle.kinds.specs.Kinds.{blend_bits, blend}

-- a blend as the code computes it
abbrev pub mixed : ℕ → ℕ → ℕ → ℕ
mixed m w o = bit_xor o (bit_and (bit_xor o w) m)

mixed_half : (m w o : ℕ) → mixed m w o / 2 ≡ mixed (m / 2) (w / 2) (o / 2)
mixed_half m w o =
    xor_shr o (bit_and (bit_xor o w) m) 1 ∙ ap (bit_xor (o / 2)) (and_shr (bit_xor o w) m 1 ∙ ap (λ x. bit_and x (m / 2)) (xor_shr o w 1))

mixed_low : (m w o : ℕ) → mixed m w o % 2 ≡ mixed (m % 2) (w % 2) (o % 2)
mixed_low m w o =
    xor_mod o (bit_and (bit_xor o w) m) 1 ∙ ap (bit_xor (o % 2)) (and_mod (bit_xor o w) m 1 ∙ ap (λ x. bit_and x (m % 2)) (xor_mod o w 1))

one_bit : (m w o : Bool) → mixed (bit m) (bit w) (bit o) ≡ bit (cond m w o)
one_bit true true true = refl
one_bit true true false = refl
one_bit true false true = refl
one_bit true false false = refl
one_bit false true true = refl
one_bit false true false = refl
one_bit false false true = refl
one_bit false false false = refl

mixed_bit : (m w o : ℕ) → mixed (m % 2) (w % 2) (o % 2) ≡ bit (cond (odd m) (odd w) (odd o))
mixed_bit m w o =
    ap (λ x. mixed x (w % 2) (o % 2)) (sym (bit-odd m)) ∙ ap (λ x. mixed (bit (odd m)) x (o % 2)) (sym (bit-odd w))
    ∙ ap (mixed (bit (odd m)) (bit (odd w))) (sym (bit-odd o)) ∙ one_bit (odd m) (odd w) (odd o)

mixed_zero : (m w o : ℕ) → m ≡ 0 → w ≡ 0 → o ≡ 0 → mixed m w o ≡ 0
mixed_zero m w o p q r = rw (p, q, r)

pub blend_word : (n m w o : ℕ) → m < 2 ^ n → w < 2 ^ n → o < 2 ^ n → mixed m w o ≡ value (blend_bits (bits_of n m) (bits_of n w) (bits_of n o))
blend_word zero m w o hm hw ho = mixed_zero m w o (omega arith) (omega arith) (omega arith)
blend_word (suc n) m w o hm hw ho =
    let ih = blend_word n (m / 2) (w / 2) (o / 2) (omega (arith, double n)) (omega (arith, double n)) (omega (arith, double n)) in
    omega (arith, ih, mixed_half m w o, mixed_low m w o ∙ mixed_bit m w o)

bit_small : (b : Bool) → bit b < 2
bit_small true = omega arith
bit_small false = omega arith

-- a blend of n bits is below 2 ^ n
value_small : (n : ℕ) (bs : List Bool) → length bs ≤ n → value bs < 2 ^ n
value_small zero [] h = omega arith
value_small (suc n) [] h = omega (arith, value_small n [] (omega arith), double n)
value_small zero (b ∷ bs) h = absurd (omega arith)
value_small (suc n) (b ∷ bs) h = omega (arith, bit_small b, value_small n bs (omega arith), double n)

pub blend_small : (m w o : ℕ) → blend m w o < 256
blend_small m w o = value_small 8 (blend_bits (bits_of 8 m) (bits_of 8 w) (bits_of 8 o)) (omega arith)

bits_same : (ms os : List Bool) → length ms ≡ length os → blend_bits ms os os ≡ os
bits_same [] [] h = refl
bits_same [] (o ∷ os) h = absurd (omega arith)
bits_same (m ∷ ms) [] h = refl
bits_same (true ∷ ms) (o ∷ os) h = ap (λ l. o ∷ l) (bits_same ms os (omega arith))
bits_same (false ∷ ms) (o ∷ os) h = ap (λ l. o ∷ l) (bits_same ms os (omega arith))

-- a byte blended with itself
pub blend-same : (m x : ℕ) → x < 256 → blend m x x ≡ x
blend-same m x h = ap value (bits_same (bits_of 8 m) (bits_of 8 x) refl) ∙ value_bits 8 x h

-- a mask of ones takes every new bit
pub blend_whole : (w o : ℕ) → w < 256 → blend 255 w o ≡ w
blend_whole w o h = value_bits 8 w h

bits_fall : (ms ns os : List Bool) → ((j : ℕ) → get_or os j false ≡ false → get_or ns j false ≡ false)
    → (j : ℕ) → get_or os j false ≡ false → get_or (blend_bits ms ns os) j false ≡ false
bits_fall [] ns os f j h = refl
bits_fall (m ∷ ms) [] os f j h = refl
bits_fall (m ∷ ms) (n ∷ ns) [] f j h = refl
bits_fall (true ∷ ms) (n ∷ ns) (o ∷ os) f zero h = f 0 h
bits_fall (false ∷ ms) (n ∷ ns) (o ∷ os) f zero h = h
bits_fall (m ∷ ms) (n ∷ ns) (o ∷ os) f (suc j) h = bits_fall ms ns os (λ i. f (suc i)) j h

-- where the new byte has a 0 for each 0 of the old one, so has every blend
pub blend_falls : (m w o : ℕ) → ((j : ℕ) → get_or (bits_of 8 o) j false ≡ false → get_or (bits_of 8 w) j false ≡ false)
    → (j : ℕ) → get_or (bits_of 8 o) j false ≡ false → get_or (bits_of 8 (blend m w o)) j false ≡ false
blend_falls m w o f j h =
    ap (λ l. get_or l j false) (bits_value (blend_bits (bits_of 8 m) (bits_of 8 w) (bits_of 8 o)))
    ∙ bits_fall (bits_of 8 m) (bits_of 8 w) (bits_of 8 o) f j h

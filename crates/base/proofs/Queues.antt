-- Facts on bits.
use Rattle.std.proofs.Common.{◌≡◌, ℕ, zero, suc, ◌+◌, ◌-◌, ◌*◌, ◌/◌, ◌%◌, ◌^◌, ◌<◌, Bool, true, false, eqb, List, [], ◌∷◌, ◌++◌, length, get_or, sym, refl, ap, ◌∙◌, ap₂, append_assoc, append-nil, zero-add, add-one, arith, length-append}
use lib.Bits.{bit_and, bit_or, and_step, and_shr, block_odd, block_half, or_shifted_r}
use lib.Pow.{pow-lt}
use mir.Val.{bool_byte}
use Rattle.std.proofs.lemmas.Bool.Decides.{nat_tests}
use Rattle.std.proofs.lemmas.Bool.{eq-eqb, ne_eqb}
use Rattle.base.specs.Widths.{length_bits}
use Rattle.base.specs.Bits.{odd, bits_of, bit, value, bits_all, full, front_bit, rest_bits, none_left}

odd-bit : (b : Bool) (n : ℕ) → odd (bit b + 2 * n) ≡ b
odd-bit true n = eq-eqb _ _ (omega arith)
odd-bit false n = ne_eqb _ _ (omega arith)

half_bit : (b : Bool) (n : ℕ) → (bit b + 2 * n) / 2 ≡ n
half_bit true n = omega arith
half_bit false n = omega arith

pub bits_value : (bs : List Bool) → bits_of (length bs) (value bs) ≡ bs
bits_value [] = refl
bits_value (b ∷ bs) = rw (odd-bit b (value bs), half_bit b (value bs), bits_value bs)

-- a 0 bit is 0 in every conjunction
pub bits_and : (n x y j : ℕ) → get_or (bits_of n y) j false ≡ false → get_or (bits_of n (bit_and x y)) j false ≡ false
bits_and zero x y j h = refl
bits_and (suc n) x y zero h = ne_eqb _ _ (λ e. go e)
  where
    go : bit_and x y % 2 ≡ 1 → ⊥
    go e = grind (arith, nat_tests, and_step x y, h)
bits_and (suc n) x y (suc j) h = ap (λ z. get_or (bits_of n z) j false) (and_shr x y 1) ∙ bits_and n (x / 2) (y / 2) j h

odd_first : (b : Bool) → odd (bit b * 2 ^ 0 + 0) ≡ b
odd_first true = refl
odd_first false = refl

-- one more bit on top
pub bits_push : (n x : ℕ) (b : Bool) → x < 2 ^ n → bits_of (suc n) (bit b * 2 ^ n + x) ≡ bits_of n x ++ (b ∷ [])
bits_push zero x b h = let e : x ≡ 0 = omega arith in rw e (ap (λ o. o ∷ []) (odd_first b))
bits_push (suc n) x b h =
    ap₂ (λ o l. o ∷ l) (ap (λ k. eqb k 1) (block_odd (bit b) n x))
    (ap (bits_of (suc n)) (block_half (bit b) n x) ∙ bits_push n (x / 2) b (omega arith))

pub double : (n : ℕ) → 2 ^ suc n ≡ 2 * 2 ^ n
double n = omega arith

pub top_small : (n x : ℕ) (b : Bool) → x < 2 ^ n → bit b * 2 ^ n + x < 2 ^ (n + 1)
top_small n x true s = rw add-one (omega (arith, double n))
top_small n x false s = rw add-one (omega (arith, double n))

pub length_pushed : (n x : ℕ) (b : Bool) → length (bits_of n x ++ (b ∷ [])) ≡ n + 1
length_pushed n x b = simp (length-append, length_bits)

-- a queue of more than no bits
pub bits_front : (n x : ℕ) → 0 < n → front_bit (bits_of n x) ≡ odd x
bits_front zero x h = absurd (omega arith)
bits_front (suc n) x h = refl

pub bits_rest : (n x : ℕ) → rest_bits (bits_of n x) ≡ bits_of (n - 1) (x / 2)
bits_rest zero x = refl
bits_rest (suc n) x = ap (λ k. bits_of k (x / 2)) (omega arith)

pub bits_left : (n x : ℕ) → 0 < n → none_left (bits_of n x) ≡ false
bits_left zero x h = absurd (omega arith)
bits_left (suc n) x h = refl

power_small : (n : ℕ) → n < 8 → 2 ^ n < 256
power_small n h = pow-lt {j = 8} h

top_fits : (n : ℕ) (b : Bool) → n < 8 → bool_byte b * 2 ^ n % 256 ≡ bit b * 2 ^ n
top_fits n true h = let p = power_small n h in omega arith
top_fits n false h = omega arith

-- the code's way to put a bit in its place
pub grown : (n x : ℕ) (b : Bool) → n < 8 → x < 2 ^ n → bit_or x (bool_byte b * 2 ^ n % 256) ≡ bit b * 2 ^ n + x
grown n x b h s = ap (bit_or x) (top_fits n b h) ∙ or_shifted_r (bit b) n x s

pub grown_small : (n x : ℕ) (b : Bool) → n < 8 → x < 2 ^ n → bit_or x (bool_byte b * 2 ^ n % 256) < 2 ^ (n + 1)
grown_small n x b h s = rw (grown n x b h s) (top_small n x b s)

pub grown_bits : (n x : ℕ) (b : Bool) → n < 8 → x < 2 ^ n → bits_of (n + 1) (bit_or x (bool_byte b * 2 ^ n % 256)) ≡ bits_of n x ++ (b ∷ [])
grown_bits n x b h s = rw (add-one, grown n x b h s) (bits_push n x b s)

pub grown_full : (n x : ℕ) (b : Bool) → full (bits_of n x ++ (b ∷ [])) ≡ eqb (n + 1) 8
grown_full n x b = ap (λ k. eqb k 8) (length_pushed n x b)

-- the low bits, then the high ones
pub bits_block : (n k a r : ℕ) → r < 2 ^ n → bits_of (n + k) (a * 2 ^ n + r) ≡ bits_of n r ++ bits_of k a
bits_block zero k a r h = let e : r ≡ 0 = omega arith in let z : a * 2 ^ 0 + 0 ≡ a = omega arith in rw (e, z, zero-add)
bits_block (suc n) k a r h =
    let s : suc n + k ≡ suc (n + k) = omega arith in
    rw s (ap₂ (λ o l. o ∷ l) (ap (λ q. eqb q 1) (block_odd a n r))
    (ap (bits_of (n + k)) (block_half a n r) ∙ bits_block n k a (r / 2) (omega arith)))

pub two_bytes : (x : ℕ) → bits_of 16 x ≡ bits_all (x % 256 ∷ x / 256 ∷ [])
two_bytes x =
    let s : x / 256 * 2 ^ 8 + x % 256 ≡ x = omega arith in
    ap (bits_of 16) (sym s) ∙ bits_block 8 8 (x / 256) (x % 256) (omega arith) ∙ ap (λ l. bits_of 8 (x % 256) ++ l) (sym (append-nil (bits_of 8 (x / 256))))

true_not_false : true ≡ false → ⊥
true_not_false h = let z : ◌≡◌ {A = ℕ} 0 1 = cc in omega arith

pub front_ahead : (xs ys : List Bool) → none_left xs ≡ false → front_bit (xs ++ ys) ≡ front_bit xs
front_ahead [] ys h = absurd (true_not_false h)
front_ahead (x ∷ xs) ys h = refl

pub rest_ahead : (xs ys : List Bool) → none_left xs ≡ false → rest_bits (xs ++ ys) ≡ rest_bits xs ++ ys
rest_ahead [] ys h = absurd (true_not_false h)
rest_ahead (x ∷ xs) ys h = refl

-- the bits of some bytes, then those of more
-- eight bits to a byte
pub length_all : (xs : List ℕ) → length (bits_all xs) ≡ 8 * length xs
length_all [] = refl
length_all (x ∷ xs) = length-append (bits_of 8 x) (bits_all xs) ∙ (let h : length (bits_all xs) ≡ 8 * length xs = length_all xs in omega (arith, h))

pub bytes_append : (xs ys : List ℕ) → bits_all (xs ++ ys) ≡ bits_all xs ++ bits_all ys
bytes_append [] ys = refl
bytes_append (x ∷ xs) ys = ap (λ l. bits_of 8 x ++ l) (bytes_append xs ys) ∙ sym (append_assoc (bits_of 8 x) (bits_all xs) (bits_all ys))

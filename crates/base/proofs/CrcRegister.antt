-- Laws of the shift register.
use Rattle.std.proofs.Common.{◌≡◌, ℕ, zero, suc, ◌/◌, ◌^◌, ◌<◌, Bool, true, false, List, [], ◌∷◌, ◌++◌, sym, refl, ap, ◌∙◌, arith}
use lib.Bits.{bit_xor, xor_lt}
use Rattle.base.specs.Bits.{odd, bits_of, bits_all, differ}
use Rattle.base.proofs.Queues.{two_bytes, bytes_append, double}
use Rattle.base.specs.Crc.{poly8, poly16, shift, crc_bits, crc8, crc16, low_high}

-- more bits after some go on from their sum
pub crc_append : (p c : ℕ) (xs ys : List Bool) → crc_bits p c (xs ++ ys) ≡ crc_bits p (crc_bits p c xs) ys
crc_append p c [] ys = refl
crc_append p c (x ∷ xs) ys = crc_append p (shift p c x) xs ys

-- a register no wider than the polynomial stays so
shift_small : (k p c : ℕ) (b : Bool) → p < 2 ^ k → c < 2 ^ k → shift p c b < 2 ^ k
shift_small k p c b hp hc =
    elim (differ (odd c) b) as (λ d. elim d as (λ _. ℕ) [ true ↦ bit_xor (c / 2) p | false ↦ c / 2 ] < 2 ^ k)
    [ true ↦ xor_lt k (c / 2) p (omega arith) hp | false ↦ omega arith ]

pub crc_small : (k p c : ℕ) (bs : List Bool) → p < 2 ^ k → c < 2 ^ k → crc_bits p c bs < 2 ^ k
crc_small k p c [] hp hc = hc
crc_small k p c (b ∷ bs) hp hc = crc_small k p (shift p c b) bs hp (shift_small k p c b hp hc)

differ_self : (b : Bool) → differ b b ≡ false
differ_self true = refl
differ_self false = refl

-- a sum followed by its own bits leaves 0
self_fed : (p n c : ℕ) → c < 2 ^ n → crc_bits p c (bits_of n c) ≡ 0
self_fed p zero c h = omega arith
self_fed p (suc n) c h =
    ap (λ d. crc_bits p (elim d as (λ _. ℕ) [ true ↦ bit_xor (c / 2) p | false ↦ c / 2 ]) (bits_of n (c / 2))) (differ_self (odd c))
    ∙ self_fed p n (c / 2) (omega (arith, double n))

pub closes8 : (xs : List ℕ) → crc8 (xs ++ (crc8 xs ∷ [])) ≡ 0
unfolding crc8
closes8 xs =
    let sum = crc_bits poly8 0 (bits_all xs) in
    ap (crc_bits poly8 0) (bytes_append xs (sum ∷ []))
    ∙ crc_append poly8 0 (bits_all xs) (bits_all (sum ∷ []))
    ∙ self_fed poly8 8 sum (crc_small 8 poly8 0 (bits_all xs) (omega arith) (omega arith))

pub closes16 : (xs : List ℕ) → crc16 0 (xs ++ low_high (crc16 0 xs)) ≡ 0
closes16 xs =
    ap (crc_bits poly16 0) (bytes_append xs (low_high (crc16 0 xs)))
    ∙ crc_append poly16 0 (bits_all xs) (bits_all (low_high (crc16 0 xs)))
    ∙ ap (crc_bits poly16 (crc16 0 xs)) (sym (two_bytes (crc16 0 xs)))
    ∙ self_fed poly16 16 (crc16 0 xs) (crc_small 16 poly16 0 (bits_all xs) (omega arith) (omega arith))

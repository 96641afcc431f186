-- Programming, byte by byte.
use Rattle.std.proofs.Common.{◌≡◌, ℕ, zero, suc, ◌+◌, ◌-◌, ◌*◌, ◌/◌, ◌^◌, ◌<◌, ◌≤◌, Bool, true, false, ◌&&◌, ltb, leb, ◌≢◌, ◌⊎◌, List, [], ◌∷◌, ◌++◌, length, get_or, set, sym, refl, ap, ◌∙◌, subst, inl, inr, add-zero, zero-add, arith, length-set}
use lib.Bits.{bit_and, and_mask}
use Rattle.std.proofs.lemmas.List.{ext_get_or, get_or-set_same, get_or-set_other, get_or_default, get_or_past}
use Rattle.std.proofs.lemmas.Bool.{cases_eq, cases_lt}
use Rattle.std.proofs.lemmas.Bool.Decides.{nat_tests}
use Rattle.base.specs.Bits.{byte_of}
use Rattle.kinds.specs.Kinds.{at, Bytes, whole_row, edit, blend, program}
use Rattle.kinds.proofs.Blending.{blend_small, blend_whole}

pub length-edit : (a : ℕ) (f : ℕ → ℕ → ℕ) (m : List ℕ) → length (edit a f m) ≡ length m
length-edit a f [] = refl
length-edit a f (b ∷ bs) = ap suc (length-edit (suc a) f bs)

-- what stands at an address after an edit
pub get_d_edit : (a : ℕ) (f : ℕ → ℕ → ℕ) (m : List ℕ) (k d : ℕ) → k < length m → get_or (edit a f m) k d ≡ f (a + k) (get_or m k d)
get_d_edit a f [] k d h = absurd (omega arith)
get_d_edit a f (b ∷ bs) zero d h = ap (λ i. f i b) (sym (add-zero a))
get_d_edit a f (b ∷ bs) (suc k) d h =
    let e : suc a + k ≡ a + suc k = omega arith in
    get_d_edit (suc a) f bs k d (omega arith) ∙ ap (λ i. f i (get_or bs k d)) e

-- an edit that changes no byte from an address on
pub edit-none : (a : ℕ) (f : ℕ → ℕ → ℕ) (m : List ℕ) → ((i b : ℕ) → a ≤ i → f i b ≡ b) → edit a f m ≡ m
edit-none a f [] h = refl
edit-none a f (b ∷ bs) h =
    ap (λ x. x ∷ edit (suc a) f bs) (h a b (omega arith)) ∙ ap (λ l. b ∷ l) (edit-none (suc a) f bs (λ i c g. h i c (omega arith)))

pub edit-append : (a : ℕ) (f : ℕ → ℕ → ℕ) (xs ys : List ℕ) → edit a f (xs ++ ys) ≡ edit a f xs ++ edit (a + length xs) f ys
edit-append a f [] ys = ap (λ i. edit i f ys) (sym (add-zero a))
edit-append a f (x ∷ xs) ys =
    let e : suc a + length xs ≡ a + suc (length xs) = omega arith in
    ap (λ l. f a x ∷ l) (edit-append (suc a) f xs ys ∙ ap (λ i. edit (suc a) f xs ++ edit i f ys) e)

-- the first k bytes of a row programmed
abbrev pub partly : ℕ → ℕ → List ℕ → ℕ → ℕ → ℕ → ℕ → ℕ
partly w row new mask k a b =
    elim (leb row a && ltb a (row + k) && ltb a w) [ true ↦ blend (byte_of mask (a - row)) (at new (a - row)) b | false ↦ b ]

pub none_yet : (w row : ℕ) (new : List ℕ) (mask : ℕ) (m : List ℕ) → m ≡ edit 0 (partly w row new mask 0) m
none_yet w row new mask m = sym (edit-none 0 (partly w row new mask 0) m (λ i b _.
    let t : (leb row i && ltb i (row + 0) && ltb i w) ≡ false = grind (arith, nat_tests) in
    ap (λ v. elim v as (λ _. ℕ) [ true ↦ blend (byte_of mask (i - row)) (at new (i - row)) b | false ↦ b ]) t))

same_part : (w row : ℕ) (new : List ℕ) (mask k a b : ℕ) → ((a ≡ row + k) → w ≤ a) → partly w row new mask k a b ≡ partly w row new mask (k + 1) a b
same_part w row new mask k a b h =
    let t : (leb row a && ltb a (row + k) && ltb a w) ≡ (leb row a && ltb a (row + (k + 1)) && ltb a w) = grind (arith, nat_tests) in
    ap (λ v. elim v as (λ _. ℕ) [ true ↦ blend (byte_of mask (a - row)) (at new (a - row)) b | false ↦ b ]) t

here_before : (w row : ℕ) (new : List ℕ) (mask k b : ℕ) → partly w row new mask k (row + k) b ≡ b
here_before w row new mask k b =
    let t : (leb row (row + k) && ltb (row + k) (row + k) && ltb (row + k) w) ≡ false = grind (arith, nat_tests) in
    ap (λ v. elim v as (λ _. ℕ) [ true ↦ blend (byte_of mask (row + k - row)) (at new (row + k - row)) b | false ↦ b ]) t

here_after : (w row : ℕ) (new : List ℕ) (mask k b : ℕ) → row + k < w → partly w row new mask (k + 1) (row + k) b ≡ blend (byte_of mask k) (at new k) b
here_after w row new mask k b h =
    let t : (leb row (row + k) && ltb (row + k) (row + (k + 1)) && ltb (row + k) w) ≡ true = grind (arith, nat_tests) in
    let e : row + k - row ≡ k = omega arith in
    ap (λ v. elim v as (λ _. ℕ) [ true ↦ blend (byte_of mask (row + k - row)) (at new (row + k - row)) b | false ↦ b ]) t
    ∙ ap (λ i. blend (byte_of mask i) (at new i) b) e

-- byte k of the row, where it lies below w
pub one_more : (row : ℕ) (new : List ℕ) (mask k : ℕ) (m : List ℕ) → row + k < length m
    → set (edit 0 (partly (length m) row new mask k) m) (row + k)
    (blend (byte_of mask k) (at new k) (get_or (edit 0 (partly (length m) row new mask k) m) (row + k) 0))
    ≡ edit 0 (partly (length m) row new mask (k + 1)) m
one_more row new mask k m h =
    ext_get_or 0 (set old (row + k) x) (edit 0 f' m)
    (length-set old (row + k) x ∙ length-edit 0 f m ∙ sym (length-edit 0 f' m))
    (λ i l. go i (bound i l) (cases_eq i (row + k)))
  where
    f : ℕ → ℕ → ℕ
    f = partly (length m) row new mask k

    f' : ℕ → ℕ → ℕ
    f' = partly (length m) row new mask (k + 1)

    old : List ℕ
    old = edit 0 f m

    x : ℕ
    x = blend (byte_of mask k) (at new k) (get_or old (row + k) 0)

    bound : (i : ℕ) → i < length (set old (row + k) x) → i < length m
    bound i l = omega (arith, length-set old (row + k) x, length-edit 0 f m)

    within : row + k < length old
    within = omega (arith, length-edit 0 f m)

    held : get_or old (row + k) 0 ≡ get_or m (row + k) 0
    held = get_d_edit 0 f m (row + k) 0 h ∙ ap (λ a. f a (get_or m (row + k) 0)) (zero-add (row + k)) ∙ here_before (length m) row new mask k (get_or m (row + k) 0)

    at_row : get_or (set old (row + k) x) (row + k) 0 ≡ get_or (edit 0 f' m) (row + k) 0
    at_row =
        get_or-set_same old (row + k) x 0 within ∙ ap (blend (byte_of mask k) (at new k)) held
        ∙ sym (get_d_edit 0 f' m (row + k) 0 h ∙ ap (λ a. f' a (get_or m (row + k) 0)) (zero-add (row + k)) ∙ here_after (length m) row new mask k (get_or m (row + k) 0) h)

    go : (i : ℕ) → i < length m → (i ≡ row + k) ⊎ (i ≢ row + k) → get_or (set old (row + k) x) i 0 ≡ get_or (edit 0 f' m) i 0
    go i l (inl e) = ap (λ j. get_or (set old (row + k) x) j 0) e ∙ at_row ∙ ap (λ j. get_or (edit 0 f' m) j 0) (sym e)
    go i l (inr ne) =
        get_or-set_other old (row + k) i x 0 ne ∙ get_d_edit 0 f m i 0 l
        ∙ ap (λ a. f a (get_or m i 0)) (zero-add i) ∙ same_part (length m) row new mask k i (get_or m i 0) (λ e. absurd (ne e)) ∙ ap (λ a. f' a (get_or m i 0)) (sym (zero-add i))
        ∙ sym (get_d_edit 0 f' m i 0 l)

-- byte k of the row, where it does not
pub no_more : (row : ℕ) (new : List ℕ) (mask k : ℕ) (m : List ℕ) → length m ≤ row + k
    → edit 0 (partly (length m) row new mask k) m ≡ edit 0 (partly (length m) row new mask (k + 1)) m
no_more row new mask k m h =
    ext_get_or 0 (edit 0 f m) (edit 0 f' m) (length-edit 0 f m ∙ sym (length-edit 0 f' m))
    (λ i l. let b : i < length m = omega (arith, length-edit 0 f m) in
    get_d_edit 0 f m i 0 b ∙ ap (λ a. f a (get_or m i 0)) (zero-add i)
    ∙ same_part (length m) row new mask k i (get_or m i 0) (λ e. omega arith) ∙ ap (λ a. f' a (get_or m i 0)) (sym (zero-add i))
    ∙ sym (get_d_edit 0 f' m i 0 b))
  where
    f : ℕ → ℕ → ℕ
    f = partly (length m) row new mask k

    f' : ℕ → ℕ → ℕ
    f' = partly (length m) row new mask (k + 1)

-- one turn of the loop over a row
pub row_step : (row : ℕ) (new : List ℕ) (mask k : ℕ) (m held : List ℕ) (x : ℕ) → held ≡ edit 0 (partly (length m) row new mask k) m
    → row + k < length m → k < length new → x ≡ blend (bit_and (mask / 2 ^ (8 * k)) 255) (get_or new k 0) (get_or held (row + k) 0)
    → set held (row + k) x ≡ edit 0 (partly (length m) row new mask (k + 1)) m
row_step row new mask k m held x e h l v =
    let part = and_mask (mask / 2 ^ (8 * k)) 8 in
    let sent = get_or_default new k 0 255 l in
    ap (set held (row + k)) (v ∙ ap (λ p. blend p (get_or new k 0) (get_or held (row + k) 0)) part ∙ ap (λ s. blend (byte_of mask k) s (get_or held (row + k) 0)) sent)
    ∙ ap (λ b. set b (row + k) (blend (byte_of mask k) (at new k) (get_or b (row + k) 0))) e ∙ one_more row new mask k m h

pub program-length : (w row : ℕ) (new : List ℕ) (mask : ℕ) (m : List ℕ) → length (program w row new mask m) ≡ length m
program-length w row new mask m = length-edit 0 (partly w row new mask 8) m

part_small : (w row : ℕ) (new : List ℕ) (mask k a b : ℕ) → b < 256 → partly w row new mask k a b < 256
part_small w row new mask k a b h =
    elim (leb row a && ltb a (row + k) && ltb a w)
    as (λ v. elim v as (λ _. ℕ) [ true ↦ blend (byte_of mask (a - row)) (at new (a - row)) b | false ↦ b ] < 256)
    [ true ↦ blend_small (byte_of mask (a - row)) (at new (a - row)) b | false ↦ h ]

-- programming leaves bytes
pub program_bytes : (w row : ℕ) (new : List ℕ) (mask : ℕ) (m : List ℕ) → Bytes m → Bytes (program w row new mask m)
program_bytes w row new mask m small a = go (cases_lt a (length m))
  where
    f : ℕ → ℕ → ℕ
    f = partly w row new mask 8

    go : (a < length m) ⊎ (length m ≤ a) → at (edit 0 f m) a < 256
    go (inl h) = rw (get_d_edit 0 f m a 255 h) (part_small w row new mask 8 (0 + a) (at m a) (small a))
    go (inr h) = let l : length (edit 0 f m) ≤ a = omega (arith, length-edit 0 f m) in rw (get_or_past (edit 0 f m) a 255 l) (omega arith)

-- bytes from w on stay, whatever stands before them
pub program-append : (w row : ℕ) (new : List ℕ) (mask : ℕ) (xs ys : List ℕ) → w ≤ length xs → program w row new mask (xs ++ ys) ≡ program w row new mask xs ++ ys
program-append w row new mask xs ys h =
    edit-append 0 f xs ys ∙ ap (λ l. edit 0 f xs ++ l) (edit-none (0 + length xs) f ys past)
  where
    f : ℕ → ℕ → ℕ
    f = partly w row new mask 8

    past : (i b : ℕ) → 0 + length xs ≤ i → f i b ≡ b
    past i b g =
        let t : (leb row i && ltb i (row + 8) && ltb i w) ≡ false = grind (arith, nat_tests) in
        ap (λ v. elim v as (λ _. ℕ) [ true ↦ blend (byte_of mask (i - row)) (at new (i - row)) b | false ↦ b ]) t

pub bytes_set : (m : List ℕ) (i x : ℕ) → Bytes m → x < 256 → Bytes (set m i x)
bytes_set [] i x small h a = small a
bytes_set (b ∷ bs) zero x small h zero = h
bytes_set (b ∷ bs) zero x small h (suc a) = small (suc a)
bytes_set (b ∷ bs) (suc i) x small h zero = small zero
bytes_set (b ∷ bs) (suc i) x small h (suc a) = bytes_set bs i x (λ k. small (suc k)) h a

-- what a slice of bytes holds is a byte at every address
pub bytes_of_slice : (m : List ℕ) → ((i : ℕ) → get_or m i 0 < 256) → Bytes m
bytes_of_slice [] small a = omega arith
bytes_of_slice (b ∷ bs) small zero = small zero
bytes_of_slice (b ∷ bs) small (suc a) = bytes_of_slice bs (λ i. small (suc i)) a

-- what holds of each held byte and of each blend into the row holds of every byte after programming
pub program_each : (P : ℕ → ℕ → Type 0) (w row : ℕ) (new : List ℕ) (mask : ℕ) (m : List ℕ) → ((a : ℕ) → P a (at m a))
    → ((i : ℕ) → i < 8 → P (row + i) (blend (byte_of mask i) (at new i) (at m (row + i)))) → (a : ℕ) → P a (at (program w row new mask m) a)
program_each P w row new mask m held fit a = go (cases_lt a (length m))
  where
    f : ℕ → ℕ → ℕ
    f = partly w row new mask 8

    by : (t : Bool) → (leb row a && ltb a (row + 8) && ltb a w) ≡ t
        → P a (elim t [ true ↦ blend (byte_of mask (a - row)) (at new (a - row)) (at m a) | false ↦ at m a ])
    by false e = held a
    by true e =
        let h : (row ≤ a) × (a < row + 8) = grind (arith, nat_tests) in
        let q : row + (a - row) ≡ a = omega arith in
        subst (λ k. P k (blend (byte_of mask (a - row)) (at new (a - row)) (at m k))) q (fit (a - row) (omega arith))

    go : (a < length m) ⊎ (length m ≤ a) → P a (at (edit 0 f m) a)
    go (inl h) = subst (P a) (sym (get_d_edit 0 f m a 255 h ∙ ap (λ k. f k (at m a)) (zero-add a))) (by (leb row a && ltb a (row + 8) && ltb a w) refl)
    go (inr h) =
        let l : length (edit 0 f m) ≤ a = omega (arith, length-edit 0 f m) in
        subst (P a) (get_or_past m a 255 h ∙ sym (get_or_past (edit 0 f m) a 255 l)) (held a)

whole_byte : (i : ℕ) → i < 8 → byte_of whole_row i ≡ 255
whole_byte zero h = refl
whole_byte (suc zero) h = refl
whole_byte (suc (suc zero)) h = refl
whole_byte (suc (suc (suc zero))) h = refl
whole_byte (suc (suc (suc (suc zero)))) h = refl
whole_byte (suc (suc (suc (suc (suc zero))))) h = refl
whole_byte (suc (suc (suc (suc (suc (suc zero)))))) h = refl
whole_byte (suc (suc (suc (suc (suc (suc (suc zero))))))) h = refl
whole_byte (suc (suc (suc (suc (suc (suc (suc (suc i)))))))) h = absurd (omega arith)

-- a whole programming leaves the new bytes in the row
pub program_whole : (w row : ℕ) (new m : List ℕ) (i : ℕ) → i < 8 → row + i < w → row + i < length m → Bytes new
    → at (program w row new whole_row m) (row + i) ≡ at new i
program_whole w row new m i h g l small =
    get_d_edit 0 f m (row + i) 255 l ∙ ap (λ k. f k (at m (row + i))) (zero-add (row + i))
    ∙ ap (λ v. elim v as (λ _. ℕ) [ true ↦ blend (byte_of whole_row (row + i - row)) (at new (row + i - row)) (at m (row + i)) | false ↦ at m (row + i) ]) inside
    ∙ ap (λ k. blend (byte_of whole_row k) (at new k) (at m (row + i))) there
    ∙ ap (λ b. blend b (at new i) (at m (row + i))) (whole_byte i h) ∙ blend_whole (at new i) (at m (row + i)) (small i)
  where
    f : ℕ → ℕ → ℕ
    f = partly w row new whole_row 8

    inside : (leb row (row + i) && ltb (row + i) (row + 8) && ltb (row + i) w) ≡ true
    inside = grind (arith, nat_tests)

    there : row + i - row ≡ i
    there = omega arith

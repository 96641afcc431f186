-- How a pass begins on a line, and what the chips' numbers are as bits.
use Rattle.std.proofs.Common.{◌≡◌, ℕ, zero, suc, ◌/◌, ◌^◌, ◌<◌, Bool, true, false, ◌||◌, List, [], ◌∷◌, ◌++◌, map, take, sym, refl, ap, ◌∙◌, subst, ap₂, inl, inr}
use Rattle.std.proofs.lemmas.Bool.{true≢false, or_parts, eqb-true}
use Rattle.base.specs.Bits.{bits_of, bits_all, value, byte_of}
use Rattle.base.proofs.Queues.{bytes_append}
use Rattle.base.specs.Widths.{value_bits}
use Rattle.base.specs.Crc.{crc8, crc_bits, poly8}
use Rattle.base.specs.RegistrationNumbers.{IsChecked, summed_bytes, word_bytes}
use Rattle.memory.specs.Memories.{Memory}
use Rattle.chip.specs.Chips.{Live, off, on, rom_bit, powered}
use Rattle.chip.specs.ChipStates.{ChipState, has_power, is_busy, reset_chip, takes}
use Rattle.chip.proofs.Select.{Hears, after_reset, hears_off, reset_free}
use Rattle.chip.proofs.Sound.{SoundAll}
use Rattle.line.specs.Lines.{presence, any_busy}
use Rattle.wire.proofs.Leading.{HearsAll, word_bits}
use Rattle.rom_search.specs.Laws.{numbers_on, In}
use Rattle.rom_search.proofs.Enumerate.{Rests, is_nil, Uniform, Valid}
use Rattle.rom_search.proofs.Searchers.{Searcher, silent, going, rests, place, line_at, bits_on, here, Determined}
use Rattle.rom_search.proofs.Searchers.{In as InRests}

-- the chips as a pass begins
abbrev start_live : ℕ → Memory → Live → Searcher
start_live x m off = silent (record { number = x; live = off; memory = m }) tt
start_live x m (on rc p) = going x m false (bits_of 64 x)

abbrev pub start : List ChipState → List Searcher
start [] = []
start (c ∷ cs) = start_live c.number c.memory c.live ∷ start cs

pub rests_start : (l : List ChipState) → rests (start l) ≡ here l
rests_start [] = refl
rests_start (c ∷ cs) = go c.live (rests_start cs)
  where
    go : (v : Live) → rests (start cs) ≡ here cs → rests (start_live c.number c.memory v ∷ start cs) ≡ bits_on (powered v) c.number (here cs)
    go off e = e
    go (on rc p) e = ap (λ t. bits_of 64 c.number ∷ t) e

pub here_start : (l : List ChipState) → here (line_at rom_bit (start l)) ≡ here l
here_start [] = refl
here_start (c ∷ cs) = go c.live (here_start cs)
  where
    go : (v : Live) → here (line_at rom_bit (start cs)) ≡ here cs → here (place rom_bit (start_live c.number c.memory v) ∷ line_at rom_bit (start cs)) ≡ bits_on (powered v) c.number (here cs)
    go off e = e
    go (on rc p) e = ap (λ t. bits_of 64 c.number ∷ t) e

begins_hears : (x : ℕ) (m : Memory) (v : Live) → Hears (bits_of 8 0xF0) (after_reset x m v)
begins_hears x m off = hears_off x m (bits_of 8 0xF0)
begins_hears x m (on rc p) = (refl, refl, (refl, refl, (refl, refl, (refl, refl, (refl, refl, (refl, refl, (refl, refl, (refl, refl, tt))))))))

begins-takes : (x : ℕ) (m : Memory) (v : Live) → takes (bits_of 8 0xF0) (after_reset x m v) ≡ place rom_bit (start_live x m v)
begins-takes x m off = refl
begins-takes x m (on rc p) = refl

-- after a reset and F0h every powered chip is at its first bit
pub all_hear : (l : List ChipState) → any_busy l ≡ false → HearsAll (bits_of 8 0xF0) (map reset_chip l)
all_hear [] e = tt
all_hear (c ∷ cs) e =
    let h = or_parts (is_busy c) (any_busy cs) e in
    (subst (Hears (bits_of 8 0xF0)) (sym (reset_free c h.0)) (begins_hears c.number c.memory c.live), all_hear cs h.1)

pub all_take : (l : List ChipState) → any_busy l ≡ false → map (takes (bits_of 8 0xF0)) (map reset_chip l) ≡ line_at rom_bit (start l)
all_take [] e = refl
all_take (c ∷ cs) e =
    let h = or_parts (is_busy c) (any_busy cs) e in
    ap₂ (λ d t. d ∷ t) (ap (takes (bits_of 8 0xF0)) (reset_free c h.0) ∙ begins-takes c.number c.memory c.live) (all_take cs h.1)

uni : (n x : ℕ) → Uniform n (bits_of n x ∷ [])
uni zero x = (refl, tt)
uni (suc n) x = (uni n (x / 2), tt)

pub uniform_here : (l : List ChipState) → Uniform 64 (here l)
uniform_here [] = tt
uniform_here (c ∷ cs) = go (has_power c) (uniform_here cs)
  where
    go : (b : Bool) → Uniform 64 (here cs) → Uniform 64 (bits_on b c.number (here cs))
    go true u = (uni 63 (c.number / 2), u)
    go false u = u

pub presence_here : (l : List ChipState) (t : Bool) → is_nil (here l) ≡ t → presence l ≡ elim t [ true ↦ false | false ↦ true ]
presence_here [] true e = refl
presence_here [] false e = absurd (true≢false e)
presence_here (c ∷ cs) t e = go (has_power c) t e (presence_here cs t)
  where
    go : (b t : Bool) → is_nil (bits_on b c.number (here cs)) ≡ t → (is_nil (here cs) ≡ t → presence cs ≡ elim t [ true ↦ false | false ↦ true ]) → (b || presence cs) ≡ elim t [ true ↦ false | false ↦ true ]
    go true true e' f = absurd (true≢false (sym e'))
    go true false e' f = refl
    go false t e' f = f e'

pub valid_some : (n : ℕ) (path : List Bool) (S : Rests) → Valid (suc n) path S → is_nil S ≡ false
valid_some n path [] v = absurd (no_way n path v)
  where
    no_way : (n : ℕ) (path : List Bool) → Valid (suc n) path [] → ⊥
    no_way n [] (inl e) = true≢false e
    no_way n [] (inr e) = true≢false e
    no_way n (p ∷ ps) v = true≢false v.0
valid_some n path (s ∷ S) v = refl

-- the bits of a number on a line
pub record Named (l : List ChipState) (y : List Bool) : Type 0 where
  pub number : ℕ
  pub bits : y ≡ bits_of 64 number
  pub wide : number < 2 ^ 64
  pub checked : IsChecked number
  pub on_line : In number (numbers_on l)

pub named : (l : List ChipState) (y : List Bool) → SoundAll l → InRests y (here l) → Named l y
named [] y s h = absurd h
named (c ∷ cs) y s h =
    let t = go (has_power c) h (named cs y s.1) in record { number = t.0; bits = t.1; wide = t.2; checked = t.3; on_line = t.4 }
  where
    go : (b : Bool) → InRests y (bits_on b c.number (here cs)) → (InRests y (here cs) → Named cs y)
        → (x : ℕ) × (y ≡ bits_of 64 x) × (x < 2 ^ 64) × IsChecked x × In x (elim b as (λ _. List ℕ) [ true ↦ c.number ∷ numbers_on cs | false ↦ numbers_on cs ])
    go true (inl e) f = (c.number, e, s.0.wide, s.0.checked, inl refl)
    go true (inr g) f = let n = f g in (n.number, n.bits, n.wide, n.checked, inr n.on_line)
    go false g f = let n = f g in (n.number, n.bits, n.wide, n.checked, n.on_line)

pub listed_here : (l : List ChipState) (x : ℕ) → In x (numbers_on l) → InRests (bits_of 64 x) (here l)
listed_here [] x h = absurd h
listed_here (c ∷ cs) x h = go (has_power c) h (listed_here cs x)
  where
    go : (b : Bool) → In x (elim b as (λ _. List ℕ) [ true ↦ c.number ∷ numbers_on cs | false ↦ numbers_on cs ]) → (In x (numbers_on cs) → InRests (bits_of 64 x) (here cs)) → InRests (bits_of 64 x) (bits_on b c.number (here cs))
    go true (inl e) f = inl (ap (bits_of 64) e)
    go true (inr g) f = inr (f g)
    go false g f = f g

pub wide_listed : (l : List ChipState) (x : ℕ) → SoundAll l → In x (numbers_on l) → x < 2 ^ 64
wide_listed [] x s h = absurd h
wide_listed (c ∷ cs) x s h = go (has_power c) h (wide_listed cs x s.1)
  where
    go : (b : Bool) → In x (elim b as (λ _. List ℕ) [ true ↦ c.number ∷ numbers_on cs | false ↦ numbers_on cs ]) → (In x (numbers_on cs) → x < 2 ^ 64) → x < 2 ^ 64
    go true (inl e) f = subst (λ z. z < 2 ^ 64) (sym e) s.0.wide
    go true (inr g) f = f g
    go false g f = f g

pub proper : (l : List ChipState) (y : List Bool) → Named l y → bits_of 64 (value y) ≡ y
proper l y n = ap (λ z. bits_of 64 (value z)) n.bits ∙ ap (bits_of 64) (value_bits 64 n.number n.wide) ∙ sym n.bits

-- 56 bits and their check byte
abbrev closed : List Bool → List Bool
closed u = u ++ bits_of 8 (crc_bits poly8 0 u)

seven_bytes : (x : ℕ) → IsChecked x → bits_all (word_bytes x) ≡ closed (bits_all (summed_bytes x))
unfolding crc8
seven_bytes x c =
    bytes_append (summed_bytes x) (byte_of x 7 ∷ []) ∙ ap (λ b. bits_all (summed_bytes x) ++ bits_of 8 b) (sym (eqb-true (crc_bits poly8 0 (bits_all (summed_bytes x))) (byte_of x 7) c))

front_bits : (x : ℕ) → bits_all (summed_bytes x) ≡ take 56 (bits_of 64 x)
front_bits x = ap (take 56) (word_bits x)

checked_bits : (x : ℕ) → IsChecked x → bits_of 64 x ≡ closed (take 56 (bits_of 64 x))
checked_bits x c = sym (word_bits x) ∙ seven_bytes x c ∙ ap closed (front_bits x)

-- two numbers that agree in all but the check byte are the same
pub determined : (l : List ChipState) → SoundAll l → Determined 64 (here l)
determined l s y z hy hz e =
    let n = named l y s hy in
    let m = named l z s hz in
    whole y n ∙ ap closed e ∙ sym (whole z m)
  where
    whole : (w : List Bool) → Named l w → w ≡ closed (take 56 w)
    whole w k = subst (λ v. v ≡ closed (take 56 v)) (sym k.bits) (checked_bits k.number k.checked)

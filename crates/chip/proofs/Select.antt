-- Reset and 55h with a number: which chips are selected, and that all of them hear every bit.
use Rattle.std.proofs.Common.{◌≡◌, ℕ, ◌^◌, ◌<◌, Bool, true, false, eqb, ◌≢◌, List, [], ◌∷◌, ◌++◌, length, sym, refl, ap, ◌∙◌, subst, arith, eq-eqb}
use Rattle.std.proofs.lemmas.Bool.{eqb-true, true≢false}
use Rattle.base.specs.Bits.{bits_of, value, same}
use Rattle.base.specs.Widths.{value_bits}
use Rattle.memory.specs.Memories.{Memory, protocols, select_memory}
use Rattle.chip.specs.Chips.{Live, Phase, off, on, idle, command, matching, selected, after_agreed, reset_live}
use Rattle.chip.specs.ChipStates.{ChipState, is_busy, pull_of, take_bit, reset_chip, takes, opened_as, opened_by}

-- pulls nothing and is not programming before each of these bits
abbrev pub Hears : List Bool → ChipState → Type 0
Hears [] c = Unit {0}
Hears (b ∷ bs) c = (pull_of c ≡ true) × (is_busy c ≡ false) × Hears bs (take_bit b c)

pub takes-append : (us vs : List Bool) (c : ChipState) → takes (us ++ vs) c ≡ takes vs (takes us c)
takes-append [] vs c = refl
takes-append (u ∷ us) vs c = takes-append us vs (take_bit u c)

pub hears_append : (us vs : List Bool) (c : ChipState) → Hears us c → Hears vs (takes us c) → Hears (us ++ vs) c
hears_append [] vs c h g = g
hears_append (u ∷ us) vs c h g = (h.0, h.1, hears_append us vs (take_bit u c) h.2 g)

same_self : (b : Bool) → same b b ≡ true
same_self true = refl
same_self false = refl

module _ (x : ℕ) (m : Memory) where
  abbrev pub chip : Live → ChipState
  chip l = record { number = x; live = l; memory = m }

  -- in the memory phase
  abbrev pub listening : ChipState
  listening = record { number = x; live = on true selected; memory = select_memory m }

  -- bits of the number still to be compared
  abbrev matched : List Bool → Bool → ChipState
  matched zs rc = after_agreed protocols zs (matching zs) rc (chip off)

  pub takes-idle : (bs : List Bool) (rc : Bool) → takes bs (chip (on rc idle)) ≡ chip (on rc idle)
  takes-idle [] rc = refl
  takes-idle (b ∷ bs) rc = takes-idle bs rc

  pub takes-off : (bs : List Bool) → takes bs (chip off) ≡ chip off
  takes-off [] = refl
  takes-off (b ∷ bs) = takes-off bs

  pub hears_idle : (bs : List Bool) (rc : Bool) → Hears bs (chip (on rc idle))
  hears_idle [] rc = tt
  hears_idle (b ∷ bs) rc = (refl, refl, hears_idle bs rc)

  pub hears_off : (bs : List Bool) → Hears bs (chip off)
  hears_off [] = tt
  hears_off (b ∷ bs) = (refl, refl, hears_off bs)

  match_same : (zs : List Bool) (rc : Bool) → takes zs (matched zs rc) ≡ listening
  match_same [] rc = refl
  match_same (z ∷ zs) rc =
      ap (λ t. takes zs (elim t as (λ _. ChipState) [ true ↦ matched zs rc | false ↦ chip (on rc idle) ])) (same_self z) ∙ match_same zs rc

  match_other : (zs ys : List Bool) (rc : Bool) → length zs ≡ length ys → zs ≢ ys → takes ys (matched zs rc) ≡ chip (on rc idle)
  match_other [] [] rc e n = absurd (n refl)
  match_other [] (y ∷ ys) rc e n = absurd (omega arith)
  match_other (z ∷ zs) [] rc e n = absurd (omega arith)
  match_other (true ∷ zs) (true ∷ ys) rc e n = match_other zs ys rc (omega arith) (λ q. n (ap (λ t. true ∷ t) q))
  match_other (true ∷ zs) (false ∷ ys) rc e n = takes-idle ys rc
  match_other (false ∷ zs) (true ∷ ys) rc e n = takes-idle ys rc
  match_other (false ∷ zs) (false ∷ ys) rc e n = match_other zs ys rc (omega arith) (λ q. n (ap (λ t. false ∷ t) q))

  match_hears : (zs ys : List Bool) (rc : Bool) → length zs ≡ length ys → Hears ys (matched zs rc)
  match_hears [] [] rc e = tt
  match_hears [] (y ∷ ys) rc e = absurd (omega arith)
  match_hears (z ∷ zs) [] rc e = tt
  match_hears (true ∷ zs) (true ∷ ys) rc e = (refl, refl, match_hears zs ys rc (omega arith))
  match_hears (true ∷ zs) (false ∷ ys) rc e = (refl, refl, hears_idle ys rc)
  match_hears (false ∷ zs) (true ∷ ys) rc e = (refl, refl, hears_idle ys rc)
  match_hears (false ∷ zs) (false ∷ ys) rc e = (refl, refl, match_hears zs ys rc (omega arith))

  abbrev pub call64 : ℕ → List Bool
  call64 y = bits_of 8 0x55 ++ bits_of 64 y

  begins_hears : (rc : Bool) → Hears (bits_of 8 0x55) (chip (on rc (command [])))
  begins_hears rc = (refl, refl, (refl, refl, (refl, refl, (refl, refl, (refl, refl, (refl, refl, (refl, refl, (refl, refl, tt))))))))

  rom_same : (rc : Bool) → takes (call64 x) (chip (on rc (command []))) ≡ listening
  rom_same rc = takes-append (bits_of 8 0x55) (bits_of 64 x) (chip (on rc (command []))) ∙ match_same (bits_of 64 x) false

  rom_other : (y : ℕ) (rc : Bool) → x < 2 ^ 64 → y < 2 ^ 64 → x ≢ y → takes (call64 y) (chip (on rc (command []))) ≡ chip (on false idle)
  rom_other y rc hx hy n =
      takes-append (bits_of 8 0x55) (bits_of 64 y) (chip (on rc (command []))) ∙ match_other (bits_of 64 x) (bits_of 64 y) false refl
      (λ e. n (sym (value_bits 64 x hx) ∙ ap value e ∙ value_bits 64 y hy))

  rom_hears : (y : ℕ) (rc : Bool) → Hears (call64 y) (chip (on rc (command [])))
  rom_hears y rc = hears_append (bits_of 8 0x55) (bits_of 64 y) (chip (on rc (command []))) (begins_hears rc) (match_hears (bits_of 64 x) (bits_of 64 y) false refl)

  abbrev pub after_reset : Live → ChipState
  after_reset l = chip (reset_live protocols l)

  opened_hears : (y : ℕ) (l : Live) → Hears (call64 y) (after_reset l)
  opened_hears y off = hears_off (call64 y)
  opened_hears y (on rc p) = rom_hears y rc

  opened_takes : (y : ℕ) (l : Live) → x < 2 ^ 64 → y < 2 ^ 64 → (t : Bool) → eqb x y ≡ t → takes (call64 y) (after_reset l) ≡ opened_as l t (chip l)
  opened_takes y off hx hy t e = takes-off (call64 y)
  opened_takes y (on rc p) hx hy true e = subst (λ z. takes (call64 z) (chip (on rc (command []))) ≡ listening) (eqb-true x y e) (rom_same rc)
  opened_takes y (on rc p) hx hy false e = rom_other y rc hx hy (λ q. true≢false (sym (eq-eqb x y q) ∙ e))

  -- whatever its number: the bits are its own, or one of them differs
  match_some : (rc : Bool) (p : Phase) (zs ys : List Bool) → length zs ≡ length ys → (t : Bool) × (takes ys (matched zs false) ≡ opened_as (on rc p) t (chip (on rc p)))
  match_some rc p [] [] e = (true, refl)
  match_some rc p [] (y ∷ ys) e = absurd (omega arith)
  match_some rc p (z ∷ zs) [] e = absurd (omega arith)
  match_some rc p (true ∷ zs) (true ∷ ys) e = match_some rc p zs ys (omega arith)
  match_some rc p (true ∷ zs) (false ∷ ys) e = (false, takes-idle ys false)
  match_some rc p (false ∷ zs) (true ∷ ys) e = (false, takes-idle ys false)
  match_some rc p (false ∷ zs) (false ∷ ys) e = match_some rc p zs ys (omega arith)

  opened_some : (y : ℕ) (l : Live) → (t : Bool) × (takes (call64 y) (after_reset l) ≡ opened_as l t (chip l))
  opened_some y off = (true, takes-off (call64 y))
  opened_some y (on rc p) =
      let s = match_some rc p (bits_of 64 x) (bits_of 64 y) refl in (s.0, takes-append (bits_of 8 0x55) (bits_of 64 y) (chip (on rc (command []))) ∙ s.1)

pub reset_free : (c : ChipState) → is_busy c ≡ false → reset_chip c ≡ after_reset c.number c.memory c.live
reset_free c e = ap (λ t. record { number = c.number; live = elim t as (λ _. Live) [ true ↦ c.live | false ↦ reset_live protocols c.live ]; memory = c.memory }) e

-- a chip that is not programming hears all of it, and is then as said
pub select_hears : (y : ℕ) (c : ChipState) → is_busy c ≡ false → Hears (bits_of 8 0x55 ++ bits_of 64 y) (reset_chip c)
select_hears y c e = subst (Hears (bits_of 8 0x55 ++ bits_of 64 y)) (sym (reset_free c e)) (opened_hears c.number c.memory y c.live)

pub select-takes : (y : ℕ) (c : ChipState) → c.number < 2 ^ 64 → y < 2 ^ 64 → is_busy c ≡ false → takes (bits_of 8 0x55 ++ bits_of 64 y) (reset_chip c) ≡ opened_by y c
select-takes y c hc hy e =
    ap (takes (bits_of 8 0x55 ++ bits_of 64 y)) (reset_free c e) ∙ opened_takes c.number c.memory y c.live hc hy (eqb c.number y) refl

-- and without a word on the numbers: it is selected, or it is not
pub select_some : (y : ℕ) (c : ChipState) → is_busy c ≡ false → (t : Bool) × (takes (bits_of 8 0x55 ++ bits_of 64 y) (reset_chip c) ≡ opened_as c.live t c)
select_some y c e =
    let s = opened_some c.number c.memory y c.live in (s.0, ap (takes (bits_of 8 0x55 ++ bits_of 64 y)) (reset_free c e) ∙ s.1)

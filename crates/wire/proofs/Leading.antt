-- Jobs on a line with no fuse: bits that every chip hears, and how an exchange opens.
use Rattle.std.proofs.Common.{◌≡◌, ℕ, zero, suc, ◌+◌, ◌*◌, ◌/◌, ◌%◌, ◌^◌, ◌<◌, Bool, true, false, ◌&&◌, ◌||◌, List, [], ◌∷◌, ◌++◌, map, sym, refl, ap, ◌∙◌, subst, ap₂, arith, pow-add}
use mathlib.Core.Bool.{and-true}
use native.Mathlib.Nat.{div-div-eq-div-mul}
use Rattle.std.proofs.lemmas.Bool.{or_parts}
use Rattle.base.specs.Bits.{bits_of, bits_all, byte_of}
use Rattle.base.proofs.Queues.{bits_block}
use Rattle.base.specs.RegistrationNumbers.{word_bytes}
use Rattle.chip.specs.ChipStates.{ChipState, take_bit, reset_chip, takes, opened_by}
use Rattle.chip.proofs.Select.{Hears, select_hears, select-takes}
use Rattle.line.specs.Lines.{presence, pull, any_busy}
use Rattle.rig.specs.Rigs.{RigState, none, Pulse, reset_pulse, slot_pulse, line_after, answer, refused, counted}
use Rattle.wire.specs.Jobs.{Job, step, Ran, line_busy, run, send_bits, send_bytes}

-- the rig with no fuse
abbrev pub free : List ChipState → RigState
free l = record { line = l; fuse = none }

-- a job on a line comes to another job on another line
pub record Leads {A : Type 0} (p : Job A) (l : List ChipState) (q : Job A) (l' : List ChipState) : Type 0 where
  pub so : (n : ℕ) → (n' : ℕ) × (run n p (free l) ≡ run n' q (free l'))

pub leads_then : {A : Type 0} {p q r : Job A} {k l m : List ChipState} → Leads p k q l → Leads q l r m → Leads p k r m
leads_then f g = record { so = λ n. ((g.so (f.so n).0).0, (f.so n).1 ∙ (g.so (f.so n).0).1) }

pub leads_none : {A : Type 0} {p : Job A} {l : List ChipState} → Leads p l p l
leads_none = record { so = λ n. (n, refl) }

-- any pulse that is not refused
pub leads_step : {A : Type 0} (p : Pulse) (k : Bool → Job A) (l : List ChipState) → refused p l ≡ false → Leads (step p k) l (k (answer p l)) (line_after p l)
leads_step {A} p k l e = record { so = λ n. (counted n, ap (λ t. elim t as (λ _. Ran A) [ true ↦ record { rig = free l; steps = n; got = line_busy } | false ↦ run (counted n) (k (answer p l)) (free (line_after p l)) ]) e) }

abbrev pub HearsAll : List Bool → List ChipState → Type 0
HearsAll bs [] = Unit {0}
HearsAll bs (c ∷ cs) = Hears bs c × HearsAll bs cs

pub hears_pull : (b : Bool) (bs : List Bool) (l : List ChipState) → HearsAll (b ∷ bs) l → pull l ≡ true
hears_pull b bs [] h = refl
hears_pull b bs (c ∷ cs) h = ap₂ (λ u v. u && v) h.0.0 (hears_pull b bs cs h.1)

pub hears_busy : (b : Bool) (bs : List Bool) (l : List ChipState) → HearsAll (b ∷ bs) l → any_busy l ≡ false
hears_busy b bs [] h = refl
hears_busy b bs (c ∷ cs) h = ap₂ (λ u v. u || v) h.0.1 (hears_busy b bs cs h.1)

pub hears_on : (b : Bool) (bs : List Bool) (l : List ChipState) → HearsAll (b ∷ bs) l → HearsAll bs (map (take_bit b) l)
hears_on b bs [] h = tt
hears_on b bs (c ∷ cs) h = (h.0.2, hears_on b bs cs h.1)

pub map-takes : (b : Bool) (bs : List Bool) (l : List ChipState) → map (takes bs) (map (take_bit b) l) ≡ map (takes (b ∷ bs)) l
map-takes b bs [] = refl
map-takes b bs (c ∷ cs) = ap (λ t. takes bs (take_bit b c) ∷ t) (map-takes b bs cs)

pub map-none : (l : List ChipState) → map (takes []) l ≡ l
map-none [] = refl
map-none (c ∷ cs) = ap (λ t. c ∷ t) (map-none cs)

-- bits sent to a line that listens arrive at every chip
pub send_all : {A : Type 0} (bs : List Bool) (k : Job A) (l : List ChipState) → HearsAll bs l → Leads (send_bits bs k) l k (map (takes bs) l)
send_all [] k l h = subst (λ t. Leads k l k t) (sym (map-none l)) leads_none
send_all (b ∷ bs) k l h =
    leads_then
    (subst (λ y. Leads (send_bits (b ∷ bs) k) l (send_bits bs k) (map (take_bit y) l)) (ap (λ y. b && y) (hears_pull b bs l h) ∙ and-true b)
    (leads_step (slot_pulse b) (λ _. send_bits bs k) l (hears_busy b bs l h)))
    (subst (λ t. Leads (send_bits bs k) (map (take_bit b) l) k t) (map-takes b bs l) (send_all bs k (map (take_bit b) l) (hears_on b bs l h)))

pub send-append : {A : Type 0} (us vs : List Bool) (k : Job A) → send_bits (us ++ vs) k ≡ send_bits us (send_bits vs k)
send-append [] vs k = refl
send-append (u ∷ us) vs k = ap (λ q. step (slot_pulse u) (λ _. q)) (send-append us vs k)

-- the bytes of a word are its bits
peel : (k x : ℕ) → bits_of (8 + k) x ≡ bits_of 8 (x % 256) ++ bits_of k (x / 256)
peel k x =
    let s : x / 256 * 2 ^ 8 + x % 256 ≡ x = omega arith in
    ap (bits_of (8 + k)) (sym s) ∙ bits_block 8 k (x / 256) (x % 256) (omega arith)

-- n bytes of a word from byte i on
abbrev some_bytes : ℕ → ℕ → ℕ → List ℕ
some_bytes zero i x = []
some_bytes (suc n) i x = byte_of x i ∷ some_bytes n (suc i) x

word_at : (x i : ℕ) → x / 2 ^ (8 * i) / 256 ≡ x / 2 ^ (8 * suc i)
word_at x i = div-div-eq-div-mul x (2 ^ (8 * i)) 256 ∙ ap (λ d. x / d) (power i)
  where
    power : (i : ℕ) → 2 ^ (8 * i) * 256 ≡ 2 ^ (8 * suc i)
    power i = let e : 8 * suc i ≡ 8 * i + 8 = omega arith in sym (ap (λ k. 2 ^ k) e ∙ pow-add 2 (8 * i) 8)

some_bits : (n i x : ℕ) → bits_all (some_bytes n i x) ≡ bits_of (8 * n) (x / 2 ^ (8 * i))
some_bits zero i x = refl
some_bits (suc n) i x =
    let e : 8 * suc n ≡ 8 + 8 * n = omega arith in
    ap (λ l. bits_of 8 (byte_of x i) ++ l) (some_bits n (suc i) x ∙ ap (bits_of (8 * n)) (sym (word_at x i)))
    ∙ sym (peel (8 * n) (x / 2 ^ (8 * i))) ∙ ap (λ k. bits_of k (x / 2 ^ (8 * i))) (sym e)

pub word_bits : (x : ℕ) → bits_all (word_bytes x) ≡ bits_of 64 x
word_bits x = some_bits 8 0 x ∙ ap (bits_of 64) (let e : x / 1 ≡ x = omega arith in e)

-- numbers that fit a word
abbrev pub WideAll : List ChipState → Type 0
WideAll [] = Unit {0}
WideAll (c ∷ cs) = (c.number < 2 ^ 64) × WideAll cs

pub opened_hear : (x : ℕ) (l : List ChipState) → any_busy l ≡ false → HearsAll (bits_of 8 0x55 ++ bits_of 64 x) (map reset_chip l)
opened_hear x [] e = tt
opened_hear x (c ∷ cs) e = (select_hears x c (or_parts _ _ e).0, opened_hear x cs (or_parts _ _ e).1)

pub opened_take : (x : ℕ) (l : List ChipState) → x < 2 ^ 64 → WideAll l → any_busy l ≡ false → map (takes (bits_of 8 0x55 ++ bits_of 64 x)) (map reset_chip l) ≡ map (opened_by x) l
opened_take x [] hx w e = refl
opened_take x (c ∷ cs) hx w e =
    ap₂ (λ d ds. d ∷ ds) (select-takes x c w.0 hx (or_parts _ _ e).0) (opened_take x cs hx w.1 (or_parts _ _ e).1)

abbrev pub after_opening : {B : Type 0} → ℕ → Job B → Job B → Bool → Job B
after_opening x k nope present = elim present [ true ↦ send_bytes (0x55 ∷ []) (send_bytes (word_bytes x) k) | false ↦ nope ]

pub after_sent-number : {B : Type 0} (x : ℕ) (k : Job B) → send_bytes (0x55 ∷ []) (send_bytes (word_bytes x) k) ≡ send_bits (bits_of 8 0x55 ++ bits_of 64 x) k
after_sent-number x k = ap (λ bs. send_bits (bits_of 8 0x55) (send_bits bs k)) (word_bits x) ∙ sym (send-append (bits_of 8 0x55) (bits_of 64 x) k)

-- after a reset that found a chip and 55h with a number, the chips with that number listen and the others are idle
pub opened : {B : Type 0} (x : ℕ) (k nope : Job B) (l : List ChipState) → x < 2 ^ 64 → WideAll l → any_busy l ≡ false → presence l ≡ true
    → Leads (step reset_pulse (after_opening x k nope)) l k (map (opened_by x) l)
opened {B} x k nope l hx w e p =
    leads_then
    (subst (λ t. Leads (step reset_pulse (after_opening x k nope)) l (after_opening x k nope t) (map reset_chip l)) p (leads_step reset_pulse (after_opening x k nope) l e))
    (subst (λ q. Leads q (map reset_chip l) k (map (opened_by x) l)) (sym (after_sent-number x k))
    (subst (λ t. Leads (send_bits (bits_of 8 0x55 ++ bits_of 64 x) k) (map reset_chip l) k t) (opened_take x l hx w e)
    (send_all (bits_of 8 0x55 ++ bits_of 64 x) k (map reset_chip l) (opened_hear x l e))))

-- a reset that finds none
pub unopened : {B : Type 0} (x : ℕ) (k nope : Job B) (l : List ChipState) → any_busy l ≡ false → presence l ≡ false
    → Leads (step reset_pulse (after_opening x k nope)) l nope (map reset_chip l)
unopened x k nope l e p =
    subst (λ t. Leads (step reset_pulse (after_opening x k nope)) l (after_opening x k nope t) (map reset_chip l)) p (leads_step reset_pulse (after_opening x k nope) l e)

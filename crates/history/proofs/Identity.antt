-- A tag is its number and its bytes.
use Rattle.std.proofs.Common.{◌≡◌, ℕ, suc, ◌*◌, ◌^◌, ◌<◌, Bool, true, false, ◌&&◌, ◌||◌, List, [], ◌∷◌, ◌++◌, map, length, replicate, sym, refl, ap, ◌∙◌, subst, ap₂, arith}
use mathlib.Core.Bool.{and-true}
use Rattle.std.proofs.lemmas.List.{append_cancel_left, append_cancel_right}
use Rattle.base.specs.Bits.{bits_of, value, bits_all}
use Rattle.base.proofs.Queues.{length_all}
use Rattle.base.specs.Widths.{value_bits}
use Rattle.kinds.specs.Kinds.{Rules, Bytes}
use Rattle.memory.specs.Scratchpads.{Work, on, fresh, await, command, sending, idle}
use Rattle.memory.specs.Memories.{Memory, padded, protocols, bytes_in, kind_in, power_up_memory, HasScratchpad}
use Rattle.memory.proofs.Sound.{sound_length, sound_bytes}
use Rattle.chip.specs.Chips.{Live, off, selected, after_sent}
use Rattle.chip.specs.Chips.{on as under, idle as resting, command as commanded}
use Rattle.chip.specs.ChipStates.{ChipState, bytes_of, is_busy, pull_of, take_bit, power_chip, takes}
use Rattle.chip.proofs.Keeps.{off_powerless, power_same}
use Rattle.chip.proofs.Select.{Hears}
use Rattle.chip.proofs.Sound.{Sound, met_sound}
use Rattle.chip.specs.Histories.{MetAll}
use Rattle.line.specs.Lines.{pull}
use Rattle.rig.specs.Rigs.{RigState, made_rig}
use Rattle.history.specs.Calls.{Request, reset, slot, Reply, presence_is, bit_is, refused_with, serve_all}
use Rattle.history.specs.Identity.{GivenAll, Alike, JustUp, TagIsItsBytes, EndsByBytes}
use Rattle.history.proofs.Stays.{met_stays}

-- what a chip alone on its line replies
abbrev alone : ChipState → RigState
alone c = made_rig (c ∷ [])

abbrev said : List Request → ChipState → List Reply
said qs c = (serve_all qs (alone c)).1

abbrev bit_calls : List Bool → List Request
bit_calls bs = map slot bs

-- one slot
said_slot : (b : Bool) (qs : List Request) (c : ChipState) → is_busy c ≡ false
    → said (slot b ∷ qs) c ≡ bit_is (b && pull_of c) ∷ said qs (take_bit (b && pull_of c) c)
said_slot b qs c e =
    ap (λ t. let s = elim t as (λ _. RigState × Reply) [ true ↦ (alone c, refused_with 3) | false ↦ (alone (take_bit (b && pull (c ∷ [])) c), bit_is (b && pull (c ∷ []))) ] in s.1 ∷ (serve_all qs s.0).1)
    (ap (λ y. y || false) e)
    ∙ ap (λ y. bit_is (b && y) ∷ said qs (take_bit (b && y) c)) (and-true (pull_of c))

-- bits sent to a chip that hears them
said_send : (bs : List Bool) (qs : List Request) (c : ChipState) → Hears bs c → said (bit_calls bs ++ qs) c ≡ map bit_is bs ++ said qs (takes bs c)
said_send [] qs c h = refl
said_send (b ∷ bs) qs c h =
    said_slot b (bit_calls bs ++ qs) c h.1
    ∙ ap (λ y. bit_is y ∷ said (bit_calls bs ++ qs) (take_bit y c)) (ap (λ y. b && y) h.0 ∙ and-true b)
    ∙ ap (λ t. bit_is b ∷ t) (said_send bs qs (take_bit b c) h.2)

-- bits of a number read
said_number : (bs : List Bool) (qs : List Request) (rc : Bool) (c : ChipState)
    → said (bit_calls (replicate (length bs) true) ++ qs) (after_sent protocols bs rc c) ≡ map bit_is bs ++ said qs (after_sent protocols [] rc c)
said_number [] qs rc c = refl
said_number (b ∷ bs) qs rc c =
    said_slot true (bit_calls (replicate (length bs) true) ++ qs) (after_sent protocols (b ∷ bs) rc c) refl
    ∙ ap (λ t. bit_is b ∷ t) (said_number bs qs rc c)

module _ (K : Rules) (x : ℕ) (m : List ℕ) where
  -- the tag with this kind, this number and these bytes, at work
  abbrev tag_at : Live → Work → ChipState
  tag_at l w = record { number = x; live = l; memory = padded (record { rules = K; bytes = m; work = w }) }

  -- bits of the memory read
  said_memory : (bs : List Bool) (qs : List Request)
      → said (bit_calls (replicate (length bs) true) ++ qs) (tag_at (under false selected) (on fresh (sending bs)))
      ≡ map bit_is bs ++ said qs (tag_at (under false selected) (on fresh (sending [])))
  said_memory [] qs = refl
  said_memory (b ∷ bs) qs =
      said_slot true (bit_calls (replicate (length bs) true) ++ qs) (tag_at (under false selected) (on fresh (sending (b ∷ bs)))) refl
      ∙ ap (λ t. bit_is b ∷ t) (said_memory bs qs)

-- what asks for everything: the number, and then k bits of the memory from address 0
abbrev ask_number : List Bool
ask_number = bits_of 8 0x33

abbrev ask_memory : List Bool
ask_memory = bits_all (0xF0 ∷ 0 ∷ 0 ∷ [])

abbrev read_memory : ℕ → List Request
read_memory k = bit_calls (replicate k true) ++ []

abbrev read_rom : ℕ → List Request
read_rom k = bit_calls (replicate 64 true) ++ (bit_calls ask_memory ++ read_memory k)

abbrev probe : ℕ → List Request
probe k = reset ∷ (bit_calls ask_number ++ read_rom k)

-- and what is replied to it
abbrev everything : ℕ → List ℕ → List Reply
everything x m = presence_is true ∷ (map bit_is ask_number ++ (map bit_is (bits_of 64 x) ++ (map bit_is ask_memory ++ (map bit_is (bits_all m) ++ []))))

module _ (K : Rules) (x : ℕ) (m : List ℕ) where
  number_asked : Hears ask_number (tag_at K x m (under false (commanded [])) (on fresh idle))
  number_asked = (refl, refl, (refl, refl, (refl, refl, (refl, refl, (refl, refl, (refl, refl, (refl, refl, (refl, refl, tt))))))))

  memory_asked : Hears ask_memory (tag_at K x m (under false selected) (on fresh (await command)))
  memory_asked = (refl, refl, (refl, refl, (refl, refl, (refl, refl, (refl, refl, (refl, refl, (refl, refl, (refl, refl, (refl, refl, (refl, refl, (refl, refl, (refl, refl, (refl, refl, (refl, refl, (refl, refl, (refl, refl, (refl, refl, (refl, refl, (refl, refl, (refl, refl, (refl, refl, (refl, refl, (refl, refl, (refl, refl, tt))))))))))))))))))))))))

  told : (k : ℕ) → length (bits_all m) ≡ k → said (probe k) (tag_at K x m (under false resting) (on fresh idle)) ≡ everything x m
  told k e =
      ap (λ t. presence_is true ∷ t)
      (said_send ask_number (read_rom k) (tag_at K x m (under false (commanded [])) (on fresh idle)) number_asked
      ∙ ap (λ t. map bit_is ask_number ++ t)
      (said_number (bits_of 64 x) (bit_calls ask_memory ++ read_memory k) false (tag_at K x m off (on fresh idle))
      ∙ ap (λ t. map bit_is (bits_of 64 x) ++ t)
      (said_send ask_memory (read_memory k) (tag_at K x m (under false selected) (on fresh (await command))) memory_asked
      ∙ ap (λ t. map bit_is ask_memory ++ t) memory_told)))
    where
      memory_told : said (read_memory k) (tag_at K x m (under false selected) (on fresh (sending (bits_all m)))) ≡ map bit_is (bits_all m) ++ []
      memory_told =
          subst (λ j. said (read_memory j) (tag_at K x m (under false selected) (on fresh (sending (bits_all m)))) ≡ map bit_is (bits_all m) ++ []) e
          (said_memory K x m (bits_all m) [])

-- the arguments of reset and slot are always such as a master can give
given_bits : (bs : List Bool) (qs : List Request) → GivenAll qs → GivenAll (bit_calls bs ++ qs)
given_bits [] qs g = g
given_bits (b ∷ bs) qs g = (tt, given_bits bs qs g)

given_probe : (k : ℕ) → GivenAll (probe k)
given_probe k = (
  tt,
  given_bits ask_number (read_rom k) (given_bits (replicate 64 true) (bit_calls ask_memory ++ read_memory k)
      (given_bits ask_memory (read_memory k) (given_bits (replicate k true) [] tt))),
)

-- lists that begin alike
heads : {A : Type 0} (a b : A) (xs ys : List A) → a ∷ xs ≡ b ∷ ys → (a ≡ b) × (xs ≡ ys)
heads a b xs ys e = (cc, cc)

parts : {A : Type 0} (us vs xs ys : List A) → length us ≡ length vs → us ++ xs ≡ vs ++ ys → (us ≡ vs) × (xs ≡ ys)
parts [] [] xs ys h e = (refl, e)
parts [] (v ∷ vs) xs ys h e = absurd (omega arith)
parts (u ∷ us) [] xs ys h e = absurd (omega arith)
parts (u ∷ us) (v ∷ vs) xs ys h e =
    let q = heads u v (us ++ xs) (vs ++ ys) e in
    let t = parts us vs xs ys (omega arith) q.1 in (ap₂ (λ a l. a ∷ l) q.0 t.0, t.1)

-- equal replies, equal bits
bits_from : (us vs : List Bool) → map bit_is us ≡ map bit_is vs → us ≡ vs
bits_from [] [] e = refl
bits_from [] (v ∷ vs) e = absurd (let z : ◌≡◌ {A = ℕ} 0 1 = cc in omega arith)
bits_from (u ∷ us) [] e = absurd (let z : ◌≡◌ {A = ℕ} 0 1 = cc in omega arith)
bits_from (u ∷ us) (v ∷ vs) e =
    let q = heads (bit_is u) (bit_is v) (map bit_is us) (map bit_is vs) e in
    let w : u ≡ v = (let f = q.0 in cc) in ap₂ (λ a l. a ∷ l) w (bits_from us vs q.1)

-- equal bits, equal number and bytes
number_from : (x y : ℕ) → x < 2 ^ 64 → y < 2 ^ 64 → bits_of 64 x ≡ bits_of 64 y → x ≡ y
number_from x y f g e = sym (value_bits 64 x f) ∙ ap value e ∙ value_bits 64 y g

bytes_from : (xs ys : List ℕ) → length xs ≡ length ys → Bytes xs → Bytes ys → bits_all xs ≡ bits_all ys → xs ≡ ys
bytes_from [] [] h f g e = refl
bytes_from [] (y ∷ ys) h f g e = absurd (omega arith)
bytes_from (x ∷ xs) [] h f g e = absurd (omega arith)
bytes_from (x ∷ xs) (y ∷ ys) h f g e =
    let t = parts (bits_of 8 x) (bits_of 8 y) (bits_all xs) (bits_all ys) refl e in
    ap₂ (λ a l. a ∷ l) (sym (value_bits 8 x (f 0)) ∙ ap value t.0 ∙ value_bits 8 y (g 0))
    (bytes_from xs ys (omega arith) (λ a. f (suc a)) (λ a. g (suc a)) t.1)

-- equal replies to the probe, equal number and bits of the memory
everything_tells : (x y : ℕ) (m n : List ℕ) → everything x m ≡ everything y n
    → (bits_of 64 x ≡ bits_of 64 y) × (bits_all m ≡ bits_all n)
everything_tells x y m n e = (bits_from (bits_of 64 x) (bits_of 64 y) number.0, bits_from (bits_all m) (bits_all n) memory)
  where
    asked : ◌≡◌ {A = List Reply} (map bit_is (bits_of 64 x) ++ (map bit_is ask_memory ++ (map bit_is (bits_all m) ++ [])))
        (map bit_is (bits_of 64 y) ++ (map bit_is ask_memory ++ (map bit_is (bits_all n) ++ [])))
    asked = append_cancel_left (presence_is true ∷ map bit_is ask_number) _ _ e

    number : (map bit_is (bits_of 64 x) ≡ map bit_is (bits_of 64 y))
        × (◌≡◌ {A = List Reply} (map bit_is ask_memory ++ (map bit_is (bits_all m) ++ [])) (map bit_is ask_memory ++ (map bit_is (bits_all n) ++ [])))
    number = parts (map bit_is (bits_of 64 x)) (map bit_is (bits_of 64 y)) _ _ refl asked

    rest : ◌≡◌ {A = List Reply} (map bit_is (bits_all m) ++ []) (map bit_is (bits_all n) ++ [])
    rest = append_cancel_left (map bit_is ask_memory) _ _ number.1

    memory : map bit_is (bits_all m) ≡ map bit_is (bits_all n)
    memory = append_cancel_right (map bit_is (bits_all m)) (map bit_is (bits_all n)) [] rest

-- a tag that a power-up found without power
abbrev woken : ChipState → ChipState
woken c = record { number = c.number; live = under false resting; memory = power_up_memory c.memory }

woken_told : (x : ℕ) (m : Memory) (k : ℕ) → HasScratchpad m → length (bits_all (bytes_in m)) ≡ k
    → said (probe k) (record { number = x; live = under false resting; memory = power_up_memory m }) ≡ everything x (bytes_in m)
woken_told x m k (p, w) =
    subst (λ n. length (bits_all (bytes_in n)) ≡ k → said (probe k) (record { number = x; live = under false resting; memory = power_up_memory n }) ≡ everything x (bytes_in n)) (sym w)
    (told p.rules x p.bytes k)

module _ (r : RigState) (c : ChipState) (j : JustUp r c) where
  up_is : r ≡ alone (woken c)
  up_is = j.so ∙ ap (λ l. alone (power_chip (record { number = c.number; live = l; memory = c.memory }))) (off_powerless c j.unpowered)

  up_sound : Sound c
  up_sound = met_sound c (subst (λ q. MetAll q.line) j.was (met_stays (made_rig (j.made ∷ [])) j.history (j.met, tt))).0

  up_bits : length (bits_all (bytes_of c)) ≡ 8 * (kind_in c.memory).n
  up_bits = length_all (bytes_of c) ∙ ap (λ n. 8 * n) (sound_length c.memory up_sound.memory)

  up_told : (k : ℕ) → length (bits_all (bytes_of c)) ≡ k → (serve_all (probe k) r).1 ≡ everything c.number (bytes_of c)
  up_told k e = ap (λ t. (serve_all (probe k) t).1) up_is ∙ woken_told c.number c.memory k j.pad e

same_rig : (r s : RigState) (c d : ChipState) → JustUp r c → JustUp s d → kind_in c.memory ≡ kind_in d.memory
    → c.number ≡ d.number → bytes_of c ≡ bytes_of d → r ≡ s
same_rig r s c d jc jd e n b = jc.so ∙ ap alone (power_same c d jc.pad jd.pad (off_powerless c jc.unpowered) (off_powerless d jd.unpowered) n e b) ∙ sym jd.so

pub ends_by_bytes : (r : RigState) (qs : List Request) → EndsByBytes r qs (serve_all qs r)
ends_by_bytes r qs s c d jc jd e n b = ap (serve_all qs) (same_rig r s c d jc jd e n b)

pub tag_is_its_bytes : TagIsItsBytes
tag_is_its_bytes r s c d jc jd e = (there, back)
  where
    lengths : length (bytes_of c) ≡ length (bytes_of d)
    lengths =
        sound_length c.memory (up_sound r c jc).memory ∙ ap (λ (K : Rules). K.n) e
        ∙ sym (sound_length d.memory (up_sound s d jd).memory)

    bits : length (bits_all (bytes_of d)) ≡ 8 * (kind_in c.memory).n
    bits = up_bits s d jd ∙ ap (λ (K : Rules). 8 * K.n) (sym e)

    there : Alike r s → (c.number ≡ d.number) × (bytes_of c ≡ bytes_of d)
    there a =
        let k = 8 * (kind_in c.memory).n in
        let t = everything_tells c.number d.number (bytes_of c) (bytes_of d)
        (sym (up_told r c jc k (up_bits r c jc)) ∙ a (probe k) (given_probe k) ∙ up_told s d jd k bits) in (
          number_from c.number d.number (up_sound r c jc).wide (up_sound s d jd).wide t.0,
          bytes_from (bytes_of c) (bytes_of d) lengths (sound_bytes c.memory (up_sound r c jc).memory) (sound_bytes d.memory (up_sound s d jd).memory) t.1,
        )

    back : (c.number ≡ d.number) × (bytes_of c ≡ bytes_of d) → Alike r s
    back q qs g = ap (λ t. (serve_all qs t).1) (same_rig r s c d jc jd e q.0 q.1)

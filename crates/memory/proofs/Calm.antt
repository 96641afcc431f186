-- What a memory does with the bits that jobs send: those that it hears, those after which no bits bring it to program,
-- and what it programs after a copy.
use Rattle.std.proofs.Common.{◌≡◌, ℕ, ◌+◌, ◌/◌, ◌%◌, ◌<◌, Bool, true, false, not, ◌&&◌, eqb, leb, ltb, List, [], ◌∷◌, ◌++◌, sym, refl, ◌∙◌, subst, arith}
use Rattle.std.proofs.lemmas.Bool.{true≢false, and_parts, eqb-true}
use Rattle.std.proofs.lemmas.Bool.Decides.{nat_tests}
use Rattle.base.specs.Bits.{bits_of, bits_all, value, full, odd}
use Rattle.base.specs.Widths.{value_bits}
use Rattle.base.proofs.Choice.{pick}
use Rattle.kinds.specs.Kinds.{may_copy, at, in_row, program}
use Rattle.kinds.proofs.Programming.{program_each}
use Rattle.memory.specs.Scratchpads.{began_copy, stopped_copy, status, row_of, Awaited, command, load_low, load_high, load_data, copy_low, copy_high, copy_status, read_low, read_high, Doing, idle, programming, taking, sending, alternating, Work, on, await, copy_begins, take_doing, is_programming, Padded, take_pad, working}
use Rattle.memory.specs.Memories.{Memory, padded, select_memory, take_memory, pull_memory, programming_memory, dwell_memory, cut_memory, bytes_in}

-- the bits of a list taken one after another
abbrev pub takes_memory : List Bool → Memory → Memory
takes_memory [] m = m
takes_memory (b ∷ bs) m = takes_memory bs (take_memory m b)

-- it pulls nothing and is not programming before each of these bits
abbrev pub HearsIn : List Bool → Memory → Type 0
HearsIn [] m = Unit {0}
HearsIn (b ∷ bs) m = (pull_memory m ≡ true) × (programming_memory m ≡ false) × HearsIn bs (take_memory m b)

-- no bits bring it to program
abbrev pub CalmMemory : Memory → Type 0
CalmMemory m = (bs : List Bool) → programming_memory (takes_memory bs m) ≡ false

-- a command after which it is calm
abbrev pub Harmless : ℕ → Type 0
Harmless b = (m : Memory) → CalmMemory (takes_memory (bits_of 8 b) (select_memory m))

-- as a dwell leaves it
abbrev pub dwelt : Memory → Memory
dwelt m = elim (programming_memory m) [ true ↦ dwell_memory m | false ↦ m ]

-- 1. the scratchpad protocol: a byte is heard, whatever it will be
byte_heard : (w : Awaited) (b : ℕ) (bs : List Bool) (p : Padded) → HearsIn bs (takes_memory (bits_of 8 b) (padded (working p (on p.work.regs (await w)))))
    → HearsIn (bits_of 8 b ++ bs) (padded (working p (on p.work.regs (await w))))
byte_heard w b bs p h = (refl, refl, (refl, refl, (refl, refl, (refl, refl, (refl, refl, (refl, refl, (refl, refl, (refl, refl, h))))))))

-- it is calm while it is quiet, sends, takes what 0Fh takes, or the address of F0h
abbrev CalmAwaited : Awaited → Type 0
CalmAwaited command = ⊥
CalmAwaited load_low = Unit {0}
CalmAwaited load_high = Unit {0}
CalmAwaited (load_data k sum) = Unit {0}
CalmAwaited copy_low = ⊥
CalmAwaited (copy_high x) = ⊥
CalmAwaited (copy_status x y) = ⊥
CalmAwaited read_low = Unit {0}
CalmAwaited (read_high x) = Unit {0}

abbrev CalmDoing : Doing → Type 0
CalmDoing idle = Unit {0}
CalmDoing programming = ⊥
CalmDoing (taking w bs) = CalmAwaited w
CalmDoing (sending bs) = Unit {0}
CalmDoing (alternating x) = Unit {0}

abbrev CalmWork : Work → Type 0
CalmWork w = CalmDoing w.doing

calm_taking : (p : Padded) (b : Bool) → CalmWork p.work → CalmWork (take_pad p b).work
calm_taking p b h = go p.work.doing h
  where
    go : (d : Doing) → CalmDoing d → CalmWork (take_doing p.rules p.bytes b p.work.regs d)
    go idle h = tt
    go programming h = absurd h
    go (taking command bs) h = absurd h
    go (taking load_low bs) h = pick (full (bs ++ (b ∷ []))) CalmWork tt tt
    go (taking load_high bs) h = pick (full (bs ++ (b ∷ []))) CalmWork tt tt
    go (taking (load_data k sum) bs) h = pick (full (bs ++ (b ∷ []))) CalmWork (pick (leb 7 k) CalmWork tt tt) tt
    go (taking copy_low bs) h = absurd h
    go (taking (copy_high x) bs) h = absurd h
    go (taking (copy_status x y) bs) h = absurd h
    go (taking read_low bs) h = pick (full (bs ++ (b ∷ []))) CalmWork tt tt
    go (taking (read_high x) bs) h = pick (full (bs ++ (b ∷ []))) CalmWork tt tt
    go (sending bs) h = tt
    go (alternating x) h = tt

calm_pad : (p : Padded) → CalmWork p.work → CalmMemory (padded p)
calm_pad p h [] = go p.work.doing h
  where
    go : (d : Doing) → CalmDoing d → is_programming d ≡ false
    go idle h = refl
    go programming h = absurd h
    go (taking w bs) h = refl
    go (sending bs) h = refl
    go (alternating x) h = refl
calm_pad p h (b ∷ bs) = calm_pad (take_pad p b) (calm_taking p b h) bs

-- programming changes no byte beside its row
program_beside : (w row : ℕ) (new : List ℕ) (mask : ℕ) (m : List ℕ) (a : ℕ) → in_row row a ≡ false → at (program w row new mask m) a ≡ at m a
program_beside w row new mask m a h =
    program_each (λ b y. (leb row b && ltb b (row + 8)) ≡ false → y ≡ at m b) w row new mask m (λ b _. refl)
    (λ i l q. let t : (leb row (row + i) && ltb (row + i) (row + 8)) ≡ true = grind (arith, nat_tests) in absurd (true≢false (sym t ∙ q))) a h

-- 2. the laws of memories
-- once the memory phase has begun a memory is not programming, and hears a command, whatever it is
pub selected_free : (m : Memory) → programming_memory (select_memory m) ≡ false
selected_free (padded p) = refl

pub command_heard : (b : ℕ) (m : Memory) → HearsIn (bits_of 8 b) (select_memory m)
command_heard b (padded p) = byte_heard command b [] p tt

-- 0Fh, AAh and F0h bring it to program with nothing that follows
pub load_harmless : Harmless 0x0F
load_harmless (padded p) bs = calm_pad _ tt bs

pub report_harmless : Harmless 0xAA
report_harmless (padded p) bs = calm_pad _ tt bs

pub read_harmless : Harmless 0xF0
read_harmless (padded p) bs = calm_pad _ tt bs

-- 55h and the three bytes that follow it in an order
abbrev pub copy_bits : ℕ → ℕ → ℕ → List Bool
copy_bits low high sum = bits_all (0x55 ∷ low ∷ high ∷ sum ∷ [])

-- with an even low address byte it hears them, and after a dwell is calm
module _ (a b c : ℕ) (even : odd a ≡ false) where
  pub copy_heard : (m : Memory) → HearsIn (copy_bits a b c) (select_memory m)
  copy_heard (padded p) =
      byte_heard command 0x55 (bits_all (a ∷ b ∷ c ∷ [])) p
      (byte_heard copy_low a (bits_all (b ∷ c ∷ [])) p
      (byte_heard (copy_high (value (bits_of 8 a))) b (bits_all (c ∷ [])) p
      (byte_heard (copy_status (value (bits_of 8 a)) (value (bits_of 8 b))) c [] p tt)))

  pub copy_dwelt : (m : Memory) → CalmMemory (dwelt (takes_memory (copy_bits a b c) (select_memory m)))
  copy_dwelt (padded p) =
      pick (copy_begins p.rules p.bytes (value (bits_of 8 a)) (value (bits_of 8 b)) (value (bits_of 8 c)) p.work.regs)
      (λ (w : Work). CalmMemory (dwelt (padded (working p w)))) (λ bs. calm_pad _ tt bs) (λ bs. calm_pad _ tt bs)

module _ (row c : ℕ) (aligned : row % 8 ≡ 0) (short : row < 65536) where
  abbrev pub copied : Memory → Memory
  copied m = takes_memory (copy_bits (row % 256) (row / 256) c) (select_memory m)

  abbrev pub Aimed : Memory → Type 0
  Aimed m = programming_memory m ≡ true → (mask a : ℕ) → in_row row a ≡ false → at (bytes_in (cut_memory m mask)) a ≡ at (bytes_in m) a

  -- with the address of a row, what it then programs lies within that row
  pub copy_aimed : (m : Memory) → Aimed (copied m)
  copy_aimed (padded p) = go (copy_begins p.rules p.bytes low high sum p.work.regs) refl
    where
      low : ℕ
      low = value (bits_of 8 (row % 256))

      high : ℕ
      high = value (bits_of 8 (row / 256))

      sum : ℕ
      sum = value (bits_of 8 c)

      go : (t : Bool) → copy_begins p.rules p.bytes low high sum p.work.regs ≡ t
          → Aimed (padded (working p (elim t as (λ _. Work) [ true ↦ on (began_copy p.rules p.bytes p.work.regs) programming | false ↦ on (stopped_copy p.rules p.bytes low high sum p.work.regs) idle ])))
      go false q = λ busy. absurd (true≢false (sym busy))
      go true q = λ _ mask.
          subst (λ k. (a : ℕ) → in_row row a ≡ false → at (program p.rules.w k p.work.regs.pad mask p.bytes) a ≡ at p.bytes a) (sym its_row)
          (program_beside p.rules.w row p.work.regs.pad mask p.bytes)
        where
          rest : Bool
          rest = eqb sum (status p.work.regs) && (not p.work.regs.pf && may_copy p.rules p.bytes (row_of p.work.regs))

          both : (eqb low p.work.regs.ta1 ≡ true) × ((eqb high p.work.regs.ta2 && rest) ≡ true)
          both = and_parts (eqb low p.work.regs.ta1) (eqb high p.work.regs.ta2 && rest) q

          is_low : row % 256 ≡ p.work.regs.ta1
          is_low = sym (value_bits 8 (row % 256) (omega arith)) ∙ eqb-true low p.work.regs.ta1 both.0

          is_high : row / 256 ≡ p.work.regs.ta2
          is_high = sym (value_bits 8 (row / 256) (omega (arith, short))) ∙ eqb-true high p.work.regs.ta2 (and_parts (eqb high p.work.regs.ta2) rest both.1).0

          its_row : row_of (began_copy p.rules p.bytes p.work.regs) ≡ row
          its_row = let a = is_low in let b = is_high in omega (arith, a, b, aligned)

-- A line on which one chip talks and the others are quiet: what it sends is what is read.
use Rattle.std.proofs.Common.{◌≡◌, ℕ, zero, suc, ◌<◌, Bool, true, false, not, ◌&&◌, ◌||◌, List, [], ◌∷◌, ◌++◌, map, length, replicate, sym, refl, ap, ◌∙◌, subst, ap₂, append_assoc}
use mathlib.Core.Bool.{and-true, or-false}
use Rattle.base.specs.Bits.{bits_of, value, bits_all}
use Rattle.base.specs.Widths.{value_bits}
use Rattle.kinds.specs.Kinds.{Rules, Bytes}
use Rattle.memory.specs.Scratchpads.{Regs, Awaited, Doing, idle, taking, sending, alternating, Work, on, take_byte, take_doing, pull_doing, is_programming}
use Rattle.memory.specs.Memories.{Memory, padded}
use Rattle.chip.specs.Chips.{Live, off, selected, command, matching, searching}
use Rattle.chip.specs.Chips.{on as under, idle as resting, sending as saying}
use Rattle.chip.specs.ChipStates.{ChipState, is_busy, pull_of, take_bit, dwell_chip}
use Rattle.line.specs.Lines.{pull, any_busy}
use Rattle.rig.specs.Rigs.{slot_pulse, dwell_pulse}
use Rattle.wire.specs.Jobs.{Job, step, send_bits, read_bits, read_bytes}
use Rattle.wire.proofs.Leading.{Leads, leads_then, leads_none, leads_step}

-- without power or idle
abbrev pub QuietLive : Live → Type 0
QuietLive off = Unit {0}
QuietLive (under rc resting) = Unit {0}
QuietLive (under rc (command bs)) = ⊥
QuietLive (under rc (saying bs)) = ⊥
QuietLive (under rc (matching bs)) = ⊥
QuietLive (under rc (searching t bs)) = ⊥
QuietLive (under rc selected) = ⊥

abbrev pub QuietAll : List ChipState → Type 0
QuietAll [] = Unit {0}
QuietAll (c ∷ cs) = QuietLive c.live × QuietAll cs

module _ (x : ℕ) (m : Memory) where
  abbrev with : Live → ChipState
  with l = record { number = x; live = l; memory = m }

  quiet_live : (b : Bool) (l : Live) → QuietLive l → (take_bit b (with l) ≡ with l) × (pull_of (with l) ≡ true) × (is_busy (with l) ≡ false)
  quiet_live b off q = (refl, refl, refl)
  quiet_live b (under rc resting) q = (refl, refl, refl)
  quiet_live b (under rc (command bs)) q = absurd q
  quiet_live b (under rc (saying bs)) q = absurd q
  quiet_live b (under rc (matching bs)) q = absurd q
  quiet_live b (under rc (searching t bs)) q = absurd q
  quiet_live b (under rc selected) q = absurd q

  dwell_live : (l : Live) → QuietLive l → dwell_chip (with l) ≡ with l
  dwell_live off q = refl
  dwell_live (under rc resting) q = refl
  dwell_live (under rc (command bs)) q = absurd q
  dwell_live (under rc (saying bs)) q = absurd q
  dwell_live (under rc (matching bs)) q = absurd q
  dwell_live (under rc (searching t bs)) q = absurd q
  dwell_live (under rc selected) q = absurd q

-- quiet chips do nothing
pub quiet : (b : Bool) (c : ChipState) → QuietLive c.live → (take_bit b c ≡ c) × (pull_of c ≡ true) × (is_busy c ≡ false)
quiet b c q = quiet_live c.number c.memory b c.live q

dwell_quiets : (l : List ChipState) → QuietAll l → map dwell_chip l ≡ l
dwell_quiets [] q = refl
dwell_quiets (c ∷ cs) q = ap₂ (λ d ds. d ∷ ds) (dwell_live c.number c.memory c.live q.0) (dwell_quiets cs q.1)

pub take_quiets : (b : Bool) (l : List ChipState) → QuietAll l → map (take_bit b) l ≡ l
take_quiets b [] q = refl
take_quiets b (c ∷ cs) q = ap₂ (λ d ds. d ∷ ds) (quiet b c q.0).0 (take_quiets b cs q.1)

pub pull_quiets : (l : List ChipState) → QuietAll l → pull l ≡ true
pull_quiets [] q = refl
pull_quiets (c ∷ cs) q = ap₂ (λ a b. a && b) (quiet true c q.0).1 (pull_quiets cs q.1)

pub busy_quiets : (l : List ChipState) → QuietAll l → any_busy l ≡ false
busy_quiets [] q = refl
busy_quiets (c ∷ cs) q = ap₂ (λ a b. a || b) (quiet true c q.0).2 (busy_quiets cs q.1)

pub pull_put : (us vs : List ChipState) (c : ChipState) → QuietAll us → QuietAll vs → pull (us ++ (c ∷ vs)) ≡ pull_of c
pull_put [] vs c qa qb = ap (λ b. pull_of c && b) (pull_quiets vs qb) ∙ and-true (pull_of c)
pull_put (u ∷ us) vs c qa qb = ap₂ (λ a b. a && b) (quiet true u qa.0).1 (pull_put us vs c qa.1 qb)

pub busy_put : (us vs : List ChipState) (c : ChipState) → QuietAll us → QuietAll vs → any_busy (us ++ (c ∷ vs)) ≡ is_busy c
busy_put [] vs c qa qb = ap (λ b. is_busy c || b) (busy_quiets vs qb) ∙ or-false (is_busy c)
busy_put (u ∷ us) vs c qa qb = ap₂ (λ a b. a || b) (quiet true u qa.0).2 (busy_put us vs c qa.1 qb)

take_put : (b : Bool) (us vs : List ChipState) (c : ChipState) → QuietAll us → QuietAll vs → map (take_bit b) (us ++ (c ∷ vs)) ≡ us ++ (take_bit b c ∷ vs)
take_put b [] vs c qa qb = ap (λ l. take_bit b c ∷ l) (take_quiets b vs qb)
take_put b (u ∷ us) vs c qa qb = ap₂ (λ d ds. d ∷ ds) (quiet b u qa.0).0 (take_put b us vs c qa.1 qb)

dwell_put : (us vs : List ChipState) (c : ChipState) → QuietAll us → QuietAll vs → map dwell_chip (us ++ (c ∷ vs)) ≡ us ++ (dwell_chip c ∷ vs)
dwell_put [] vs c qa qb = ap (λ l. dwell_chip c ∷ l) (dwell_quiets vs qb)
dwell_put (u ∷ us) vs c qa qb = ap₂ (λ d ds. d ∷ ds) (dwell_live u.number u.memory u.live qa.0) (dwell_put us vs c qa.1 qb)

-- bits read where all are quiet are ones
pub read_quiet : {A : Type 0} (n : ℕ) (k : List Bool → Job A) (l : List ChipState) → QuietAll l → Leads (read_bits n k) l (k (replicate n true)) l
read_quiet zero k l q = leads_none
read_quiet (suc n) k l q =
    leads_then
    (subst (λ y. Leads (read_bits (suc n) k) l (read_bits n (λ bs. k (y ∷ bs))) (map (take_bit y) l)) (pull_quiets l q)
    (leads_step (slot_pulse true) (λ b. read_bits n (λ bs. k (b ∷ bs))) l (busy_quiets l q)))
    (subst (λ t. Leads (read_bits n (λ bs. k (true ∷ bs))) t (k (true ∷ replicate n true)) l) (sym (take_quiets true l q))
    (read_quiet n (λ bs. k (true ∷ bs)) l q))

-- so are bytes
pub bytes_quiet : {A : Type 0} (n : ℕ) (k : List ℕ → Job A) (l : List ChipState) → QuietAll l → Leads (read_bytes n k) l (k (replicate n 255)) l
bytes_quiet zero k l q = leads_none
bytes_quiet (suc n) k l q = leads_then (read_quiet 8 (λ bs. read_bytes n (λ xs. k (value bs ∷ xs))) l q) (bytes_quiet n (λ xs. k (255 ∷ xs)) l q)

-- bits sent there are heard by nobody
pub send_quiet : {A : Type 0} (bs : List Bool) (k : Job A) (l : List ChipState) → QuietAll l → Leads (send_bits bs k) l k l
send_quiet [] k l q = leads_none
send_quiet (b ∷ bs) k l q =
    leads_then
    (subst (λ t. Leads (send_bits (b ∷ bs) k) l (send_bits bs k) t) (take_quiets (b && pull l) l q)
    (leads_step (slot_pulse b) (λ _. send_bits bs k) l (busy_quiets l q)))
    (send_quiet bs k l q)

-- bits in turn, and where n of them lead
abbrev pub alternation : ℕ → Bool → List Bool
alternation zero b = []
alternation (suc n) b = b ∷ alternation n (not b)

abbrev pub turned : ℕ → Bool → Bool
turned zero b = b
turned (suc n) b = turned n (not b)

module _ (us vs : List ChipState) (qa : QuietAll us) (qb : QuietAll vs) where
  abbrev pub put : ChipState → List ChipState
  put c = us ++ (c ∷ vs)

  -- a slot with one talking chip
  pub slot_put : {A : Type 0} (b : Bool) (k : Bool → Job A) (c : ChipState) → is_busy c ≡ false
      → Leads (step (slot_pulse b) k) (put c) (k (b && pull_of c)) (put (take_bit (b && pull_of c) c))
  slot_put b k c e =
      subst (λ y. Leads (step (slot_pulse b) k) (put c) (k (b && y)) (put (take_bit (b && y) c))) (pull_put us vs c qa qb)
      (subst (λ l. Leads (step (slot_pulse b) k) (put c) (k (b && pull (put c))) l) (take_put (b && pull (put c)) us vs c qa qb)
      (leads_step (slot_pulse b) k (put c) (busy_put us vs c qa qb ∙ e)))

  -- a dwell reaches the one chip
  pub dwell_one : {A : Type 0} (k : Bool → Job A) (c : ChipState) → Leads (step dwell_pulse k) (put c) (k true) (put (dwell_chip c))
  dwell_one k c = subst (λ l. Leads (step dwell_pulse k) (put c) (k true) l) (dwell_put us vs c qa qb) (leads_step dwell_pulse k (put c) refl)

  module _ (K : Rules) (x : ℕ) (m : List ℕ) (rc : Bool) where
    -- a chip with this number and these bytes in the memory phase
    abbrev pub talking : Work → ChipState
    talking w = record { number = x; live = under rc selected; memory = padded (record { rules = K; bytes = m; work = w }) }

    -- a bit sent to a chip that pulls nothing
    one_bit : {A : Type 0} (b : Bool) (rest : List Bool) (k : Job A) (r : Regs) (d : Doing) → is_programming d ≡ false → pull_doing d ≡ true
        → Leads (send_bits (b ∷ rest) k) (put (talking (on r d))) (send_bits rest k) (put (talking (take_doing K m b r d)))
    one_bit b rest k r d e q =
        subst (λ y. Leads (send_bits (b ∷ rest) k) (put (talking (on r d))) (send_bits rest k) (put (talking (take_doing K m y r d)))) (ap (λ y. b && y) q ∙ and-true b)
        (slot_put b (λ _. send_bits rest k) (talking (on r d)) e)

    eight : {A : Type 0} (b0 b1 b2 b3 b4 b5 b6 b7 : Bool) (rest : List Bool) (k : Job A) (r : Regs) (w : Awaited)
        → Leads (send_bits (b0 ∷ b1 ∷ b2 ∷ b3 ∷ b4 ∷ b5 ∷ b6 ∷ b7 ∷ rest) k) (put (talking (on r (taking w [])))) (send_bits rest k)
        (put (talking (take_byte K m w (value (b0 ∷ b1 ∷ b2 ∷ b3 ∷ b4 ∷ b5 ∷ b6 ∷ b7 ∷ [])) r)))
    eight b0 b1 b2 b3 b4 b5 b6 b7 rest k r w =
        (leads_then (one_bit b0 (b1 ∷ b2 ∷ b3 ∷ b4 ∷ b5 ∷ b6 ∷ b7 ∷ rest) k r (taking w ([])) refl refl)
        (leads_then (one_bit b1 (b2 ∷ b3 ∷ b4 ∷ b5 ∷ b6 ∷ b7 ∷ rest) k r (taking w (b0 ∷ [])) refl refl)
        (leads_then (one_bit b2 (b3 ∷ b4 ∷ b5 ∷ b6 ∷ b7 ∷ rest) k r (taking w (b0 ∷ b1 ∷ [])) refl refl)
        (leads_then (one_bit b3 (b4 ∷ b5 ∷ b6 ∷ b7 ∷ rest) k r (taking w (b0 ∷ b1 ∷ b2 ∷ [])) refl refl)
        (leads_then (one_bit b4 (b5 ∷ b6 ∷ b7 ∷ rest) k r (taking w (b0 ∷ b1 ∷ b2 ∷ b3 ∷ [])) refl refl)
        (leads_then (one_bit b5 (b6 ∷ b7 ∷ rest) k r (taking w (b0 ∷ b1 ∷ b2 ∷ b3 ∷ b4 ∷ [])) refl refl)
        (leads_then (one_bit b6 (b7 ∷ rest) k r (taking w (b0 ∷ b1 ∷ b2 ∷ b3 ∷ b4 ∷ b5 ∷ [])) refl refl)
        (one_bit b7 rest k r (taking w (b0 ∷ b1 ∷ b2 ∷ b3 ∷ b4 ∷ b5 ∷ b6 ∷ [])) refl refl))))))))

    -- a byte arrives whole
    pub one_byte : {A : Type 0} (b : ℕ) (rest : List Bool) (k : Job A) (r : Regs) (w : Awaited) → b < 256
        → Leads (send_bits (bits_of 8 b ++ rest) k) (put (talking (on r (taking w [])))) (send_bits rest k) (put (talking (take_byte K m w b r)))
    one_byte b rest k r w h =
        subst (λ v. Leads (send_bits (bits_of 8 b ++ rest) k) (put (talking (on r (taking w [])))) (send_bits rest k) (put (talking (take_byte K m w v r)))) (value_bits 8 b h)
        (eight _ _ _ _ _ _ _ _ rest k r w)

    -- bits read from a sending chip
    pub bits_read : {A : Type 0} (qs more : List Bool) (k : List Bool → Job A) (r : Regs)
        → Leads (read_bits (length qs) k) (put (talking (on r (sending (qs ++ more))))) (k qs) (put (talking (on r (sending more))))
    bits_read [] more k r = leads_none
    bits_read (q ∷ qs) more k r =
        leads_then (slot_put true (λ b. read_bits (length qs) (λ bs. k (b ∷ bs))) (talking (on r (sending (q ∷ (qs ++ more))))) refl)
        (bits_read qs more (λ bs. k (q ∷ bs)) r)

    -- bytes read from a sending chip
    pub bytes_read : {A : Type 0} (xs : List ℕ) (more : List Bool) (k : List ℕ → Job A) (r : Regs) → Bytes xs
        → Leads (read_bytes (length xs) k) (put (talking (on r (sending (bits_all xs ++ more))))) (k xs) (put (talking (on r (sending more))))
    bytes_read [] more k r h = leads_none
    bytes_read (y ∷ ys) more k r h =
        leads_then (subst (λ l. Leads (read_bytes (length (y ∷ ys)) k) (put (talking (on r (sending l)))) (read_bytes (length ys) (λ zs. k (value (bits_of 8 y) ∷ zs))) (put (talking (on r (sending (bits_all ys ++ more))))))
        (sym (append_assoc (bits_of 8 y) (bits_all ys) more))
        (bits_read (bits_of 8 y) (bits_all ys ++ more) (λ bs. read_bytes (length ys) (λ zs. k (value bs ∷ zs))) r))
        (subst (λ v. Leads (read_bytes (length ys) (λ zs. k (value (bits_of 8 y) ∷ zs))) (put (talking (on r (sending (bits_all ys ++ more))))) (k (v ∷ ys)) (put (talking (on r (sending more))))) (value_bits 8 y (h 0))
        (bytes_read ys more (λ zs. k (value (bits_of 8 y) ∷ zs)) r (λ a. h (suc a))))

    -- past what it has to send it sends ones
    pub read_past : {A : Type 0} (n : ℕ) (k : List Bool → Job A) (r : Regs)
        → Leads (read_bits n k) (put (talking (on r (sending [])))) (k (replicate n true)) (put (talking (on r (sending []))))
    read_past zero k r = leads_none
    read_past (suc n) k r =
        leads_then (slot_put true (λ b. read_bits n (λ bs. k (b ∷ bs))) (talking (on r (sending []))) refl) (read_past n (λ bs. k (true ∷ bs)) r)

    -- a chip that has nothing to say is read as ones
    pub read-idle : {A : Type 0} (n : ℕ) (k : List Bool → Job A) (r : Regs)
        → Leads (read_bits n k) (put (talking (on r idle))) (k (replicate n true)) (put (talking (on r idle)))
    read-idle zero k r = leads_none
    read-idle (suc n) k r =
        leads_then (slot_put true (λ b. read_bits n (λ bs. k (b ∷ bs))) (talking (on r idle)) refl) (read-idle n (λ bs. k (true ∷ bs)) r)

    -- one that has programmed is read as 0, 1, 0, 1 and so on
    pub read-alternating : {A : Type 0} (n : ℕ) (b : Bool) (k : List Bool → Job A) (r : Regs)
        → Leads (read_bits n k) (put (talking (on r (alternating b)))) (k (alternation n b)) (put (talking (on r (alternating (turned n b)))))
    read-alternating zero b k r = leads_none
    read-alternating (suc n) b k r =
        leads_then (slot_put true (λ c. read_bits n (λ bs. k (c ∷ bs))) (talking (on r (alternating b))) refl) (read-alternating n (not b) (λ bs. k (b ∷ bs)) r)

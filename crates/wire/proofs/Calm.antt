-- Jobs without a dwell: they change no byte; and when no pulse of a job is refused.
use Rattle.std.proofs.Common.{◌≡◌, ℕ, zero, suc, Bool, true, false, ◌&&◌, ◌||◌, List, [], ◌∷◌, ◌++◌, map, sym, refl, ap, ◌∙◌, subst, ap₂}
use mathlib.Core.Bool.{and-true}
use Rattle.std.proofs.lemmas.Bool.{or_parts}
use Rattle.base.specs.Bits.{bits_of, bits_all, value}
use Rattle.base.specs.RegistrationNumbers.{word_bytes}
use Rattle.memory.specs.Memories.{Memory}
use Rattle.memory.proofs.Calm.{CalmMemory, Harmless, command_heard}
use Rattle.chip.specs.Chips.{Live, off, selected, matching, searching}
use Rattle.chip.specs.Chips.{on as under, idle as resting, sending as saying, command as ordering}
use Rattle.chip.specs.ChipStates.{ChipState, bytes_of, is_busy, take_bit, reset_chip, cut_chip, takes, opened_as}
use Rattle.base.proofs.Choice.{pick}
use Rattle.chip.proofs.Keeps.{bytes_taken, bytes_reset, bytes_cut_idle}
use Rattle.chip.proofs.Select.{Hears, after_reset, listening, reset_free, select_some, takes-idle, takes-off, hears_idle, hears_off}
use Rattle.line.specs.Lines.{presence, pull, any_busy}
use Rattle.rig.specs.Rigs.{RigState, FuseState, none, after, Pulse, reset_pulse, slot_pulse, dwell_pulse, line_after, answer, answer_if_cut, pulse_by, pulse, refused, counted}
use Rattle.rig.proofs.Unpowered.{AllOff, busy_line, off-line_after, off-refused, cut_off}
use Rattle.wire.specs.Jobs.{Job, ret, step, Got, done, line_busy, Ran, run, Said, good as fine, bad as wrong, send_bits, read_bits, read_bytes, send_bytes}
use Rattle.wire.specs.Exchanges.{Exchange, answer as answers, refuse, opening, closing, dwelling, send, read, pulses}
use Rattle.wire.specs.declared.exchange_fault.ExchangeError.{ExchangeError}
use Rattle.wire.specs.declared.exchange_fault.ExchangeError.TheVariants.{NoPresence}
use Rattle.wire.proofs.Leading.{HearsAll, hears_pull, hears_busy, hears_on, map-takes, map-none, after_opening, after_sent-number, opened_hear}
use Rattle.wire.proofs.Power.{run_dead, on_step}

-- 1. no byte changes

abbrev pub NoDwell : {A : Type 0} → Job A → Type 0
NoDwell (ret a) = Unit {0}
NoDwell (step reset_pulse k) = (b : Bool) → NoDwell (k b)
NoDwell (step (slot_pulse x) k) = (b : Bool) → NoDwell (k b)
NoDwell (step dwell_pulse k) = ⊥

pub no_send : {A : Type 0} (bs : List Bool) (k : Job A) → NoDwell k → NoDwell (send_bits bs k)
no_send [] k h = h
no_send (b ∷ bs) k h = λ _. no_send bs k h

no_read : {A : Type 0} (n : ℕ) (k : List Bool → Job A) → ((bs : List Bool) → NoDwell (k bs)) → NoDwell (read_bits n k)
no_read zero k h = h []
no_read (suc n) k h = λ b. no_read n (λ bs. k (b ∷ bs)) (λ bs. h (b ∷ bs))

no_bytes : {A : Type 0} (n : ℕ) (k : List ℕ → Job A) → ((xs : List ℕ) → NoDwell (k xs)) → NoDwell (read_bytes n k)
no_bytes zero k h = h []
no_bytes (suc n) k h = no_read 8 (λ bs. read_bytes n (λ xs. k (value bs ∷ xs))) (λ bs. no_bytes n (λ xs. k (value bs ∷ xs)) (λ xs. h (value bs ∷ xs)))

-- an exchange without a dwell
abbrev pub Still : {A : Type 0} → Exchange A → Type 0
Still (answers a) = Unit {0}
Still (refuse w e) = Unit {0}
Still (opening x e k) = Still k
Still (closing k) = (b : Bool) → Still (k b)
Still (dwelling k) = ⊥
Still (send xs k) = Still k
Still (read n k) = (xs : List ℕ) → Still (k xs)

pub no_dwell : {A B : Type 0} (good : A → Job B) (bad : ExchangeError → ℕ → Job B) → ((a : A) → NoDwell (good a)) → ((w : ExchangeError) (e : ℕ) → NoDwell (bad w e)) → (j : Exchange A) → Still j → NoDwell (pulses j good bad)
no_dwell good bad g b (answers a) s = g a
no_dwell good bad g b (refuse w e) s = b w e
no_dwell good bad g b (opening x e k) s =
    λ t. pick t NoDwell (no_send (bits_all (0x55 ∷ [])) (send_bytes (word_bytes x) (pulses k good bad)) (no_send (bits_all (word_bytes x)) (pulses k good bad) (no_dwell good bad g b k s))) (b NoPresence e)
no_dwell good bad g b (closing k) s = λ t. no_dwell good bad g b (k t) (s t)
no_dwell good bad g b (dwelling k) s = absurd s
no_dwell good bad g b (send xs k) s = no_send (bits_all xs) (pulses k good bad) (no_dwell good bad g b k s)
no_dwell good bad g b (read n k) s = no_bytes n (λ xs. pulses (k xs) good bad) (λ xs. no_dwell good bad g b (k xs) (s xs))

abbrev SameBytes : List ChipState → List ChipState → Type 0
SameBytes l l' = map bytes_of l' ≡ map bytes_of l

map_same : (f : ChipState → ChipState) → ((c : ChipState) → bytes_of (f c) ≡ bytes_of c) → (l : List ChipState) → SameBytes l (map f l)
map_same f h [] = refl
map_same f h (c ∷ cs) = ap₂ (λ x xs. x ∷ xs) (h c) (map_same f h cs)

-- a cut of a line that is not busy
cut-same : (mask : ℕ) (l : List ChipState) → any_busy l ≡ false → SameBytes l (map (cut_chip mask) l)
cut-same mask [] e = refl
cut-same mask (c ∷ cs) e = ap₂ (λ x xs. x ∷ xs) (bytes_cut_idle mask c (or_parts _ _ e).0) (cut-same mask cs (or_parts _ _ e).1)

-- nor does any pulse but a dwell, whatever the fuse
abbrev NotDwell : Pulse → Type 0
NotDwell reset_pulse = Unit {0}
NotDwell (slot_pulse b) = Unit {0}
NotDwell dwell_pulse = ⊥

line_after-same : (p : Pulse) (l : List ChipState) → NotDwell p → SameBytes l (line_after p l)
line_after-same reset_pulse l h = map_same reset_chip bytes_reset l
line_after-same (slot_pulse b) l h = map_same (take_bit (b && pull l)) (bytes_taken (b && pull l)) l
line_after-same dwell_pulse l h = absurd h

any_busy-refuses : (p : Pulse) (l : List ChipState) → NotDwell p → refused p l ≡ false → any_busy l ≡ false
any_busy-refuses reset_pulse l h e = e
any_busy-refuses (slot_pulse b) l h e = e
any_busy-refuses dwell_pulse l h e = absurd h

pulse-same : (f : FuseState) (p : Pulse) (l : List ChipState) → NotDwell p → refused p l ≡ false → SameBytes l (pulse_by f p l).0.line
pulse-same none p l h e = line_after-same p l h
pulse-same (after zero mask) p l h e = cut-same mask l (any_busy-refuses p l h e)
pulse-same (after (suc n) mask) p l h e = line_after-same p l h

-- a pulse and what follows it
step_same : {A : Type 0} (n : ℕ) (p : Pulse) (k : Bool → Job A) (r : RigState) → NotDwell p
    → SameBytes (pulse p r).0.line (run (counted n) (k (pulse p r).1) (pulse p r).0).rig.line → SameBytes r.line (run n (step p k) r).rig.line
step_same n p k r h rest = go (refused p r.line) refl
  where
    go : (t : Bool) → refused p r.line ≡ t → SameBytes r.line (on_step n p k r t).rig.line
    go true e = refl
    go false e = rest ∙ pulse-same r.fuse p r.line h e

pub bytes_run : {A : Type 0} (n : ℕ) (p : Job A) (r : RigState) → NoDwell p → SameBytes r.line (run n p r).rig.line
bytes_run n (ret a) r h = refl
bytes_run n (step reset_pulse k) r h = step_same n reset_pulse k r tt (bytes_run (counted n) (k (pulse reset_pulse r).1) (pulse reset_pulse r).0 (h (pulse reset_pulse r).1))
bytes_run n (step (slot_pulse x) k) r h = step_same n (slot_pulse x) k r tt (bytes_run (counted n) (k (pulse (slot_pulse x) r).1) (pulse (slot_pulse x) r).0 (h (pulse (slot_pulse x) r).1))
bytes_run n (step dwell_pulse k) r h = absurd h

-- what holds of every answer that a job can give
abbrev pub Leaves : {A : Type 0} → (A → Type 0) → Job A → Type 0
Leaves P (ret a) = P a
Leaves P (step p k) = (b : Bool) → Leaves P (k b)

abbrev pub GotAll : {A : Type 0} → (A → Type 0) → Got A → Type 0
GotAll P (done a) = P a
GotAll P line_busy = Unit {0}

-- no answer has the number 3: that refusal is the rig's alone
abbrev pub NotThree : {A : Type 0} → Said A → Type 0
NotThree (fine a) = Unit {0}
NotThree (wrong k e) = k ≡ 3 → ⊥

pub leaves_run : {A : Type 0} (P : A → Type 0) (n : ℕ) (p : Job A) (r : RigState) → Leaves P p → GotAll P (run n p r).got
leaves_run P n (ret a) r h = h
leaves_run {A} P n (step p k) r h =
    pick (refused p r.line) (λ (w : Ran A). GotAll P w.got) tt (leaves_run P (counted n) (k (pulse p r).1) (pulse p r).0 (h (pulse p r).1))

-- no dwell leads to an answer of which P holds
module _ {A : Type 0} (P : A → Type 0) where
  abbrev pub DwellFree : Job A → Type 0
  DwellFree (ret a) = Unit {0}
  DwellFree (step reset_pulse k) = (b : Bool) → DwellFree (k b)
  DwellFree (step (slot_pulse x) k) = (b : Bool) → DwellFree (k b)
  DwellFree (step dwell_pulse k) = (b : Bool) → Leaves (λ a. P a → ⊥) (k b)

  abbrev pub Gets : Got A → Type 0
  Gets (done a) = P a
  Gets line_busy = ⊥

  none_got : (g : Got A) → GotAll (λ a. P a → ⊥) g → Gets g → ⊥
  none_got (done a) h q = h q
  none_got line_busy h q = q

  step_gets : (n : ℕ) (p : Pulse) (k : Bool → Job A) (r : RigState) → Gets (run n (step p k) r).got → Gets (run (counted n) (k (pulse p r).1) (pulse p r).0).got
  step_gets n p k r g = go (refused p r.line) g
    where
      go : (t : Bool) → Gets (on_step n p k r t).got → Gets (run (counted n) (k (pulse p r).1) (pulse p r).0).got
      go true h = absurd h
      go false h = h

  -- such an answer leaves all bytes
  pub bytes_unless : (n : ℕ) (p : Job A) (r : RigState) → DwellFree p → Gets (run n p r).got → SameBytes r.line (run n p r).rig.line
  bytes_unless n (ret a) r h g = refl
  bytes_unless n (step reset_pulse k) r h g =
      step_same n reset_pulse k r tt (bytes_unless (counted n) (k (pulse reset_pulse r).1) (pulse reset_pulse r).0 (h (pulse reset_pulse r).1) (step_gets n reset_pulse k r g))
  bytes_unless n (step (slot_pulse x) k) r h g =
      step_same n (slot_pulse x) k r tt (bytes_unless (counted n) (k (pulse (slot_pulse x) r).1) (pulse (slot_pulse x) r).0 (h (pulse (slot_pulse x) r).1) (step_gets n (slot_pulse x) k r g))
  bytes_unless n (step dwell_pulse k) r h g =
      absurd (none_got _ (leaves_run (λ a. P a → ⊥) (counted n) (k (pulse dwell_pulse r).1) (pulse dwell_pulse r).0 (h (pulse dwell_pulse r).1)) g)

  free_send : (bs : List Bool) (k : Job A) → DwellFree k → DwellFree (send_bits bs k)
  free_send [] k h = h
  free_send (b ∷ bs) k h = λ _. free_send bs k h

  free_read : (n : ℕ) (k : List Bool → Job A) → ((bs : List Bool) → DwellFree (k bs)) → DwellFree (read_bits n k)
  free_read zero k h = h []
  free_read (suc n) k h = λ b. free_read n (λ bs. k (b ∷ bs)) (λ bs. h (b ∷ bs))

  free_bytes : (n : ℕ) (k : List ℕ → Job A) → ((xs : List ℕ) → DwellFree (k xs)) → DwellFree (read_bytes n k)
  free_bytes zero k h = h []
  free_bytes (suc n) k h = free_read 8 (λ bs. read_bytes n (λ xs. k (value bs ∷ xs))) (λ bs. free_bytes n (λ xs. k (value bs ∷ xs)) (λ xs. h (value bs ∷ xs)))

module _ {B : Type 0} (P : B → Type 0) where
  pub leaves_send : (bs : List Bool) (k : Job B) → Leaves P k → Leaves P (send_bits bs k)
  leaves_send [] k h = h
  leaves_send (b ∷ bs) k h = λ _. leaves_send bs k h

  leaves_read : (n : ℕ) (k : List Bool → Job B) → ((bs : List Bool) → Leaves P (k bs)) → Leaves P (read_bits n k)
  leaves_read zero k h = h []
  leaves_read (suc n) k h = λ b. leaves_read n (λ bs. k (b ∷ bs)) (λ bs. h (b ∷ bs))

  leaves_bytes : (n : ℕ) (k : List ℕ → Job B) → ((xs : List ℕ) → Leaves P (k xs)) → Leaves P (read_bytes n k)
  leaves_bytes zero k h = h []
  leaves_bytes (suc n) k h = leaves_read 8 (λ bs. read_bytes n (λ xs. k (value bs ∷ xs))) (λ bs. leaves_bytes n (λ xs. k (value bs ∷ xs)) (λ xs. h (value bs ∷ xs)))

  pub leaves : {A : Type 0} (good : A → Job B) (bad : ExchangeError → ℕ → Job B) → ((a : A) → Leaves P (good a)) → ((w : ExchangeError) (e : ℕ) → Leaves P (bad w e)) → (j : Exchange A) → Leaves P (pulses j good bad)
  leaves good bad g b (answers a) = g a
  leaves good bad g b (refuse w e) = b w e
  leaves good bad g b (opening x e k) =
      λ t. pick t (Leaves P) (leaves_send (bits_all (0x55 ∷ [])) (send_bytes (word_bytes x) (pulses k good bad)) (leaves_send (bits_all (word_bytes x)) (pulses k good bad) (leaves good bad g b k))) (b NoPresence e)
  leaves good bad g b (closing k) = λ t. leaves good bad g b (k t)
  leaves good bad g b (dwelling k) = λ _. leaves good bad g b k
  leaves good bad g b (send xs k) = leaves_send (bits_all xs) (pulses k good bad) (leaves good bad g b k)
  leaves good bad g b (read n k) = leaves_bytes n (λ xs. pulses (k xs) good bad) (λ xs. leaves good bad g b (k xs))

-- an exchange after whose dwells P holds of no answer
module _ {A B : Type 0} (P : B → Type 0) (good : A → Job B) (bad : ExchangeError → ℕ → Job B) (free : (a : A) → DwellFree P (good a)) (fails : (w : ExchangeError) (e : ℕ) → DwellFree P (bad w e)) where
  abbrev pub Parted : Exchange A → Type 0
  Parted (answers a) = Unit {0}
  Parted (refuse w e) = Unit {0}
  Parted (opening x e k) = Parted k
  Parted (closing k) = (b : Bool) → Parted (k b)
  Parted (dwelling k) = Leaves (λ b. P b → ⊥) (pulses k good bad)
  Parted (send xs k) = Parted k
  Parted (read n k) = (xs : List ℕ) → Parted (k xs)

  pub dwell_free : (j : Exchange A) → Parted j → DwellFree P (pulses j good bad)
  dwell_free (answers a) h = free a
  dwell_free (refuse w e) h = fails w e
  dwell_free (opening x e k) h =
      λ t. pick t (DwellFree P) (free_send P (bits_all (0x55 ∷ [])) (send_bytes (word_bytes x) (pulses k good bad)) (free_send P (bits_all (word_bytes x)) (pulses k good bad) (dwell_free k h))) (fails NoPresence e)
  dwell_free (closing k) h = λ t. dwell_free (k t) (h t)
  dwell_free (dwelling k) h = λ _. h
  dwell_free (send xs k) h = free_send P (bits_all xs) (pulses k good bad) (dwell_free k h)
  dwell_free (read n k) h = free_bytes P n (λ xs. pulses (k xs) good bad) (λ xs. dwell_free (k xs) (h xs))

  still_parted : (j : Exchange A) → Still j → Parted j
  still_parted (answers a) h = tt
  still_parted (refuse w e) h = tt
  still_parted (opening x e k) h = still_parted k h
  still_parted (closing k) h = λ b. still_parted (k b) (h b)
  still_parted (dwelling k) h = absurd h
  still_parted (send xs k) h = still_parted k h
  still_parted (read n k) h = λ xs. still_parted (k xs) (h xs)

  -- and one without a dwell
  pub still_free : (j : Exchange A) → Still j → DwellFree P (pulses j good bad)
  still_free j h = dwell_free j (still_parted j h)

-- 2. no pulse is refused

-- a line that is ready for a pulse: it is not busy, or, at a dwell, as D says
abbrev pub Ready : (List ChipState → Type 0) → Pulse → List ChipState → Type 0
Ready D reset_pulse l = any_busy l ≡ false
Ready D (slot_pulse b) l = any_busy l ≡ false
Ready D dwell_pulse l = D l

pub ready_free : (D : List ChipState → Type 0) (p : Pulse) (l : List ChipState) → Ready D p l → refused p l ≡ false
ready_free D reset_pulse l h = h
ready_free D (slot_pulse b) l h = h
ready_free D dwell_pulse l h = refl

-- every pulse of a job finds the line ready, and Q holds of the line at its end
abbrev pub Meets : (D Q : List ChipState → Type 0) → {A : Type 0} → Job A → List ChipState → Type 0
Meets D Q (ret a) l = Q l
Meets D Q (step p k) l = Ready D p l × Meets D Q (k (answer p l)) (line_after p l)

abbrev pub Anyhow : List ChipState → Type 0
Anyhow l = Unit {0}

abbrev pub Unrefused : {A : Type 0} → Job A → List ChipState → Type 0
Unrefused p l = Meets Anyhow Anyhow p l

-- and no chip programs at its end
abbrev pub Free : List ChipState → Type 0
Free l = any_busy l ≡ false

abbrev pub Freed : (List ChipState → Type 0) → {A : Type 0} → Job A → List ChipState → Type 0
Freed D p l = Meets D Free p l

module _ (D : List ChipState → Type 0) where
  ready_anyhow : (p : Pulse) (l : List ChipState) → Ready D p l → Ready Anyhow p l
  ready_anyhow reset_pulse l h = h
  ready_anyhow (slot_pulse b) l h = h
  ready_anyhow dwell_pulse l h = tt

  pub freed_unrefused : {A : Type 0} (p : Job A) (l : List ChipState) → Freed D p l → Unrefused p l
  freed_unrefused (ret a) l u = tt
  freed_unrefused (step p k) l u = (ready_anyhow p l u.0, freed_unrefused (k (answer p l)) (line_after p l) u.1)

-- then none is, whatever the fuse
abbrev pub Ended : {A : Type 0} → Got A → Type 0
Ended (done a) = Unit {0}
Ended line_busy = ⊥

pub unrefused_run : {A : Type 0} (n : ℕ) (p : Job A) (l : List ChipState) (f : FuseState) → Unrefused p l → Ended (run n p (record { line = l; fuse = f })).got
unrefused_run n (ret a) l f u = tt
unrefused_run n (step p k) l f u =
    subst (λ t. Ended (on_step n p k (record { line = l; fuse = f }) t).got) (sym (ready_free Anyhow p l u.0)) (go f (λ g. unrefused_run (counted n) (k (answer p l)) (line_after p l) g u.1))
  where
    go : (g : FuseState) → ((g : FuseState) → Ended (run (counted n) (k (answer p l)) (record { line = line_after p l; fuse = g })).got) → Ended (run (counted n) (k (pulse p (record { line = l; fuse = g })).1) (pulse p (record { line = l; fuse = g })).0).got
    go none ih = ih none
    go (after zero m) ih = subst Ended (sym (run_dead (counted n) (k (answer_if_cut p)) (map (cut_chip m) l) (cut_off m l))) tt
    go (after (suc j) m) ih = ih (after j m)

-- a line without power stays so
run_off : {A : Type 0} (n : ℕ) (p : Job A) (l : List ChipState) → AllOff l → (run n p (record { line = l; fuse = none })).rig.line ≡ l
run_off n (ret a) l o = refl
run_off n (step p k) l o =
    ap (λ t. (on_step n p k (record { line = l; fuse = none }) t).rig.line) (off-refused p l o)
    ∙ run_off (counted n) (k (answer p l)) (line_after p l) (subst AllOff (sym (off-line_after p l o)) o) ∙ off-line_after p l o

-- whichever step is cut, Q holds of the line then, if it holds of a line without power,
-- and so does P, if pulses and cuts of a line that is ready keep it
module _ (D Q P : List ChipState → Type 0) (offs : (l : List ChipState) → AllOff l → Q l) (acts : (p : Pulse) (l : List ChipState) → Ready D p l → P l → P (line_after p l))
    (cuts : (p : Pulse) (m : ℕ) (l : List ChipState) → Ready D p l → P l → P (map (cut_chip m) l)) where
  abbrev Both : List ChipState → Type 0
  Both l = Q l × P l

  pub meets_run : {A : Type 0} (n : ℕ) (p : Job A) (l : List ChipState) (f : FuseState) → Meets D Q p l → P l → Both (run n p (record { line = l; fuse = f })).rig.line
  meets_run n (ret a) l f u h = (u, h)
  meets_run n (step p k) l f u h =
      subst (λ t. Both (on_step n p k (record { line = l; fuse = f }) t).rig.line) (sym (ready_free D p l u.0)) (go f (λ g. meets_run (counted n) (k (answer p l)) (line_after p l) g u.1 (acts p l u.0 h)))
    where
      go : (g : FuseState) → ((g : FuseState) → Both (run (counted n) (k (answer p l)) (record { line = line_after p l; fuse = g })).rig.line) → Both (run (counted n) (k (pulse p (record { line = l; fuse = g })).1) (pulse p (record { line = l; fuse = g })).0).rig.line
      go none ih = ih none
      go (after zero m) ih =
          subst Both (sym (run_off (counted n) (k (answer_if_cut p)) (map (cut_chip m) l) (cut_off m l))) (offs (map (cut_chip m) l) (cut_off m l), cuts p m l u.0 h)
      go (after (suc j) m) ih = ih (after j m)

pub freed_run : (D : List ChipState → Type 0) {A : Type 0} (n : ℕ) (p : Job A) (l : List ChipState) (f : FuseState) → Freed D p l → Free (run n p (record { line = l; fuse = f })).rig.line
freed_run D n p l f u = (meets_run D Free Anyhow busy_line (λ p l h u. tt) (λ p m l h u. tt) n p l f u tt).0

-- a chip that no bits can bring to program
abbrev CalmIn : Live → Memory → Type 0
CalmIn off m = Unit {0}
CalmIn (under rc resting) m = Unit {0}
CalmIn (under rc (ordering bs)) m = ⊥
CalmIn (under rc (saying bs)) m = ⊥
CalmIn (under rc (matching bs)) m = ⊥
CalmIn (under rc (searching t bs)) m = ⊥
CalmIn (under rc selected) m = CalmMemory m

abbrev pub CalmChip : ChipState → Type 0
CalmChip c = CalmIn c.live c.memory

abbrev pub CalmAll : List ChipState → Type 0
CalmAll [] = Unit {0}
CalmAll (c ∷ cs) = CalmChip c × CalmAll cs

module _ (x : ℕ) (m : Memory) where
  abbrev with : Live → ChipState
  with l = record { number = x; live = l; memory = m }

  calm_live : (b : Bool) (l : Live) → CalmIn l m → CalmChip (take_bit b (with l)) × (is_busy (with l) ≡ false)
  calm_live b off h = (tt, refl)
  calm_live b (under rc resting) h = (tt, refl)
  calm_live b (under rc (ordering bs)) h = absurd h
  calm_live b (under rc (saying bs)) h = absurd h
  calm_live b (under rc (matching bs)) h = absurd h
  calm_live b (under rc (searching t bs)) h = absurd h
  calm_live b (under rc selected) h = (λ bs. h (b ∷ bs), h [])

calm : (b : Bool) (c : ChipState) → CalmChip c → CalmChip (take_bit b c) × (is_busy c ≡ false)
calm b c h = calm_live c.number c.memory b c.live h

pub calm_busy : (l : List ChipState) → CalmAll l → any_busy l ≡ false
calm_busy [] h = refl
calm_busy (c ∷ cs) h = ap₂ (λ a b. a || b) (calm true c h.0).1 (calm_busy cs h.1)

calm_take : (b : Bool) (l : List ChipState) → CalmAll l → CalmAll (map (take_bit b) l)
calm_take b [] h = tt
calm_take b (c ∷ cs) h = ((calm b c h.0).0, calm_take b cs h.1)

-- nor does a reset
pub busy_reset : (l : List ChipState) → any_busy l ≡ false → any_busy (map reset_chip l) ≡ false
busy_reset [] e = refl
busy_reset (c ∷ cs) e = ap₂ (λ a b. a || b) (ap is_busy (reset_free c (or_parts _ _ e).0) ∙ go c.live) (busy_reset cs (or_parts _ _ e).1)
  where
    go : (l : Live) → is_busy (after_reset c.number c.memory l) ≡ false
    go off = refl
    go (under rc p) = refl

-- bits that every chip hears
module _ (D Q : List ChipState → Type 0) where
  pub heard_to : {A : Type 0} (bs : List Bool) (k : Job A) (l : List ChipState) → HearsAll bs l → Meets D Q k (map (takes bs) l) → Meets D Q (send_bits bs k) l
  heard_to [] k l h u = subst (Meets D Q k) (map-none l) u
  heard_to (b ∷ bs) k l h u = (
    hears_busy b bs l h,
    subst (λ y. Meets D Q (send_bits bs k) (map (take_bit y) l)) (sym (ap (λ y. b && y) (hears_pull b bs l h) ∙ and-true b))
        (heard_to bs k (map (take_bit b) l) (hears_on b bs l h) (subst (Meets D Q k) (sym (map-takes b bs l)) u)),
  )

pub heard_send : {A : Type 0} (bs : List Bool) (k : Job A) (l : List ChipState) → HearsAll bs l → Unrefused k (map (takes bs) l) → Unrefused (send_bits bs k) l
heard_send bs k l h u = heard_to Anyhow Anyhow bs k l h u

-- a chip once an exchange has begun: without power, selected or idle
abbrev pub Begun : ChipState → Type 0
Begun d = (c : ChipState) × (t : Bool) × (d ≡ opened_as c.live t c)

abbrev pub BegunAll : List ChipState → Type 0
BegunAll [] = Unit {0}
BegunAll (d ∷ ds) = Begun d × BegunAll ds

all_begun : (x : ℕ) (l : List ChipState) → any_busy l ≡ false → BegunAll (map (takes (bits_of 8 0x55 ++ bits_of 64 x)) (map reset_chip l))
all_begun x [] e = tt
all_begun x (c ∷ cs) e = let s = select_some x c (or_parts _ _ e).0 in ((c, s.0, s.1), all_begun x cs (or_parts _ _ e).1)

module _ (D : List ChipState → Type 0) where
  -- slots on a calm line are never refused and leave it calm
  pub calm_send : {A : Type 0} (bs : List Bool) (k : Job A) (l : List ChipState) → CalmAll l → ((l' : List ChipState) → CalmAll l' → Freed D k l') → Freed D (send_bits bs k) l
  calm_send [] k l h u = u l h
  calm_send (b ∷ bs) k l h u = (calm_busy l h, calm_send bs k (map (take_bit (b && pull l)) l) (calm_take (b && pull l) l h) u)

  calm_read : {A : Type 0} (n : ℕ) (k : List Bool → Job A) (l : List ChipState) → CalmAll l → ((bs : List Bool) (l' : List ChipState) → CalmAll l' → Freed D (k bs) l') → Freed D (read_bits n k) l
  calm_read zero k l h u = u [] l h
  calm_read (suc n) k l h u =
      (calm_busy l h, calm_read n (λ bs. k (pull l ∷ bs)) (map (take_bit (pull l)) l) (calm_take (pull l) l h) (λ bs l' h'. u (pull l ∷ bs) l' h'))

  pub calm_bytes : {A : Type 0} (n : ℕ) (k : List ℕ → Job A) (l : List ChipState) → CalmAll l → ((xs : List ℕ) (l' : List ChipState) → CalmAll l' → Freed D (k xs) l') → Freed D (read_bytes n k) l
  calm_bytes zero k l h u = u [] l h
  calm_bytes (suc n) k l h u =
      calm_read 8 (λ bs. read_bytes n (λ xs. k (value bs ∷ xs))) l h (λ bs l' h'. calm_bytes n (λ xs. k (value bs ∷ xs)) l' h' (λ xs l'' h''. u (value bs ∷ xs) l'' h''))

  -- an exchange opens: no pulse is refused, and then it has begun for each chip
  pub opening_at : {B : Type 0} (x : ℕ) (k nope : Job B) (l : List ChipState) → any_busy l ≡ false
      → ((l' : List ChipState) → any_busy l' ≡ false → Freed D nope l') → (BegunAll (map (takes (bits_of 8 0x55 ++ bits_of 64 x)) (map reset_chip l)) → Freed D k (map (takes (bits_of 8 0x55 ++ bits_of 64 x)) (map reset_chip l))) → Freed D (step reset_pulse (after_opening x k nope)) l
  opening_at x k nope l e un uk = (
    e,
    pick (presence l) (λ j. Freed D j (map reset_chip l))
        (subst (λ j. Freed D j (map reset_chip l)) (sym (after_sent-number x k))
        (heard_to D Free (bits_of 8 0x55 ++ bits_of 64 x) k (map reset_chip l) (opened_hear x l e) (uk (all_begun x l e))))
        (un (map reset_chip l) (busy_reset l e)),
  )

  pub freed_opening : {B : Type 0} (x : ℕ) (k nope : Job B) (l : List ChipState) → any_busy l ≡ false
      → ((l' : List ChipState) → any_busy l' ≡ false → Freed D nope l') → ((l' : List ChipState) → BegunAll l' → Freed D k l') → Freed D (step reset_pulse (after_opening x k nope)) l
  freed_opening x k nope l e un uk = opening_at x k nope l e un (uk (map (takes (bits_of 8 0x55 ++ bits_of 64 x)) (map reset_chip l)))

-- bits that every chip hears once an exchange has begun
module _ (bs : List Bool) (heard : (x : ℕ) (m : Memory) → Hears bs (listening x m)) where
  hears_as : (x : ℕ) (m : Memory) (l : Live) (t : Bool) → Hears bs (opened_as l t (record { number = x; live = l; memory = m }))
  hears_as x m off t = hears_off x m bs
  hears_as x m (under rc p) true = heard x m
  hears_as x m (under rc p) false = hears_idle x m bs false

  pub begun_hear : (l : List ChipState) → BegunAll l → HearsAll bs l
  begun_hear [] h = tt
  begun_hear (d ∷ ds) h = (subst (Hears bs) (sym h.0.2) (hears_as h.0.0.number h.0.0.memory h.0.0.live h.0.1), begun_hear ds h.1)

-- what makes a chip calm that is selected makes every chip calm, once an exchange has begun
module _ (f : ChipState → ChipState) (unpowered : (x : ℕ) (m : Memory) → CalmChip (f (record { number = x; live = off; memory = m })))
    (selects : (x : ℕ) (m : Memory) → CalmChip (f (listening x m))) (rests : (x : ℕ) (m : Memory) → CalmChip (f (record { number = x; live = under false resting; memory = m }))) where
  calm_as : (x : ℕ) (m : Memory) (l : Live) (t : Bool) → CalmChip (f (opened_as l t (record { number = x; live = l; memory = m })))
  calm_as x m off t = unpowered x m
  calm_as x m (under rc p) true = selects x m
  calm_as x m (under rc p) false = rests x m

  pub begun_calm : (l : List ChipState) → BegunAll l → CalmAll (map f l)
  begun_calm [] h = tt
  begun_calm (d ∷ ds) h = (subst (λ c. CalmChip (f c)) (sym h.0.2) (calm_as h.0.0.number h.0.0.memory h.0.0.live h.0.1), begun_calm ds h.1)

module _ (b : ℕ) where
  pub command_hears : (l : List ChipState) → BegunAll l → HearsAll (bits_of 8 b) l
  command_hears = begun_hear (bits_of 8 b) (λ x m. command_heard b m)

  pub command_calm : Harmless b → (l : List ChipState) → BegunAll l → CalmAll (map (takes (bits_of 8 b)) l)
  command_calm h =
      begun_calm (takes (bits_of 8 b)) (λ x m. subst CalmChip (sym (takes-off x m (bits_of 8 b))) tt) (λ x m. h m) (λ x m. subst CalmChip (sym (takes-idle x m (bits_of 8 b) false)) tt)

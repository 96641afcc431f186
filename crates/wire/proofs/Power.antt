-- What a cut does to a job, whichever step it comes at.
use Rattle.std.proofs.Common.{◌≡◌, ℕ, zero, suc, Bool, true, false, ◌&&◌, ◌||◌, eqb, List, [], ◌∷◌, ◌++◌, map, sym, refl, ap, ◌∙◌, subst, ap₂}
use mathlib.Core.Bool.{and-false}
use Rattle.std.proofs.lemmas.Bool.{true≢false}
use Rattle.base.specs.Bits.{bits_all, value}
use Rattle.base.specs.RegistrationNumbers.{word_bytes}
use Rattle.memory.specs.Memories.{protocols}
use Rattle.chip.specs.Chips.{Live, off, on, powered, Phase, idle, command, sending, matching, searching, rom_bit, complement, direction, selected, take_powered, take_live, reset_live, run_command, command_of, Command, read_rom, match_rom, search_rom, skip_rom, resume, unknown}
use Rattle.chip.specs.ChipStates.{ChipState, has_power, is_busy, take_bit, reset_chip, dwell_chip, cut_chip}
use Rattle.base.proofs.Choice.{pick}
use Rattle.chip.proofs.Keeps.{number-taken}
use Rattle.base.specs.Bits.{same, full, front_bit, rest_bits, none_left}
use Rattle.line.specs.Lines.{pull, any_busy}
use Rattle.rig.specs.Rigs.{RigState, FuseState, none, after, Pulse, reset_pulse, slot_pulse, dwell_pulse, line_after, answer, answer_if_cut, pulse, refused, counted}
use Rattle.rig.proofs.Unpowered.{AllOff, off-line_after, off-answer, off-refused, cut_off}
use Rattle.wire.specs.Jobs.{Job, ret, step, Got, done, line_busy, Ran, run, send_bits, read_bits, read_bytes, send_bytes}
use Rattle.wire.specs.Exchanges.{Exchange, answer as answers, refuse, opening, closing, dwelling, send, read, pulses}
use Rattle.wire.specs.declared.exchange_fault.ExchangeError.{ExchangeError}
use Rattle.wire.specs.declared.exchange_fault.ExchangeError.TheVariants.{NoPresence}
use Rattle.wire.specs.Laws.{states, powered_in, KeptPower}
use Rattle.wire.proofs.Leading.{free}

-- what a job answers when nobody is there
unfoldable pub dead_run : {A : Type 0} → Job A → A
dead_run (ret a) = a
dead_run (step p k) = dead_run (k (answer_if_cut p))

pub run_dead : {A : Type 0} (n : ℕ) (p : Job A) (l : List ChipState) → AllOff l → (run n p (free l)).got ≡ done (dead_run p)
unfolding dead_run
run_dead n (ret a) l o = refl
run_dead {A} n (step p k) l o =
    ap (λ t. (elim t as (λ _. Ran A) [ true ↦ record { rig = free l; steps = n; got = line_busy } | false ↦ run (counted n) (k (answer p l)) (free (line_after p l)) ]).got) (off-refused p l o)
    ∙ run_dead (counted n) (k (answer p l)) (line_after p l) (subst AllOff (sym (off-line_after p l o)) o)
    ∙ ap (λ b. done (dead_run (k b))) (off-answer p l o)

-- a run with a fuse, and the run without one
pub record AsFree {A : Type 0} (a b : Ran A) : Type 0 where
  pub got : a.got ≡ b.got
  pub line : a.rig.line ≡ b.rig.line

abbrev pub on_step : {A : Type 0} (n : ℕ) (p : Pulse) (k : Bool → Job A) (r : RigState) → Bool → Ran A
on_step n p k r t = elim t [ true ↦ record { rig = r; steps = n; got = line_busy } | false ↦ run (counted n) (k (pulse p r).1) (pulse p r).0 ]

-- a job that begins with a reset
abbrev pub Resetting : {A : Type 0} → Job A → Type 0
Resetting (ret a) = ⊥
Resetting (step reset_pulse k) = Unit {0}
Resetting (step (slot_pulse b) k) = ⊥
Resetting (step dwell_pulse k) = ⊥

-- it ends at once on a busy line, with all unchanged
pub first_refused : {A : Type 0} (n : ℕ) (j : Job A) (r : RigState) → Resetting j → any_busy r.line ≡ true → run n j r ≡ record { rig = r; steps = n; got = line_busy }
first_refused n (ret a) r h q = absurd h
first_refused n (step reset_pulse k) r h q = ap (on_step n reset_pulse k r) q
first_refused n (step (slot_pulse b) k) r h q = absurd h
first_refused n (step dwell_pulse k) r h q = absurd h

abbrev state_step : {A : Type 0} (p : Pulse) (k : Bool → Job A) (r : RigState) → Bool → List RigState
state_step p k r t = elim t [ true ↦ [] | false ↦ (pulse p r).0 ∷ states (k (pulse p r).1) (pulse p r).0 ]

off-powered : (x : ℕ) (l : List ChipState) → AllOff l → powered_in x l ≡ false
off-powered x [] o = refl
off-powered x (c ∷ cs) o = ap₂ (λ a b. eqb c.number x && a || b) (ap powered o.0) (off-powered x cs o.1) ∙ ap (λ b. b || false) (and-false (eqb c.number x))

-- a job whose tag kept power met no cut
pub kept_free : {A : Type 0} (x n : ℕ) (p : Job A) (l : List ChipState) (f : FuseState) → KeptPower x (states p (record { line = l; fuse = f })) → AsFree (run n p (record { line = l; fuse = f })) (run n p (free l))
kept_free x n (ret a) l f h = record { got = refl; line = refl }
kept_free {A} x n (step p k) l f h = go f (refused p l) h (λ b l' f' h'. kept_free x (counted n) (k b) l' f' h')
  where
    go : (g : FuseState) (t : Bool) → KeptPower x (state_step p k (record { line = l; fuse = g }) t)
        → ((b : Bool) (l' : List ChipState) (f' : FuseState) → KeptPower x (states (k b) (record { line = l'; fuse = f' })) → AsFree (run (counted n) (k b) (record { line = l'; fuse = f' })) (run (counted n) (k b) (free l')))
        → AsFree (on_step n p k (record { line = l; fuse = g }) t) (on_step n p k (free l) t)
    go g true h' ih = record { got = refl; line = refl }
    go none false h' ih = record { got = refl; line = refl }
    go (after zero m) false h' ih = absurd (true≢false (sym h'.0 ∙ off-powered x (map (cut_chip m) l) (cut_off m l)))
    go (after (suc j) m) false h' ih = ih (answer p l) (line_after p l) (after j m) h'.1

-- no step but a cut takes power
reset-powered : (c : ChipState) → has_power (reset_chip c) ≡ has_power c
reset-powered c = pick (is_busy c) (λ l. powered l ≡ has_power c) refl (go c.live)
  where
    go : (l : Live) → powered (reset_live protocols l) ≡ powered l
    go off = refl
    go (on rc p) = refl

abbrev Up : ChipState → Type 0
Up d = has_power d ≡ true

run_command-powered : (o : Command) (rc : Bool) (c : ChipState) → Up (run_command protocols o rc c)
run_command-powered read_rom rc c = refl
run_command-powered match_rom rc c = refl
run_command-powered search_rom rc c = refl
run_command-powered skip_rom rc c = refl
run_command-powered resume rc c = pick rc Up refl refl
run_command-powered unknown rc c = refl

in_powered : (p : Phase) (rc b : Bool) (c : ChipState) → Up (take_powered protocols p rc b c)
in_powered idle rc b c = refl
in_powered (command bs) rc b c = pick (full (bs ++ (b ∷ []))) Up (run_command-powered (command_of (value (bs ++ (b ∷ [])))) rc c) refl
in_powered (sending bs) rc b c = pick (none_left (rest_bits bs)) Up refl refl
in_powered (matching bs) rc b c = pick (same (front_bit bs) b) Up (pick (none_left (rest_bits bs)) Up refl refl) refl
in_powered (searching rom_bit bs) rc b c = refl
in_powered (searching complement bs) rc b c = refl
in_powered (searching direction bs) rc b c = pick (same (front_bit bs) b) Up (pick (none_left (rest_bits bs)) Up refl refl) refl
in_powered selected rc b c = refl

taken-powered : (b : Bool) (c : ChipState) → has_power (take_bit b c) ≡ has_power c
taken-powered b c = go c.live
  where
    go : (l : Live) → has_power (take_live protocols l b c) ≡ powered l
    go off = refl
    go (on rc p) = in_powered p rc b c

pub power_map : (x : ℕ) (f : ChipState → ChipState) → ((c : ChipState) → (f c).number ≡ c.number) → ((c : ChipState) → has_power (f c) ≡ has_power c) → (l : List ChipState) → powered_in x (map f l) ≡ powered_in x l
power_map x f n h [] = refl
power_map x f n h (c ∷ cs) =
    ap₂ (λ a b. eqb a x && b || powered_in x (map f cs)) (n c) (h c) ∙ ap (λ t. eqb c.number x && has_power c || t) (power_map x f n h cs)

pub line_after-powered : (x : ℕ) (p : Pulse) (l : List ChipState) → powered_in x (line_after p l) ≡ powered_in x l
line_after-powered x reset_pulse l = power_map x reset_chip (λ c. refl) reset-powered l
line_after-powered x (slot_pulse b) l = power_map x (take_bit (b && pull l)) (number-taken (b && pull l)) (taken-powered (b && pull l)) l
line_after-powered x dwell_pulse l = power_map x dwell_chip (λ c. refl) (λ c. refl) l

module _ {A : Type 0} (Good : A → Type 0) where
  abbrev pub GotGood : Got A → Type 0
  GotGood (done a) = Good a
  GotGood line_busy = ⊥

  -- nobody there, no good answer
  abbrev pub Lost : Job A → Type 0
  Lost p = Good (dead_run p) → ⊥

  -- none after a cut at any step
  abbrev pub Wary : Job A → Type 0
  Wary (ret a) = Unit {0}
  Wary (step p k) = Lost (k (answer_if_cut p)) × ((b : Bool) → Wary (k b))

  pub lost_ret : (a : A) → (Good a → ⊥) → Lost (ret a)
  unfolding dead_run
  lost_ret a h = h

  pub lost_step : (p : Pulse) (k : Bool → Job A) → Lost (k (answer_if_cut p)) → Lost (step p k)
  unfolding dead_run
  lost_step p k h = h

  lost_send : (bs : List Bool) (k : Job A) → Lost k → Lost (send_bits bs k)
  lost_send [] k h = h
  lost_send (b ∷ bs) k h = lost_step (slot_pulse b) (λ _. send_bits bs k) (lost_send bs k h)

  wary_send : (bs : List Bool) (k : Job A) → Lost k → Wary k → Wary (send_bits bs k)
  wary_send [] k h w = w
  wary_send (b ∷ bs) k h w = (lost_send bs k h, λ _. wary_send bs k h w)

  lost_read : (n : ℕ) (k : List Bool → Job A) → ((bs : List Bool) → Lost (k bs)) → Lost (read_bits n k)
  lost_read zero k h = h []
  lost_read (suc n) k h = lost_step (slot_pulse true) (λ b. read_bits n (λ bs. k (b ∷ bs))) (lost_read n (λ bs. k (true ∷ bs)) (λ bs. h (true ∷ bs)))

  wary_read : (n : ℕ) (k : List Bool → Job A) → ((bs : List Bool) → Lost (k bs)) → ((bs : List Bool) → Wary (k bs)) → Wary (read_bits n k)
  wary_read zero k h w = w []
  wary_read (suc n) k h w = (lost_read n (λ bs. k (true ∷ bs)) (λ bs. h (true ∷ bs)), λ b. wary_read n (λ bs. k (b ∷ bs)) (λ bs. h (b ∷ bs)) (λ bs. w (b ∷ bs)))

  lost_bytes : (n : ℕ) (k : List ℕ → Job A) → ((xs : List ℕ) → Lost (k xs)) → Lost (read_bytes n k)
  lost_bytes zero k h = h []
  lost_bytes (suc n) k h = lost_read 8 _ (λ bs. lost_bytes n (λ xs. k (value bs ∷ xs)) (λ xs. h (value bs ∷ xs)))

  wary_bytes : (n : ℕ) (k : List ℕ → Job A) → ((xs : List ℕ) → Lost (k xs)) → ((xs : List ℕ) → Wary (k xs)) → Wary (read_bytes n k)
  wary_bytes zero k h w = w []
  wary_bytes (suc n) k h w = wary_read 8 _ (λ bs. lost_bytes n (λ xs. k (value bs ∷ xs)) (λ xs. h (value bs ∷ xs))) (λ bs. wary_bytes n (λ xs. k (value bs ∷ xs)) (λ xs. h (value bs ∷ xs)) (λ xs. w (value bs ∷ xs)))

  -- an exchange whose continuations are so
  module _ {C : Type 0} (good : C → Job A) (bad : ExchangeError → ℕ → Job A) (lg : (c : C) → Lost (good c)) (lb : (w : ExchangeError) (e : ℕ) → Lost (bad w e)) where
    pub lost_exchange : (j : Exchange C) → Lost (pulses j good bad)
    lost_exchange (answers c) = lg c
    lost_exchange (refuse w e) = lb w e
    lost_exchange (opening x e k) = lost_step reset_pulse (λ present. elim present [ true ↦ send_bytes (0x55 ∷ []) (send_bytes (word_bytes x) (pulses k good bad)) | false ↦ bad NoPresence e ]) (lb NoPresence e)
    lost_exchange (closing k) = lost_step reset_pulse (λ b. pulses (k b) good bad) (lost_exchange (k false))
    lost_exchange (dwelling k) = lost_step dwell_pulse (λ _. pulses k good bad) (lost_exchange k)
    lost_exchange (send xs k) = lost_send (bits_all xs) (pulses k good bad) (lost_exchange k)
    lost_exchange (read n k) = lost_bytes n (λ xs. pulses (k xs) good bad) (λ xs. lost_exchange (k xs))

    module _ (wg : (c : C) → Wary (good c)) (wb : (w : ExchangeError) (e : ℕ) → Wary (bad w e)) where
      pub wary_exchange : (j : Exchange C) → Wary (pulses j good bad)
      wary_exchange (answers c) = wg c
      wary_exchange (refuse w e) = wb w e
      wary_exchange (opening x e k) = (
        lb NoPresence e,
        λ b. pick b Wary
            (wary_send (bits_all (0x55 ∷ [])) (send_bytes (word_bytes x) (pulses k good bad)) (lost_send (bits_all (word_bytes x)) (pulses k good bad) (lost_exchange k))
            (wary_send (bits_all (word_bytes x)) (pulses k good bad) (lost_exchange k) (wary_exchange k)))
            (wb NoPresence e),
      )
      wary_exchange (closing k) = (lost_exchange (k false), λ b. wary_exchange (k b))
      wary_exchange (dwelling k) = (lost_exchange k, λ _. wary_exchange k)
      wary_exchange (send xs k) = wary_send (bits_all xs) (pulses k good bad) (lost_exchange k) (wary_exchange k)
      wary_exchange (read n k) = wary_bytes n (λ xs. pulses (k xs) good bad) (λ xs. lost_exchange (k xs)) (λ xs. wary_exchange (k xs))

  -- a job with a good answer met no cut
  pub good_free : (n : ℕ) (p : Job A) (l : List ChipState) (f : FuseState) → Wary p → GotGood (run n p (record { line = l; fuse = f })).got → AsFree (run n p (record { line = l; fuse = f })) (run n p (free l))
  good_free n (ret a) l f w h = record { got = refl; line = refl }
  good_free n (step p k) l f w h = go f (refused p l) h (λ b l' f' h'. good_free (counted n) (k b) l' f' (w.1 b) h')
    where
      go : (g : FuseState) (t : Bool) → GotGood (on_step n p k (record { line = l; fuse = g }) t).got
          → ((b : Bool) (l' : List ChipState) (f' : FuseState) → GotGood (run (counted n) (k b) (record { line = l'; fuse = f' })).got → AsFree (run (counted n) (k b) (record { line = l'; fuse = f' })) (run (counted n) (k b) (free l')))
          → AsFree (on_step n p k (record { line = l; fuse = g }) t) (on_step n p k (free l) t)
      go g true h' ih = absurd h'
      go none false h' ih = record { got = refl; line = refl }
      go (after zero m) false h' ih = absurd (w.0 (subst GotGood (run_dead (counted n) (k (answer_if_cut p)) (map (cut_chip m) l) (cut_off m l)) h'))
      go (after (suc j) m) false h' ih = ih (answer p l) (line_after p l) (after j m) h'

  -- and its tag kept power, if it had power at first
  pub good_kept : (x n : ℕ) (p : Job A) (l : List ChipState) (f : FuseState) → Wary p → powered_in x l ≡ true → GotGood (run n p (record { line = l; fuse = f })).got → KeptPower x (states p (record { line = l; fuse = f }))
  good_kept x n (ret a) l f w u h = tt
  good_kept x n (step p k) l f w u h = go f (refused p l) h (λ b l' f' u' h'. good_kept x (counted n) (k b) l' f' (w.1 b) u' h')
    where
      go : (g : FuseState) (t : Bool) → GotGood (on_step n p k (record { line = l; fuse = g }) t).got
          → ((b : Bool) (l' : List ChipState) (f' : FuseState) → powered_in x l' ≡ true → GotGood (run (counted n) (k b) (record { line = l'; fuse = f' })).got → KeptPower x (states (k b) (record { line = l'; fuse = f' })))
          → KeptPower x (state_step p k (record { line = l; fuse = g }) t)
      go g true h' ih = absurd h'
      go none false h' ih = (line_after-powered x p l ∙ u, ih (answer p l) (line_after p l) none (line_after-powered x p l ∙ u) h')
      go (after zero m) false h' ih = absurd (w.0 (subst GotGood (run_dead (counted n) (k (answer_if_cut p)) (map (cut_chip m) l) (cut_off m l)) h'))
      go (after (suc j) m) false h' ih = (line_after-powered x p l ∙ u, ih (answer p l) (line_after p l) (after j m) (line_after-powered x p l ∙ u) h')

-- The one chip that has a number: how an exchange reaches it, and what is read from it.
use Rattle.std.proofs.Common.{◌≡◌, ℕ, zero, suc, ◌^◌, ◌<◌, Bool, true, false, ◌&&◌, ◌||◌, eqb, List, [], ◌∷◌, ◌++◌, map, drop, sym, refl, ap, ◌∙◌, subst, ap₂, eq-eqb, ne_eqb}
use mathlib.Core.Bool.{or-true}
use Rattle.std.proofs.lemmas.Bool.{true≢false, or_parts}
use Rattle.base.specs.Bits.{bits_of, bits_all, value}
use Rattle.base.specs.Widths.{value_bits}
use Rattle.kinds.specs.Kinds.{Rules, Bytes}
use Rattle.memory.specs.Scratchpads.{Regs, on, sending, await, command, Padded}
use Rattle.memory.specs.Memories.{Memory, padded}
use Rattle.chip.specs.Chips.{Live, off, Phase, selected, powered}
use Rattle.chip.specs.Chips.{on as under, idle as resting}
use Rattle.chip.specs.ChipStates.{ChipState, has_power, opened_as, opened_by}
use Rattle.line.specs.Lines.{presence, any_busy}
use Rattle.rig.specs.Rigs.{reset_pulse}
use Rattle.wire.specs.Jobs.{Job, step, read_bytes}
use Rattle.wire.specs.Laws.{NoneHas, powered_in, first_bytes}
use Rattle.wire.proofs.Leading.{Leads, leads_then, leads_none, WideAll, after_opening, opened}
use Rattle.wire.proofs.Power.{power_map}
use Rattle.wire.proofs.Alone.{QuietLive, QuietAll, put, talking, bits_read, read_past}

pub opened_number : (x : ℕ) (c : ChipState) → (opened_by x c).number ≡ c.number
opened_number x c = go c.live (eqb c.number x)
  where
    go : (l : Live) (t : Bool) → (opened_as l t c).number ≡ c.number
    go off t = refl
    go (under rc p) true = refl
    go (under rc p) false = refl

-- an opening takes power from no chip
opened_power : (x : ℕ) (c : ChipState) → has_power (opened_by x c) ≡ has_power c
opened_power x c = go c.live (eqb c.number x)
  where
    go : (l : Live) (t : Bool) → has_power (opened_as l t (record { number = c.number; live = l; memory = c.memory })) ≡ powered l
    go off t = refl
    go (under rc p) true = refl
    go (under rc p) false = refl

pub opened_powered : (x : ℕ) (l : List ChipState) → powered_in x (map (opened_by x) l) ≡ powered_in x l
opened_powered x l = power_map x (opened_by x) (opened_number x) (opened_power x) l

pub opened_none : (x : ℕ) (l : List ChipState) → NoneHas x l → NoneHas x (map (opened_by x) l)
opened_none x [] n = tt
opened_none x (c ∷ cs) n = ((λ e. n.0 (sym (opened_number x c) ∙ e)), opened_none x cs n.1)

pub opened_wide : (x : ℕ) (l : List ChipState) → WideAll l → WideAll (map (opened_by x) l)
opened_wide x [] w = tt
opened_wide x (c ∷ cs) w = (subst (λ n. n < 2 ^ 64) (sym (opened_number x c)) w.0, opened_wide x cs w.1)

-- a second opening finds the chips with other numbers as the first left them
again_other : (x : ℕ) (n : ℕ) (m : Memory) (l : Live) → eqb n x ≡ false → opened_by x (opened_by x (record { number = n; live = l; memory = m })) ≡ opened_by x (record { number = n; live = l; memory = m })
again_other x n m off e = refl
again_other x n m (under rc p) e = subst (λ t. opened_by x (opened_as (under rc p) t c) ≡ opened_as (under rc p) t c) (sym e) (ap (λ t. opened_as (under false resting) t d) e)
  where
    c : ChipState
    c = record { number = n; live = under rc p; memory = m }

    d : ChipState
    d = record { number = n; live = under false resting; memory = m }

pub opened_again : (x : ℕ) (l : List ChipState) → NoneHas x l → map (opened_by x) (map (opened_by x) l) ≡ map (opened_by x) l
opened_again x [] n = refl
opened_again x (c ∷ cs) n = ap₂ (λ d ds. d ∷ ds) (again_other x c.number c.memory c.live (ne_eqb c.number x n.0)) (opened_again x cs n.1)

-- chips with other numbers are quiet
other_quiet : (x : ℕ) (c : ChipState) → eqb c.number x ≡ false → QuietLive (opened_by x c).live
other_quiet x c e = subst (λ t. QuietLive (opened_as c.live t c).live) (sym e) (go c.number c.memory c.live)
  where
    go : (n : ℕ) (m : Memory) (l : Live) → QuietLive (opened_as l false (record { number = n; live = l; memory = m })).live
    go n m off = tt
    go n m (under rc p) = tt

pub others_quiet : (x : ℕ) (l : List ChipState) → NoneHas x l → QuietAll (map (opened_by x) l)
others_quiet x [] n = tt
others_quiet x (c ∷ cs) n = (other_quiet x c (ne_eqb c.number x n.0), others_quiet x cs n.1)

-- and where no powered chip has the number, all are
pub absent_quiet : (x : ℕ) (l : List ChipState) → powered_in x l ≡ false → QuietAll (map (opened_by x) l)
absent_quiet x [] e = tt
absent_quiet x (c ∷ cs) e = (go c.live (eqb c.number x) (or_parts _ _ e).0, absent_quiet x cs (or_parts _ _ e).1)
  where
    go : (l : Live) (t : Bool) → (t && powered l) ≡ false → QuietLive (opened_as l t (record { number = c.number; live = l; memory = c.memory })).live
    go off t h = tt
    go (under rc p) true h = absurd (true≢false h)
    go (under rc p) false h = tt

pub map_mid : (f : ChipState → ChipState) (us vs : List ChipState) (c : ChipState) → map f (us ++ (c ∷ vs)) ≡ map f us ++ (f c ∷ map f vs)
map_mid f [] vs c = refl
map_mid f (u ∷ us) vs c = ap (λ l. f u ∷ l) (map_mid f us vs c)

pub presence_mid : (us vs : List ChipState) (c : ChipState) → has_power c ≡ true → presence (us ++ (c ∷ vs)) ≡ true
presence_mid [] vs c e = ap (λ b. b || presence vs) e
presence_mid (u ∷ us) vs c e = ap (λ b. has_power u || b) (presence_mid us vs c e) ∙ or-true (has_power u)

pub wide_mid : (us vs : List ChipState) (c : ChipState) → WideAll us → c.number < 2 ^ 64 → WideAll vs → WideAll (us ++ (c ∷ vs))
wide_mid [] vs c a h b = (h, b)
wide_mid (u ∷ us) vs c a h b = (a.0, wide_mid us vs c a.1 h b)

module _ (x : ℕ) (hx : x < 2 ^ 64) (us vs : List ChipState) (wu : WideAll us) (wv : WideAll vs) where
  -- the opening of an exchange reaches the powered chip with the number
  pub open_one : {B : Type 0} (k nope : Job B) (rc : Bool) (p : Phase) (q : Padded) → any_busy (us ++ (record { number = x; live = under rc p; memory = padded q } ∷ vs)) ≡ false
      → Leads (step reset_pulse (after_opening x k nope)) (us ++ (record { number = x; live = under rc p; memory = padded q } ∷ vs))
      k (map (opened_by x) us ++ (record { number = x; live = under true selected; memory = padded (record { rules = q.rules; bytes = q.bytes; work = on q.work.regs (await command) }) } ∷ map (opened_by x) vs))
  open_one {B} k nope rc p q e =
      subst (λ l. Leads (step reset_pulse (after_opening x k nope)) (us ++ (c ∷ vs)) k l)
      (map_mid (opened_by x) us vs c ∙ ap (λ t. map (opened_by x) us ++ (opened_as (under rc p) t c ∷ map (opened_by x) vs)) (eq-eqb x x refl))
      (opened x k nope (us ++ (c ∷ vs)) hx (wide_mid us vs c wu hx wv) e (presence_mid us vs c refl))
    where
      c : ChipState
      c = record { number = x; live = under rc p; memory = padded q }

module _ (us vs : List ChipState) (qa : QuietAll us) (qb : QuietAll vs) (K : Rules) (x : ℕ) (m : List ℕ) (rc : Bool) where
  -- n bytes of a memory, FFh past its end
  pub hear_memory : {A : Type 0} (n : ℕ) (bytes : List ℕ) (k : List ℕ → Job A) (r : Regs) → Bytes bytes
      → Leads (read_bytes n k) (put us vs qa qb (talking us vs qa qb K x m rc (on r (sending (bits_all bytes))))) (k (first_bytes n bytes)) (put us vs qa qb (talking us vs qa qb K x m rc (on r (sending (bits_all (drop n bytes))))))
  hear_memory zero bytes k r h = leads_none
  hear_memory (suc n) [] k r h =
      leads_then (read_past us vs qa qb K x m rc 8 (λ bs. read_bytes n (λ zs. k (value bs ∷ zs))) r)
      (subst (λ l. Leads (read_bytes n (λ zs. k (255 ∷ zs))) (put us vs qa qb (talking us vs qa qb K x m rc (on r (sending [])))) (k (255 ∷ first_bytes n [])) (put us vs qa qb (talking us vs qa qb K x m rc (on r (sending (bits_all l))))))
      (drop-none n) (hear_memory n [] (λ zs. k (255 ∷ zs)) r h))
    where
      drop-none : (n : ℕ) → drop {A = ℕ} n [] ≡ []
      drop-none zero = refl
      drop-none (suc n) = refl
  hear_memory (suc n) (y ∷ ys) k r h =
      leads_then (bits_read us vs qa qb K x m rc (bits_of 8 y) (bits_all ys) (λ bs. read_bytes n (λ zs. k (value bs ∷ zs))) r)
      (subst (λ v. Leads (read_bytes n (λ zs. k (value (bits_of 8 y) ∷ zs))) (put us vs qa qb (talking us vs qa qb K x m rc (on r (sending (bits_all ys))))) (k (v ∷ first_bytes n ys)) (put us vs qa qb (talking us vs qa qb K x m rc (on r (sending (bits_all (drop n ys)))))))
      (value_bits 8 y (h 0)) (hear_memory n ys (λ zs. k (value (bits_of 8 y) ∷ zs)) r (λ a. h (suc a))))

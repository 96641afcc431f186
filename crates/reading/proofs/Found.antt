-- The exchanges that a reading shares with an order: the row that F0h gives, and the closing reset.
use Rattle.std.proofs.Common.{◌≡◌, ℕ, zero, suc, ◌+◌, ◌*◌, ◌/◌, ◌%◌, ◌^◌, ◌<◌, Bool, true, false, cond, ◌||◌, List, [], ◌∷◌, ◌++◌, map, drop, sym, refl, ap, ◌∙◌, subst, ap₂, arith}
use Rattle.base.specs.Bits.{bits_all}
use Rattle.kinds.specs.Kinds.{Bytes}
use Rattle.memory.specs.Scratchpads.{on, sending, command, read_low, read_high, Padded}
use Rattle.memory.specs.Memories.{padded}
use Rattle.memory.proofs.Sound.{SoundMemory}
use Rattle.chip.specs.Chips.{Live, off, Phase, selected}
use Rattle.chip.specs.Chips.{on as under}
use Rattle.chip.specs.ChipStates.{ChipState, bytes_of, has_power, is_busy, reset_chip, power_chip, opened_by}
use Rattle.chip.proofs.Keeps.{bytes_power}
use Rattle.chip.proofs.SameKind.{pads_power}
use Rattle.chip.proofs.Sound.{SoundAll, sound_power, met_sounds}
use Rattle.line.specs.Lines.{presence, any_busy}
use Rattle.rig.specs.Rigs.{reset_pulse}
use Rattle.wire.specs.Jobs.{Job, ret, done, run, Said, good, send_bytes, read_bytes}
use Rattle.wire.specs.Exchanges.{answer, refuse, pulses}
use Rattle.wire.specs.declared.exchange_fault.ExchangeError.{ExchangeError}
use Rattle.wire.specs.declared.exchange_fault.ExchangeError.TheVariants.{NoPresence}
use Rattle.wire.specs.Laws.{NoneHas, Single, row_in}
use Rattle.wire.proofs.Leading.{free, Leads, leads_then, leads_step, WideAll}
use Rattle.wire.proofs.Alone.{QuietAll, put, talking, one_byte}
use Rattle.wire.proofs.After.{single_map, sound_map}
use Rattle.wire.proofs.One.{others_quiet, open_one, hear_memory}
use Rattle.wire.proofs.Selected.{sound_wide, sound_mid, padding}
use Rattle.reading.specs.Readings.{reads_memory, closes_by_reset, failed}
use Rattle.reading.specs.Laws.{finding, RowIsRead}

drop_bytes : (k : ℕ) (m : List ℕ) → Bytes m → Bytes (drop k m)
drop_bytes zero m f a = f a
drop_bytes (suc k) [] f a = f a
drop_bytes (suc k) (y ∷ ys) f a = drop_bytes k ys (λ b. f (suc b)) a

-- a closing reset that finds a chip
pub closed_by : {B : Type 0} (e : ℕ) (k : Unit {0} → Job B) (bad : ExchangeError → ℕ → Job B) (l : List ChipState) → any_busy l ≡ false → presence l ≡ true
    → Leads (pulses (closes_by_reset e) k bad) l (k tt) (map reset_chip l)
closed_by e k bad l b p =
    subst (λ t. Leads (pulses (closes_by_reset e) k bad) l (pulses (cond t (answer tt) (refuse NoPresence e)) k bad) (map reset_chip l)) p
    (leads_step reset_pulse (λ t. pulses (cond t (answer tt) (refuse NoPresence e)) k bad) l b)

module _ (x row : ℕ) (hx : x < 2 ^ 64) (hr : row < 65536) (us vs : List ChipState) (nu : NoneHas x us) (nv : NoneHas x vs) (wu : WideAll us) (wv : WideAll vs) where
  address : row % 256 + 256 * (row / 256) ≡ row
  address = omega arith

  -- F0h tells the row of the powered chip with the number
  pub found_row : {B : Type 0} (e : ℕ) (k : List ℕ → Job B) (bad : ExchangeError → ℕ → Job B) (rc : Bool) (p : Phase) (q : Padded) → Bytes q.bytes
      → any_busy (us ++ (record { number = x; live = under rc p; memory = padded q } ∷ vs)) ≡ false
      → Leads (pulses (reads_memory e x row) k bad) (us ++ (record { number = x; live = under rc p; memory = padded q } ∷ vs)) (k (row_in q.bytes row))
      (map (opened_by x) us ++ (record { number = x; live = under true selected; memory = padded (record { rules = q.rules; bytes = q.bytes; work = on q.work.regs (sending (bits_all (drop 8 (drop row q.bytes)))) }) } ∷ map (opened_by x) vs))
  found_row e k bad rc p q small b =
      leads_then (open_one x hx us vs wu wv (send_bytes (0xF0 ∷ row % 256 ∷ row / 256 ∷ []) (read_bytes 8 k)) (bad NoPresence e) rc p q b)
      (leads_then (one_byte us1 vs1 qu qv q.rules x m true 0xF0 (bits_all (row % 256 ∷ row / 256 ∷ [])) (read_bytes 8 k) q.work.regs command (omega arith))
      (leads_then (one_byte us1 vs1 qu qv q.rules x m true (row % 256) (bits_all (row / 256 ∷ [])) (read_bytes 8 k) q.work.regs read_low (omega arith))
      (leads_then (one_byte us1 vs1 qu qv q.rules x m true (row / 256) [] (read_bytes 8 k) q.work.regs (read_high (row % 256)) (omega arith))
      (subst (λ a. Leads (read_bytes 8 k) (put us1 vs1 qu qv (talking us1 vs1 qu qv q.rules x m true (on q.work.regs (sending (bits_all (drop a m)))))) (k (row_in m row)) (put us1 vs1 qu qv (talking us1 vs1 qu qv q.rules x m true (on q.work.regs (sending (bits_all (drop 8 (drop row m))))))))
      (sym address) (hear_memory us1 vs1 qu qv q.rules x m true 8 (drop row m) k q.work.regs (drop_bytes row m small))))))
    where
      m : List ℕ
      m = q.bytes

      us1 : List ChipState
      us1 = map (opened_by x) us

      vs1 : List ChipState
      vs1 = map (opened_by x) vs

      qu : QuietAll (map (opened_by x) us)
      qu = others_quiet x us nu

      qv : QuietAll (map (opened_by x) vs)
      qv = others_quiet x vs nv

-- power-up makes no chip busy
busy_power : (l : List ChipState) → any_busy (map power_chip l) ≡ any_busy l
busy_power [] = refl
busy_power (c ∷ cs) = ap₂ (λ a b. a || b) (go c.live) (busy_power cs)
  where
    go : (l : Live) → is_busy (power_chip (record { number = c.number; live = l; memory = c.memory })) ≡ is_busy (record { number = c.number; live = l; memory = c.memory })
    go off = refl
    go (under rc p) = refl

has_powered : (c : ChipState) → has_power (power_chip c) ≡ true
has_powered c = go c.live
  where
    go : (l : Live) → has_power (power_chip (record { number = c.number; live = l; memory = c.memory })) ≡ true
    go off = refl
    go (under rc p) = refl

module _ (e x row : ℕ) (hx : x < 2 ^ 64) (hr : row < 65536) where
  abbrev asking : Job (Said (List ℕ))
  asking = pulses (reads_memory e x row) (λ found. ret (good found)) failed

  -- a powered tag tells its row
  told_powered : (l : List ChipState) → SoundAll l → any_busy l ≡ false → (o : Single x l) → has_power o.tag ≡ true → (run 0 asking (free l)).got ≡ done (good (row_in (bytes_of o.tag) row))
  told_powered l s b o p =
      let parts = sound_mid o.before o.behind o.tag (subst SoundAll o.so s) in
      let t = padding x o.tag o.is p o.pad in
      ap (λ k. (run 0 asking (free k)).got) o.so
      ∙ subst (λ c. SoundMemory c.memory → any_busy (o.before ++ (c ∷ o.behind)) ≡ false → (run 0 asking (free (o.before ++ (c ∷ o.behind)))).got ≡ done (good (row_in (bytes_of c) row))) (sym t.so)
      (λ m q. ap (λ w. w.got) ((found_row x row hx hr o.before o.behind o.none_before o.none_behind (sound_wide o.before parts.0) (sound_wide o.behind parts.2) e (λ found. ret (good found)) failed t.rc t.phase t.pad m.small q).so 0).1)
      parts.1.memory (ap any_busy (sym o.so) ∙ b)

  -- and so does any, powered up first
  pub told_row : (l : List ChipState) → SoundAll l → any_busy l ≡ false → (o : Single x l) → (finding e x row l).got ≡ done (good (row_in (bytes_of o.tag) row))
  told_row l s b o =
      told_powered (map power_chip l) (sound_map power_chip sound_power l s) (busy_power l ∙ b) (single_map x power_chip (λ c. refl) pads_power l o) (has_powered o.tag)
      ∙ ap (λ m. done (good (row_in m row))) (bytes_power o.tag)

pub row_is_read : RowIsRead
row_is_read l e x row met hx hr b o = told_row e x row hx hr l (met_sounds l met) b o

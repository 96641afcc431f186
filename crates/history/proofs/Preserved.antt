-- Every event of a sealed tag keeps what is protected then.
use Rattle.std.proofs.Common.{◌≡◌, ℕ, Bool, true, false, List, [], ◌∷◌, sym, refl, ap, ◌∙◌, subst, true≢false}
use Rattle.base.proofs.Choice.{pick}
use Rattle.kinds.specs.Kinds.{whole_row}
use Rattle.kinds.specs.SealedTag.{sealed}
use Rattle.kinds.specs.Protection.{Keeps}
use Rattle.kinds.proofs.Protection.{Suits, suits_load, keeps_program, keeps_self, keeps_trans, again}
use Rattle.memory.specs.Memories.{Memory, kind_in, bytes_in, select_memory, take_memory, power_up_memory, cut_memory}
use Rattle.memory.proofs.Sound.{SoundMemory, begun_sound, taken_sound}
use Rattle.memory.proofs.Ready.{ReadyMemory, selected_fits, powered_fits, taken_fits, dwelt_fits, programmed_fits}
use Rattle.chip.specs.ChipStates.{ChipState, bytes_of, has_power, is_busy, take_bit, reset_chip, dwell_chip, cut_chip, power_chip}
use Rattle.chip.specs.Histories.{effects, Met}
use Rattle.chip.specs.Events.{Event, reset_came, bit_came, dwell_came, power_failed, power_came, effect}
use Rattle.chip.proofs.Keeps.{number-taken, bytes_taken, bytes_power, bytes_dwell_idle, bytes_dwell_busy, bytes_cut_idle, bytes_cut_busy, off_powerless, off-busy, off-taken, off-reset}
use Rattle.chip.proofs.SameKind.{kind_taken, kind_dwell, kind_cut, kind_power}
use Rattle.chip.proofs.Sound.{Sound, sound_taken, sound_reset, sound_dwell, sound_cut, sound_power, met_sound, taken_keeps}
use Rattle.chip.specs.Chips.{powered}
use Rattle.history.specs.Promises.{Preserves}

-- a sealed tag's scratchpad holds nothing that its protection forbids, once PF is clear
abbrev SealedReady : Memory → Type 0
SealedReady m = ReadyMemory Suits sealed suits_load m

-- only under power: after a cut the scratchpad need not respect the new protection, and power-up sets PF
pub record Safe (c : ChipState) : Type 0 where
  pub sound : Sound c
  pub ready : has_power c ≡ true → SealedReady c.memory

-- the memory's steps
abbrev Both : Memory → Type 0
Both m = SoundMemory m × SealedReady m

both_begun : (m : Memory) → Both m → Both (select_memory m)
both_begun m h = (begun_sound m h.0, selected_fits Suits sealed suits_load m h.1)

both_taken : (m : Memory) (b : Bool) → Both m → Both (take_memory m b)
both_taken m b h = (taken_sound m b h.0, taken_fits Suits sealed suits_load m b h.0 h.1)

-- each event leaves a chip safe
safe_taken : (b : Bool) (c : ChipState) → Safe c → Safe (take_bit b c)
safe_taken b c s = go (has_power c) refl
  where
    go : (t : Bool) → has_power c ≡ t → Safe (take_bit b c)
    go true e = record {
      sound = sound_taken b c s.sound;
      ready = λ _. (taken_keeps Both both_begun both_taken b c (s.sound.memory, s.ready e)).1;
    }
    go false e = subst Safe (sym (off-taken b c (off_powerless c e))) s

safe_reset : (c : ChipState) → Safe c → Safe (reset_chip c)
safe_reset c s = go (has_power c) refl
  where
    go : (t : Bool) → has_power c ≡ t → Safe (reset_chip c)
    go true e = record { sound = sound_reset c s.sound; ready = λ _. s.ready e }
    go false e = subst Safe (sym (off-reset c (off_powerless c e))) s

safe_dwell : (c : ChipState) → Safe c → Safe (dwell_chip c)
safe_dwell c s = record {
  sound = sound_dwell c s.sound;
  ready = λ e. pick (is_busy c) SealedReady (dwelt_fits Suits sealed suits_load again c.memory s.sound.memory (s.ready e)) (s.ready e);
}

safe_cut : (mask : ℕ) (c : ChipState) → Safe c → Safe (cut_chip mask c)
safe_cut mask c s = record { sound = sound_cut mask c s.sound; ready = λ e. absurd (true≢false (sym e)) }

safe_power : (c : ChipState) → Safe c → Safe (power_chip c)
safe_power c s = record { sound = sound_power c s.sound; ready = λ _. go (has_power c) refl }
  where
    go : (t : Bool) → has_power c ≡ t → SealedReady (elim t as (λ _. Memory) [ true ↦ c.memory | false ↦ power_up_memory c.memory ])
    go true e = s.ready e
    go false e = powered_fits Suits sealed suits_load c.memory

-- what each event keeps
keeps_same : (c d : ChipState) → bytes_of d ≡ bytes_of c → Keeps (bytes_of c) (bytes_of d)
keeps_same c d e = subst (Keeps (bytes_of c)) (sym e) (keeps_self (bytes_of c))

-- a chip that programs has power
any_busy-powered : (c : ChipState) → is_busy c ≡ true → has_power c ≡ true
any_busy-powered c h = go (has_power c) refl
  where
    go : (t : Bool) → has_power c ≡ t → has_power c ≡ true
    go true e = e
    go false e = absurd (true≢false (sym h ∙ off-busy c (off_powerless c e)))

keeps_programmed : (mask : ℕ) (c : ChipState) → Safe c → is_busy c ≡ true → kind_in c.memory ≡ sealed → Keeps (bytes_of c) (bytes_in (cut_memory c.memory mask))
keeps_programmed mask c s h e = programmed_fits Suits sealed suits_load Keeps keeps_self keeps_program c.memory mask s.sound.memory (s.ready (any_busy-powered c h)) e

keeps_dwell : (c : ChipState) → Safe c → kind_in c.memory ≡ sealed → Keeps (bytes_of c) (bytes_of (dwell_chip c))
keeps_dwell c s e = go (is_busy c) refl
  where
    go : (t : Bool) → is_busy c ≡ t → Keeps (bytes_of c) (bytes_of (dwell_chip c))
    go true h = subst (Keeps (bytes_of c)) (sym (bytes_dwell_busy c h)) (keeps_programmed whole_row c s h e)
    go false h = keeps_same c (dwell_chip c) (bytes_dwell_idle c h)

keeps_cut : (mask : ℕ) (c : ChipState) → Safe c → kind_in c.memory ≡ sealed → Keeps (bytes_of c) (bytes_of (cut_chip mask c))
keeps_cut mask c s e = go (is_busy c) refl
  where
    go : (t : Bool) → is_busy c ≡ t → Keeps (bytes_of c) (bytes_of (cut_chip mask c))
    go true h = subst (Keeps (bytes_of c)) (sym (bytes_cut_busy mask c h)) (keeps_programmed mask c s h e)
    go false h = keeps_same c (cut_chip mask c) (bytes_cut_idle mask c h)

pub effect_preserves : (e : Event) (c : ChipState) → Safe c → Safe (effect e c) × Preserves c (effect e c)
effect_preserves reset_came c s =
    (safe_reset c s, record { number = refl; kind = refl; bytes = λ _. keeps_self (bytes_of c) })
effect_preserves (bit_came b) c s =
    (safe_taken b c s, record { number = number-taken b c; kind = kind_taken c b; bytes = λ _. keeps_same c (take_bit b c) (bytes_taken b c) })
effect_preserves dwell_came c s =
    (safe_dwell c s, record { number = refl; kind = kind_dwell c; bytes = keeps_dwell c s })
effect_preserves (power_failed mask) c s =
    (safe_cut mask c s, record { number = refl; kind = kind_cut c mask; bytes = keeps_cut mask c s })
effect_preserves power_came c s =
    (safe_power c s, record { number = refl; kind = kind_power c; bytes = λ _. keeps_same c (power_chip c) (bytes_power c) })

pub preserves_self : (c : ChipState) → Preserves c c
preserves_self c = record { number = refl; kind = refl; bytes = λ _. keeps_self (bytes_of c) }

pub preserves_trans : (c d e : ChipState) → Preserves c d → Preserves d e → Preserves c e
preserves_trans c d e g h = record {
  number = h.number ∙ g.number;
  kind = h.kind ∙ g.kind;
  bytes = λ q. keeps_trans (bytes_of c) (bytes_of d) (bytes_of e) (g.bytes q) (h.bytes (g.kind ∙ q));
}

-- from the making on
effects_safe : (es : List Event) (c : ChipState) → Safe c → Safe (effects es c)
effects_safe [] c s = s
effects_safe (e ∷ es) c s = effects_safe es (effect e c) (effect_preserves e c s).0

pub met_safe : (c : ChipState) → Met c → Safe c
met_safe c m =
    subst Safe (sym m.so) (effects_safe m.history m.made (record {
      sound = met_sound m.made (record { made = m.made; fresh = m.fresh; history = []; so = refl });
      ready = λ e. absurd (true≢false (sym e ∙ ap (λ l. powered l) m.fresh.unpowered));
    }))

-- A chip that has met nothing but a line's calls since its making lies within its bounds.
use Rattle.std.proofs.Common.{ℕ, ◌^◌, ◌<◌, Bool, List, [], ◌∷◌, ◌++◌, sym, subst}
use Rattle.base.specs.Bits.{value, same, full, front_bit, rest_bits, none_left}
use Rattle.base.specs.RegistrationNumbers.{IsChecked}
use Rattle.memory.specs.Memories.{Memory, protocols, select_memory, take_memory}
use Rattle.memory.proofs.Sound.{SoundMemory, taken_sound, begun_sound, woken_sound, dwelt_sound, burnt_sound, made_sound}
use Rattle.chip.specs.Chips.{Live, off, on, Phase, idle, command, sending, matching, searching, rom_bit, complement, direction, selected, Command, read_rom, match_rom, search_rom, skip_rom, resume, unknown, command_of, run_command, take_powered, take_live}
use Rattle.chip.specs.ChipStates.{ChipState, has_power, is_busy, take_bit, reset_chip, dwell_chip, cut_chip, power_chip}
use Rattle.chip.specs.Histories.{effects, Met, MetAll}
use Rattle.chip.specs.Events.{Event, reset_came, bit_came, dwell_came, power_failed, power_came, effect}
use Rattle.base.proofs.Choice.{pick}
use Rattle.chip.proofs.Keeps.{number-taken}

-- what the memory phase's beginning and its bits keep, every taken bit keeps
module _ (Q : Memory → Type 0) (begun : (m : Memory) → Q m → Q (select_memory m)) (took : (m : Memory) (b : Bool) → Q m → Q (take_memory m b)) where
  abbrev Of : ChipState → Type 0
  Of d = Q d.memory

  command_keeps : (o : Command) (rc : Bool) (c : ChipState) → Q c.memory → Q (run_command protocols o rc c).memory
  command_keeps read_rom rc c q = q
  command_keeps match_rom rc c q = q
  command_keeps search_rom rc c q = q
  command_keeps skip_rom rc c q = begun c.memory q
  command_keeps resume rc c q = pick rc Of (begun c.memory q) q
  command_keeps unknown rc c q = q

  in_keeps : (p : Phase) (rc b : Bool) (c : ChipState) → Q c.memory → Q (take_powered protocols p rc b c).memory
  in_keeps idle rc b c q = q
  in_keeps (command bs) rc b c q = pick (full (bs ++ (b ∷ []))) Of (command_keeps (command_of (value (bs ++ (b ∷ [])))) rc c q) q
  in_keeps (sending bs) rc b c q = pick (none_left (rest_bits bs)) Of (begun c.memory q) q
  in_keeps (matching bs) rc b c q = pick (same (front_bit bs) b) Of (pick (none_left (rest_bits bs)) Of (begun c.memory q) q) q
  in_keeps (searching rom_bit bs) rc b c q = q
  in_keeps (searching complement bs) rc b c q = q
  in_keeps (searching direction bs) rc b c q = pick (same (front_bit bs) b) Of (pick (none_left (rest_bits bs)) Of (begun c.memory q) q) q
  in_keeps selected rc b c q = took c.memory b q

  pub taken_keeps : (b : Bool) (c : ChipState) → Q c.memory → Q (take_bit b c).memory
  taken_keeps b c q = go c.live
    where
      go : (l : Live) → Q (take_live protocols l b c).memory
      go off = q
      go (on rc p) = in_keeps p rc b c q

pub record Sound (c : ChipState) : Type 0 where
  pub wide : c.number < 2 ^ 64
  pub checked : IsChecked c.number
  pub memory : SoundMemory c.memory

abbrev pub SoundAll : List ChipState → Type 0
SoundAll [] = Unit {0}
SoundAll (c ∷ cs) = Sound c × SoundAll cs

pub sound_taken : (b : Bool) (c : ChipState) → Sound c → Sound (take_bit b c)
sound_taken b c s = record {
  wide = subst (λ x. x < 2 ^ 64) (sym (number-taken b c)) s.wide;
  checked = subst IsChecked (sym (number-taken b c)) s.checked;
  memory = taken_keeps SoundMemory begun_sound taken_sound b c s.memory;
}

pub sound_reset : (c : ChipState) → Sound c → Sound (reset_chip c)
sound_reset c s = record { wide = s.wide; checked = s.checked; memory = s.memory }

pub sound_dwell : (c : ChipState) → Sound c → Sound (dwell_chip c)
sound_dwell c s = record { wide = s.wide; checked = s.checked; memory = pick (is_busy c) SoundMemory (dwelt_sound c.memory s.memory) s.memory }

pub sound_cut : (mask : ℕ) (c : ChipState) → Sound c → Sound (cut_chip mask c)
sound_cut mask c s = record { wide = s.wide; checked = s.checked; memory = pick (is_busy c) SoundMemory (burnt_sound c.memory mask s.memory) s.memory }

pub sound_power : (c : ChipState) → Sound c → Sound (power_chip c)
sound_power c s = record { wide = s.wide; checked = s.checked; memory = pick (has_power c) SoundMemory s.memory (woken_sound c.memory s.memory) }

sound_effect : (e : Event) (c : ChipState) → Sound c → Sound (effect e c)
sound_effect reset_came c s = sound_reset c s
sound_effect (bit_came b) c s = sound_taken b c s
sound_effect dwell_came c s = sound_dwell c s
sound_effect (power_failed mask) c s = sound_cut mask c s
sound_effect power_came c s = sound_power c s

sound_effects : (es : List Event) (c : ChipState) → Sound c → Sound (effects es c)
sound_effects [] c s = s
sound_effects (e ∷ es) c s = sound_effects es (effect e c) (sound_effect e c s)

pub met_sound : (c : ChipState) → Met c → Sound c
met_sound c m =
    subst Sound (sym m.so) (sound_effects m.history m.made (record { wide = m.fresh.wide; checked = m.fresh.checked; memory = made_sound m.made.memory m.fresh.memory }))

pub met_sounds : (l : List ChipState) → MetAll l → SoundAll l
met_sounds [] m = tt
met_sounds (c ∷ cs) m = (met_sound c m.0, met_sounds cs m.1)

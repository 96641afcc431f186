-- No event changes a chip's kind, or takes its scratchpad.
use Rattle.std.proofs.Common.{◌≡◌, ℕ, Bool, refl, ◌∙◌}
use Rattle.base.proofs.Choice.{pick}
use Rattle.memory.specs.Memories.{Memory, kind_in, HasScratchpad}
use Rattle.memory.proofs.Keeps.{begin_kind, take_kind, wake_kind, dwell_kind, burn_kind, power_up_pads, select_pads, take_pads, dwell_pads, cut_pads}
use Rattle.chip.specs.ChipStates.{ChipState, has_power, is_busy, take_bit, dwell_chip, cut_chip, power_chip}
use Rattle.chip.proofs.Sound.{taken_keeps}

module _ (c : ChipState) where
  abbrev OfKind : Memory → Type 0
  OfKind m = kind_in m ≡ kind_in c.memory

  pub kind_taken : (b : Bool) → kind_in (take_bit b c).memory ≡ kind_in c.memory
  kind_taken b = taken_keeps OfKind (λ m e. begin_kind m ∙ e) (λ m b' e. take_kind m b' ∙ e) b c refl

  pub kind_dwell : kind_in (dwell_chip c).memory ≡ kind_in c.memory
  kind_dwell = pick (is_busy c) OfKind (dwell_kind c.memory) refl

  pub kind_cut : (mask : ℕ) → kind_in (cut_chip mask c).memory ≡ kind_in c.memory
  kind_cut mask = pick (is_busy c) OfKind (burn_kind c.memory mask) refl

  pub kind_power : kind_in (power_chip c).memory ≡ kind_in c.memory
  kind_power = pick (has_power c) OfKind refl (wake_kind c.memory)

  module _ (h : HasScratchpad c.memory) where
    pub pads_taken : (b : Bool) → HasScratchpad (take_bit b c).memory
    pads_taken b = taken_keeps HasScratchpad select_pads take_pads b c h

    pub pads_dwell : HasScratchpad (dwell_chip c).memory
    pads_dwell = pick (is_busy c) HasScratchpad (dwell_pads c.memory h) h

    pub pads_cut : (mask : ℕ) → HasScratchpad (cut_chip mask c).memory
    pads_cut mask = pick (is_busy c) HasScratchpad (cut_pads c.memory mask h) h

    pub pads_power : HasScratchpad (power_chip c).memory
    pads_power = pick (has_power c) HasScratchpad h (power_up_pads c.memory h)

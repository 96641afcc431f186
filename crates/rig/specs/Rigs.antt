-- The rig: a line and a fuse that cuts power at a step.
use Rattle.std.specs.Prelude.{ℕ, zero, suc, ◌+◌, min, Bool, true, false, ◌&&◌, List, map}
use Rattle.chip.specs.ChipStates.{ChipState, take_bit, reset_chip, dwell_chip, cut_chip, power_chip}
use Rattle.line.specs.Lines.{presence, pull, any_busy}

-- none, or the steps still to be made before the one that becomes a cut, with its mask
pub data FuseState : Type 0 where
  none : FuseState
  after : ℕ → ℕ → FuseState

pub record RigState : Type 0 where
  pub line : List ChipState
  pub fuse : FuseState

-- the steps of a master
pub data Pulse : Type 0 where
  reset_pulse : Pulse
  slot_pulse : Bool → Pulse
  dwell_pulse : Pulse

-- what the line becomes by a pulse
abbrev pub line_after : Pulse → List ChipState → List ChipState
line_after reset_pulse l = map reset_chip l
line_after (slot_pulse b) l = map (take_bit (b && pull l)) l
line_after dwell_pulse l = map dwell_chip l

-- the answer: presence, or the master's bit AND the pull
abbrev pub answer : Pulse → List ChipState → Bool
answer reset_pulse l = presence l
answer (slot_pulse b) l = b && pull l
answer dwell_pulse l = true

-- the answer of a pulse that became a cut
abbrev pub answer_if_cut : Pulse → Bool
answer_if_cut reset_pulse = false
answer_if_cut (slot_pulse b) = b
answer_if_cut dwell_pulse = true

-- a reset or a slot is refused while the line is busy
abbrev pub refused : Pulse → List ChipState → Bool
refused reset_pulse l = any_busy l
refused (slot_pulse b) l = any_busy l
refused dwell_pulse l = false

-- a step that is not refused: at fuse 0 it becomes a cut, and any other lowers a set fuse by one
abbrev pub pulse_by : FuseState → Pulse → List ChipState → RigState × Bool
pulse_by none p l = (record { line = line_after p l; fuse = none }, answer p l)
pulse_by (after zero mask) p l = (record { line = map (cut_chip mask) l; fuse = none }, answer_if_cut p)
pulse_by (after (suc n) mask) p l = (record { line = line_after p l; fuse = after n mask }, answer p l)

abbrev pub pulse : Pulse → RigState → RigState × Bool
pulse p r = pulse_by r.fuse p r.line

-- calls that are no steps
abbrev pub made_rig : List ChipState → RigState
made_rig l = record { line = l; fuse = none }

abbrev pub cut_rig : ℕ → RigState → RigState
cut_rig mask r = record { line = map (cut_chip mask) r.line; fuse = r.fuse }

abbrev pub power_rig : RigState → RigState
power_rig r = record { line = map power_chip r.line; fuse = r.fuse }

abbrev pub set_fuse : ℕ → ℕ → RigState → RigState
set_fuse count mask r = record { line = r.line; fuse = after count mask }

-- one step more, in 32 bits
abbrev pub counted : ℕ → ℕ
counted n = min (n + 1) 4294967295

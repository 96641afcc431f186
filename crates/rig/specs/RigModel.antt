-- What a rig of the code means, with the steps that it has counted.
use Rattle.std.specs.Prelude.{◌≡◌, ℕ, ◌-◌, Bool, true, false, cond, List, map, Some, None, Ok, Err, Option, Result, ◌==◌}
use Rattle.chip.specs.ChipStates.{ChipState, cut_chip}
use Rattle.line.specs.Lines.{any_busy}
use Rattle.rig.specs.Rigs.{RigState, FuseState, none, after, Pulse, pulse, refused, counted}
use Rattle.rig.specs.declared.rig_fault.RigFault.{RigFault}
use Rattle.rig.specs.declared.rig_fault.RigFault.TheVariants.{LineBusy}
use Rattle.rig.specs.declared.rig.Fuse.{Fuse}
use Rattle.rig.specs.declared.rig.Rig.{Rig}

abbrev pub refusal : RigFault → ℕ
refusal (LineBusy s) = 3

-- the steps that it carries
abbrev pub steps_made : RigFault → ℕ
steps_made (LineBusy s) = s

abbrev pub fuse_of : Option Fuse → FuseState
fuse_of None = none
fuse_of (Some f) = after f.count f.mask

-- a rig, and the steps since they were last set to 0
pub record Counting : Type 0 where
  pub rig : RigState
  pub steps : ℕ

module _ {L : Type 0} (chips : L → List ChipState) where
  abbrev pub rig_of : Rig L → RigState
  rig_of r = record { line = chips r.line; fuse = fuse_of r.fuse }

  abbrev pub counting : Rig L → Counting
  counting r = record { rig = rig_of r; steps = r.steps }

-- a pulse: refused with nothing changed, after so many steps, or one step more
abbrev pub counted_pulse : Pulse → Counting → Counting × Result Bool RigFault
counted_pulse p d =
    elim (refused p d.rig.line) [
      | true ↦ (d, Err (LineBusy d.steps))
      | false ↦ (record { rig = (pulse p d.rig).0; steps = counted d.steps }, Ok (pulse p d.rig).1)
    ]

-- a job begins, its steps counted from 0, unless the line is busy: then it has made none
abbrev pub CountBegins : Counting → Counting → Result (Unit {0}) RigFault → Type 0
CountBegins d d' (Ok u) = (any_busy d.rig.line ≡ false) × (d' ≡ record { rig = d.rig; steps = 0 })
CountBegins d d' (Err f) = (any_busy d.rig.line ≡ true) × (d' ≡ d) × (f ≡ LineBusy 0)

-- whether a step becomes a cut
abbrev pub cuts_now : Option Fuse → Bool
cuts_now None = false
cuts_now (Some f) = f.count == 0

-- the fuse after a step, and the line of a step that became a cut
abbrev pub lowered_fuse : Option Fuse → Option Fuse
lowered_fuse None = None
lowered_fuse (Some f) = cond (f.count == 0) None (Some (record { count = f.count - 1; mask = f.mask }))

abbrev pub cut_by : Option Fuse → List ChipState → List ChipState
cut_by None cs = cs
cut_by (Some f) cs = cond (f.count == 0) (map (cut_chip f.mask) cs) cs

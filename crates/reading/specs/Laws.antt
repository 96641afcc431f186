-- Laws of every reading on every rig.
use Rattle.std.specs.Prelude.{◌≡◌, ℕ, ◌%◌, ◌^◌, ◌<◌, ◌≤◌, true, false, List, ◌∷◌, map, ◌≢◌}
use Rattle.kinds.specs.Kinds.{row_length}
use Rattle.chip.specs.ChipStates.{ChipState, bytes_of}
use Rattle.chip.specs.Histories.{MetAll}
use Rattle.line.specs.Lines.{any_busy}
use Rattle.rig.specs.Rigs.{RigState, made_rig, power_rig}
use Rattle.wire.specs.Jobs.{ret, done, Ran, run, Said, good, answered, refused_as, steps_in}
use Rattle.wire.specs.Exchanges.{pulses}
use Rattle.wire.specs.Laws.{states, KeptPower, Single, row_in}
use Rattle.reading.specs.Readings.{reads_memory, failed, reading, read_call}

-- the tag with the number has power before the first step and after every step
abbrev pub Kept : ℕ → ℕ → RigState → Type 0
Kept x row r = KeptPower x (r ∷ states (reading x row) r)

-- a reading that is not refused with 3 or 4, of a number that exactly one chip has
pub record Tells (x row : ℕ) (r : RigState) (s : Single x r.line) : Type 0 where
  -- succeeds with the bytes that the tag holds there, if the tag kept power
  pub kept : Kept x row r → (steps : ℕ) × ((read_call x row r).1 ≡ answered (row_in (bytes_of s.tag) row) steps)
  -- and is refused if it lacked power at any step
  pub lacked : (Kept x row r → ⊥) → (found : List ℕ) (steps : ℕ) → (read_call x row r).1 ≢ answered found steps

-- reading tells the truth
abbrev pub ReadingTells : Type 0
ReadingTells =
    (r : RigState) (x row : ℕ) → MetAll r.line → x < 2 ^ 64 → row % row_length ≡ 0 → row < 65536 → any_busy r.line ≡ false
    → (s : Single x r.line) → Tells x row r s

-- the exchange that finds a row by itself, on a line that is powered up first, where no step is cut:
-- a reset, 55h with the number, F0h with the address, its low byte first, and 64 slots with 1; it answers the bytes read
abbrev pub finding : ℕ → ℕ → ℕ → List ChipState → Ran (Said (List ℕ))
finding e x row l = run 0 (pulses (reads_memory e x row) (λ found. ret (good found)) failed) (power_rig (made_rig l))

-- the row of the bytes that a tag holds is what F0h gives: with power or not before, alone or among tags of other numbers,
-- at any address, a multiple of 8 or not
abbrev pub RowIsRead : Type 0
RowIsRead =
    (l : List ChipState) (e x row : ℕ) → MetAll l → x < 2 ^ 64 → row < 65536 → any_busy l ≡ false → (s : Single x l)
    → (finding e x row l).got ≡ done (good (row_in (bytes_of s.tag) row))

-- refusal 3 comes before any step, to a line that is busy, with all unchanged, whatever its chips have met
abbrev pub BusyUnchanged : Type 0
BusyUnchanged =
    (r : RigState) (x row e steps : ℕ) → (read_call x row r).1 ≡ refused_as 3 e steps
    → ((read_call x row r).0 ≡ r) × (any_busy r.line ≡ true) × (e ≡ 0) × (steps ≡ 0)

-- a reading leaves no tag programming, whichever step is cut, on a line of any chips that was not busy
abbrev pub LeavesFree : Type 0
LeavesFree = (r : RigState) (x row : ℕ) → any_busy r.line ≡ false → any_busy (read_call x row r).0.line ≡ false

-- a reading changes no tag's bytes
abbrev pub BytesStay : Type 0
BytesStay = (r : RigState) (x row : ℕ) → map bytes_of (read_call x row r).0.line ≡ map bytes_of r.line

-- a reading that succeeds takes 267 steps, and no reading takes more, refused or cut
abbrev pub ReadingSteps : Type 0
ReadingSteps =
    (r : RigState) (x row : ℕ)
    → ((found : List ℕ) (steps : ℕ) → (read_call x row r).1 ≡ answered found steps → steps ≡ 267) × (steps_in (read_call x row r).1 ≤ 267)

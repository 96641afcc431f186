-- Laws of lines, on which all jobs rest: who listens, who is quiet, who is heard, and what a cut leaves.
use Rattle.std.specs.Prelude.{◌≡◌, ℕ, ◌^◌, ◌<◌, Bool, true, false, ◌≢◌, ◌⊎◌, List, [], ◌∷◌, ◌++◌, map}
use Rattle.chip.specs.Chips.{off, on, idle}
use Rattle.chip.specs.ChipStates.{ChipState, has_power, is_busy, pull_of, take_bit, cut_chip, opened_by}
use Rattle.chip.specs.Histories.{MetAll}
use Rattle.line.specs.Lines.{presence, pull, any_busy}
use Rattle.rig.specs.Rigs.{none, Pulse, line_after, answer, answer_if_cut, refused}
use Rattle.wire.specs.Jobs.{ret, done, Ran, run}
use Rattle.wire.specs.Exchanges.{answer as answers, opening, pulses}

-- without power or idle
abbrev pub Quiet : ChipState → Type 0
Quiet c = (c.live ≡ off) ⊎ ((rc : Bool) × (c.live ≡ on rc idle))

abbrev pub QuietEach : List ChipState → Type 0
QuietEach [] = Unit {0}
QuietEach (c ∷ cs) = Quiet c × QuietEach cs

-- the opening of an exchange by itself, where no step is cut; it answers whether a chip was present
abbrev pub opens : ℕ → ℕ → List ChipState → Ran Bool
opens x e l = run 0 (pulses (opening x e (answers tt)) (λ (_ : Unit {0}). ret true) (λ _ _. ret false)) (record { line = l; fuse = none })

-- after a reset that found a chip and 55h with a number, every chip is as `opened_by` says: the powered ones with that number listen
abbrev pub Selects : Type 0
Selects =
    (x e : ℕ) (l : List ChipState) → MetAll l → x < 2 ^ 64 → any_busy l ≡ false → presence l ≡ true
    → ((opens x e l).rig.line ≡ map (opened_by x) l) × ((opens x e l).got ≡ done true)

-- and the others are quiet
abbrev pub OthersQuiet : Type 0
OthersQuiet = (x : ℕ) (c : ChipState) → (c.number ≢ x) ⊎ (has_power c ≡ false) → Quiet (opened_by x c)

-- a quiet chip pulls nothing and no bit changes it, so it stays quiet until the next reset
abbrev pub QuietStays : Type 0
QuietStays = (b : Bool) (c : ChipState) → Quiet c → (take_bit b c ≡ c) × (pull_of c ≡ true) × (is_busy c ≡ false)

-- among quiet chips, what one pulls is what the line pulls
abbrev pub OneHeard : Type 0
OneHeard = (us vs : List ChipState) (c : ChipState) → QuietEach us → QuietEach vs → pull (us ++ (c ∷ vs)) ≡ pull_of c

-- once power is cut no pulse is refused, none is answered and none changes anything
abbrev pub CutSilent : Type 0
CutSilent =
    (mask : ℕ) (l : List ChipState) (p : Pulse)
    → (refused p (map (cut_chip mask) l) ≡ false) × (answer p (map (cut_chip mask) l) ≡ answer_if_cut p) × (line_after p (map (cut_chip mask) l) ≡ map (cut_chip mask) l)

-- the laws of lines together
pub record LineLaws : Type 0 where
  pub selects : Selects
  pub others : OthersQuiet
  pub stays : QuietStays
  pub heard : OneHeard
  pub silent : CutSilent

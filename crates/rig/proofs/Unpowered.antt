-- A line without power.
use Rattle.std.proofs.Common.{◌≡◌, ℕ, zero, suc, Bool, true, false, ◌&&◌, ◌||◌, List, [], ◌∷◌, map, refl, ap, ◌∙◌, ap₂, arith}
use mathlib.Core.Bool.{and-true}
use Rattle.chip.specs.Chips.{powered}
use Rattle.chip.specs.ChipStates.{ChipState, has_power, take_bit, reset_chip, dwell_chip, cut_chip}
use Rattle.chip.proofs.Keeps.{Off, off_powerless, off-pull, off-busy, off-taken, off-reset, off-dwell, off-cut}
use Rattle.line.specs.Lines.{presence, pull, any_busy}
use Rattle.rig.specs.Rigs.{FuseState, none, after, Pulse, reset_pulse, slot_pulse, dwell_pulse, line_after, answer, answer_if_cut, pulse_by, refused}

abbrev pub AllOff : List ChipState → Type 0
AllOff [] = Unit {0}
AllOff (c ∷ cs) = Off c × AllOff cs

pub all_off : (l : List ChipState) → presence l ≡ false → AllOff l
all_off [] h = tt
all_off (c ∷ cs) h = go (has_power c) refl h (all_off cs)
  where
    go : (b : Bool) → has_power c ≡ b → (b || presence cs) ≡ false → (presence cs ≡ false → AllOff cs) → AllOff (c ∷ cs)
    go true e f rest = let z : ◌≡◌ {A = ℕ} 0 1 = cc in absurd (omega arith)
    go false e f rest = (off_powerless c e, rest f)

pub off-map : (f : ChipState → ChipState) → ((c : ChipState) → Off c → f c ≡ c) → (l : List ChipState) → AllOff l → map f l ≡ l
off-map f h [] o = refl
off-map f h (c ∷ cs) o = ap₂ (λ x xs. x ∷ xs) (h c o.0) (off-map f h cs o.1)

pub line_pull : (l : List ChipState) → AllOff l → pull l ≡ true
line_pull [] o = refl
line_pull (c ∷ cs) o = ap₂ ◌&&◌ (off-pull c o.0) (line_pull cs o.1)

pub busy_line : (l : List ChipState) → AllOff l → any_busy l ≡ false
busy_line [] o = refl
busy_line (c ∷ cs) o = ap₂ ◌||◌ (off-busy c o.0) (busy_line cs o.1)

pub line_presence : (l : List ChipState) → AllOff l → presence l ≡ false
line_presence [] o = refl
line_presence (c ∷ cs) o = ap₂ ◌||◌ (ap powered o.0) (line_presence cs o.1)

-- a pulse on it changes nothing and is answered as one that became a cut
pub off-line_after : (p : Pulse) (l : List ChipState) → AllOff l → line_after p l ≡ l
off-line_after reset_pulse l o = off-map reset_chip off-reset l o
off-line_after (slot_pulse b) l o = off-map (take_bit (b && pull l)) (off-taken (b && pull l)) l o
off-line_after dwell_pulse l o = off-map dwell_chip off-dwell l o

pub off-answer : (p : Pulse) (l : List ChipState) → AllOff l → answer p l ≡ answer_if_cut p
off-answer reset_pulse l o = line_presence l o
off-answer (slot_pulse b) l o = ap (λ x. b && x) (line_pull l o) ∙ and-true b
off-answer dwell_pulse l o = refl

pub off-refused : (p : Pulse) (l : List ChipState) → AllOff l → refused p l ≡ false
off-refused reset_pulse l o = busy_line l o
off-refused (slot_pulse b) l o = busy_line l o
off-refused dwell_pulse l o = refl

pub off-pulse : (f : FuseState) (p : Pulse) (l : List ChipState) → AllOff l → ((pulse_by f p l).0.line ≡ l) × ((pulse_by f p l).1 ≡ answer_if_cut p)
off-pulse none p l o = (off-line_after p l o, off-answer p l o)
off-pulse (after zero mask) p l o = (off-map (cut_chip mask) (off-cut mask) l o, refl)
off-pulse (after (suc n) mask) p l o = (off-line_after p l o, off-answer p l o)

-- a cut takes power from every chip
pub cut_off : (mask : ℕ) (l : List ChipState) → AllOff (map (cut_chip mask) l)
cut_off mask [] = tt
cut_off mask (c ∷ cs) = (refl, cut_off mask cs)

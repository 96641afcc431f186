-- What every list of calls leaves of a line: its numbers, its bytes but for programming, and what its chips have met.
use Rattle.std.proofs.Common.{◌≡◌, ℕ, Bool, true, false, List, [], ◌∷◌, ◌++◌, map, sym, refl, ap, ◌∙◌, ap₂}
use Rattle.kinds.specs.Kinds.{whole_row}
use Rattle.chip.specs.ChipStates.{ChipState, is_busy, dwell_chip, cut_chip}
use Rattle.chip.specs.Histories.{effects, Met, MetAll}
use Rattle.chip.specs.Events.{Event, reset_came, bit_came, dwell_came, power_failed, power_came, effect}
use Rattle.chip.proofs.Keeps.{number-taken, bytes_taken, bytes_reset, bytes_power, bytes_dwell_idle, bytes_dwell_busy, bytes_cut_idle, bytes_cut_busy, off_powerless, power_same}
use Rattle.rig.specs.Rigs.{RigState}
use Rattle.history.specs.Calls.{Request, reset, slot, dwell, cut, power_up, fuse, rom_search, read, order, serve, moments}
use Rattle.wire.specs.Laws.{Along}
use Rattle.history.specs.Laws.{Stepwise, Change, same, programmed, NumbersStay, Plain, OnlyProgramming, StepsOnlyProgram, PowerUpForgets, MetStays}
use Rattle.history.proofs.Moments.{Each, Chain, chain_moments, onward_all}

-- nothing is asked of a chip
abbrev Any : ChipState → Type 0
Any c = Unit {0}

-- nothing is asked from one moment to another
abbrev Free : ChipState → ChipState → Type 0
Free c d = Unit {0}

-- numbers
abbrev SameNumber : ChipState → ChipState → Type 0
SameNumber c d = d.number ≡ c.number

number-effect : (e : Event) (c : ChipState) → Any c → Any (effect e c) × SameNumber c (effect e c)
number-effect reset_came c u = (tt, refl)
number-effect (bit_came b) c u = (tt, number-taken b c)
number-effect dwell_came c u = (tt, refl)
number-effect (power_failed mask) c u = (tt, refl)
number-effect power_came c u = (tt, refl)

any_each : (R : ChipState → ChipState → Type 0) (l : List ChipState) → Each Any R l
any_each R [] = tt
any_each R (c ∷ cs) = (tt, any_each R cs)

along_numbers : (l m : List ChipState) → Along SameNumber l m → map (λ (c : ChipState). c.number) m ≡ map (λ (c : ChipState). c.number) l
along_numbers [] [] h = refl
along_numbers [] (d ∷ ds) h = absurd h
along_numbers (c ∷ cs) [] h = absurd h
along_numbers (c ∷ cs) (d ∷ ds) h = ap₂ (λ x xs. x ∷ xs) h.0 (along_numbers cs ds h.1)

pub numbers_stay : NumbersStay
numbers_stay r qs = along_numbers r.line _ (onward_all Any SameNumber (λ c. refl) number-effect (λ c d e g h. h ∙ g) qs r (any_each SameNumber r.line)).1

-- bytes
change_dwell : (c : ChipState) → Change c (dwell_chip c)
change_dwell c = go (is_busy c) refl
  where
    go : (b : Bool) → is_busy c ≡ b → Change c (dwell_chip c)
    go true h = programmed whole_row h (bytes_dwell_busy c h)
    go false h = same (bytes_dwell_idle c h)

change_cut : (mask : ℕ) (c : ChipState) → Change c (cut_chip mask c)
change_cut mask c = go (is_busy c) refl
  where
    go : (b : Bool) → is_busy c ≡ b → Change c (cut_chip mask c)
    go true h = programmed mask h (bytes_cut_busy mask c h)
    go false h = same (bytes_cut_idle mask c h)

change_effect : (e : Event) (c : ChipState) → Any c → Any (effect e c) × Change c (effect e c)
change_effect reset_came c u = (tt, same (bytes_reset c))
change_effect (bit_came b) c u = (tt, same (bytes_taken b c))
change_effect dwell_came c u = (tt, change_dwell c)
change_effect (power_failed mask) c u = (tt, change_cut mask c)
change_effect power_came c u = (tt, same (bytes_power c))

stepwise : (R : ChipState → ChipState → Type 0) (r : RigState) (ss : List RigState) → Chain Any R r ss → Stepwise R r ss
stepwise R r [] c = tt
stepwise R r (s ∷ ss) c = (c.0.1, stepwise R s ss c.1)

pub steps_only_program : StepsOnlyProgram
steps_only_program r qs = stepwise Change r _ (chain_moments Any Change (λ c. same refl) change_effect qs r (any_each Change r.line))

pub only_programming : OnlyProgramming
only_programming r q p = go q p (steps_only_program r (q ∷ []))
  where
    go : (q : Request) → Plain q → Stepwise Change r (moments (q ∷ []) r) → Along Change r.line (serve q r).0.line
    go reset p h = h.0
    go (slot b) p h = h.0
    go dwell p h = h.0
    go (cut mask) p h = h.0
    go power_up p h = h.0
    go (fuse count mask) p h = h.0
    go (rom_search places) p h = absurd p
    go (read x row) p h = absurd p
    go (order x row new) p h = absurd p

pub power_up_forgets : PowerUpForgets
power_up_forgets c d p q e f n k b = power_same c d p q (off_powerless c e) (off_powerless d f) n k b

-- what chips have met
one_more : (ds : List Event) (e : Event) (c : ChipState) → effects (ds ++ (e ∷ [])) c ≡ effect e (effects ds c)
one_more [] e c = refl
one_more (d ∷ ds) e c = one_more ds e (effect d c)

met_on : (e : Event) (c : ChipState) → Met c → Met (effect e c)
met_on e c m = record {
  made = m.made;
  fresh = m.fresh;
  history = m.history ++ (e ∷ []);
  so = ap (effect e) m.so ∙ sym (one_more m.history e m.made);
}

met_each : (l : List ChipState) → MetAll l → Each Met Free l
met_each [] m = tt
met_each (c ∷ cs) m = (m.0, met_each cs m.1)

each_met : (l : List ChipState) → Each Met Free l → MetAll l
each_met [] m = tt
each_met (c ∷ cs) m = (m.0, each_met cs m.1)

pub met_stays : MetStays
met_stays r qs m = each_met _ (onward_all Met Free (λ c. tt) (λ t c h. (met_on t c h, tt)) (λ c d e g h. tt) qs r (met_each r.line m)).0

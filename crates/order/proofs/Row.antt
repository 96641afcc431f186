-- An order changes the ordered row alone, of tags with the number alone.
use Rattle.std.proofs.Common.{◌≡◌, ℕ, ◌%◌, ◌^◌, ◌<◌, Bool, true, false, ◌&&◌, eqb, List, [], ◌∷◌, ◌++◌, map, sym, refl, ap, ◌∙◌, subst}
use Rattle.std.proofs.lemmas.Bool.{true≢false, or_parts, eqb-true}
use Rattle.base.specs.Bits.{bits_of}
use Rattle.kinds.specs.Kinds.{at, whole_row}
use Rattle.memory.specs.Memories.{Memory, bytes_in, cut_memory}
use Rattle.memory.proofs.Calm.{copy_aimed}
use Rattle.chip.specs.Chips.{Live, off}
use Rattle.chip.specs.Chips.{on as under}
use Rattle.chip.specs.ChipStates.{ChipState, bytes_of, is_busy, take_bit, reset_chip, dwell_chip, cut_chip, takes, opened_as}
use Rattle.chip.proofs.Keeps.{number-taken, bytes_taken, bytes_reset, bytes_dwell_idle, bytes_dwell_busy, bytes_cut_idle, bytes_cut_busy}
use Rattle.chip.proofs.Select.{takes-off, takes-idle, select-takes}
use Rattle.chip.proofs.Sound.{met_sounds}
use Rattle.line.specs.Lines.{pull, any_busy}
use Rattle.rig.specs.Rigs.{RigState, Pulse, reset_pulse, slot_pulse, dwell_pulse, line_after}
use Rattle.rig.proofs.Unpowered.{busy_line}
use Rattle.wire.specs.Jobs.{Ran, run}
use Rattle.wire.specs.Laws.{Along}
use Rattle.wire.proofs.Along.{along_self, along_trans}
use Rattle.wire.proofs.Leading.{WideAll}
use Rattle.wire.proofs.Power.{first_refused}
use Rattle.wire.proofs.Selected.{sound_wide}
use Rattle.wire.proofs.Calm.{Ready, Free, meets_run}
use Rattle.order.specs.Writings.{whole_status}
use Rattle.order.specs.Orders.{Ending, ordering}
use Rattle.order.specs.Laws.{SameBeside, RowOnly, OnlyTheRow}
use Rattle.order.proofs.Parts.{call_at}
use Rattle.order.proofs.Quiet.{sent, copied, freed}

takes-number : (bs : List Bool) (c : ChipState) → (takes bs c).number ≡ c.number
takes-number [] c = refl
takes-number (b ∷ bs) c = takes-number bs (take_bit b c) ∙ number-taken b c

wide_map : (f : ChipState → ChipState) → ((c : ChipState) → (f c).number ≡ c.number) → (l : List ChipState) → WideAll l → WideAll (map f l)
wide_map f keeps [] w = tt
wide_map f keeps (c ∷ cs) w = (subst (λ n. n < 2 ^ 64) (sym (keeps c)) w.0, wide_map f keeps cs w.1)

module _ (x row : ℕ) (new : List ℕ) where
  abbrev Only : ChipState → ChipState → Type 0
  Only c d = RowOnly x row c d

  only_same : (c d : ChipState) → d.number ≡ c.number → bytes_of d ≡ bytes_of c → Only c d
  only_same c d n e = (n, λ _. e, λ a _. ap (λ m. at m a) e)

  only_self : (c : ChipState) → Only c c
  only_self c = only_same c c refl refl

  only_then : (c d e : ChipState) → Only c d → Only d e → Only c e
  only_then c d e f g = (g.0 ∙ f.0, λ n. g.1 (λ q. n (sym f.0 ∙ q)) ∙ f.1 n, λ a h. g.2 a h ∙ f.2 a h)

  along_map : (f : ChipState → ChipState) → ((c : ChipState) → Only c (f c)) → (l : List ChipState) → Along Only l (map f l)
  along_map f h [] = tt
  along_map f h (c ∷ cs) = (h c, along_map f h cs)

  -- a chip that programs has the number, and programs the row
  abbrev Aimed : ChipState → Type 0
  Aimed c = is_busy c ≡ true → (c.number ≡ x) × ((mask : ℕ) → SameBeside row (bytes_of c) (bytes_in (cut_memory c.memory mask)))

  abbrev AimedAll : List ChipState → Type 0
  AimedAll [] = Unit {0}
  AimedAll (c ∷ cs) = Aimed c × AimedAll cs

  free_aimed : (l : List ChipState) → any_busy l ≡ false → AimedAll l
  free_aimed [] b = tt
  free_aimed (c ∷ cs) b = ((λ h. absurd (true≢false (sym h ∙ (or_parts _ _ b).0))), free_aimed cs (or_parts _ _ b).1)

  -- so a dwell and a cut change that row alone
  burnt_only : (mask : ℕ) (c d : ChipState) → d.number ≡ c.number → (is_busy c ≡ false → bytes_of d ≡ bytes_of c) → (is_busy c ≡ true → bytes_of d ≡ bytes_in (cut_memory c.memory mask)) → Aimed c → Only c d
  burnt_only mask c d n rests burns aimed = go (is_busy c) refl
    where
      go : (t : Bool) → is_busy c ≡ t → Only c d
      go false q = only_same c d n (rests q)
      go true q = let t = aimed q in (n, λ ne. absurd (ne t.0), λ a h. ap (λ m. at m a) (burns q) ∙ t.1 mask a h)

  dwell_only : (l : List ChipState) → AimedAll l → Along Only l (map dwell_chip l)
  dwell_only [] h = tt
  dwell_only (c ∷ cs) h = (burnt_only whole_row c (dwell_chip c) refl (bytes_dwell_idle c) (bytes_dwell_busy c) h.0, dwell_only cs h.1)

  cut_only : (mask : ℕ) (l : List ChipState) → AimedAll l → Along Only l (map (cut_chip mask) l)
  cut_only mask [] h = tt
  cut_only mask (c ∷ cs) h = (burnt_only mask c (cut_chip mask c) refl (bytes_cut_idle mask c) (bytes_cut_busy mask c) h.0, cut_only mask cs h.1)

  act_only : (p : Pulse) (l : List ChipState) → AimedAll l → Along Only l (line_after p l)
  act_only reset_pulse l h = along_map reset_chip (λ c. only_same c (reset_chip c) refl (bytes_reset c)) l
  act_only (slot_pulse b) l h = along_map (take_bit (b && pull l)) (λ c. only_same c (take_bit (b && pull l) c) (number-taken (b && pull l) c) (bytes_taken (b && pull l) c)) l
  act_only dwell_pulse l h = dwell_only l h

  wide_act : (p : Pulse) (l : List ChipState) → WideAll l → WideAll (line_after p l)
  wide_act reset_pulse l w = wide_map reset_chip (λ c. refl) l w
  wide_act (slot_pulse b) l w = wide_map (take_bit (b && pull l)) (number-taken (b && pull l)) l w
  wide_act dwell_pulse l w = wide_map dwell_chip (λ c. refl) l w

  -- a line at a dwell
  abbrev AtDwell : List ChipState → Type 0
  AtDwell l = WideAll l → AimedAll l

  ready_aimed : (p : Pulse) (l : List ChipState) → Ready AtDwell p l → WideAll l → AimedAll l
  ready_aimed reset_pulse l h w = free_aimed l h
  ready_aimed (slot_pulse b) l h w = free_aimed l h
  ready_aimed dwell_pulse l h w = h w

  module _ (hx : x < 2 ^ 64) (al : row % 8 ≡ 0) (hr : row < 65536) where
    -- of the chips that hear a copy, no other programs
    chip_aimed : (c : ChipState) → is_busy c ≡ false → c.number < 2 ^ 64 → Aimed (takes (sent x row new) (takes (bits_of 8 0x55 ++ bits_of 64 x) (reset_chip c)))
    chip_aimed c e h = subst (λ d. Aimed (takes (sent x row new) d)) (sym (select-takes x c h hx e)) (go c.number c.memory c.live (eqb c.number x) refl)
      where
        go : (n : ℕ) (m : Memory) (l : Live) (t : Bool) → eqb n x ≡ t → Aimed (takes (sent x row new) (opened_as l t (record { number = n; live = l; memory = m })))
        go n m off t q = subst Aimed (sym (takes-off n m (sent x row new))) (λ b. absurd (true≢false (sym b)))
        go n m (under rc p) false q = subst Aimed (sym (takes-idle n m (sent x row new) false)) (λ b. absurd (true≢false (sym b)))
        go n m (under rc ph) true q = λ b. (eqb-true n x q, copy_aimed row whole_status al hr m b)

    copied_aimed : (l : List ChipState) → any_busy l ≡ false → AtDwell (copied x row new l)
    copied_aimed [] b w = tt
    copied_aimed (c ∷ cs) b w = (
      chip_aimed c (or_parts _ _ b).0
          (subst (λ n. n < 2 ^ 64) (takes-number (sent x row new) (takes (bits_of 8 0x55 ++ bits_of 64 x) (reset_chip c)) ∙ takes-number (bits_of 8 0x55 ++ bits_of 64 x) (reset_chip c)) w.0),
      copied_aimed cs (or_parts _ _ b).1 w.1,
    )

    went_only : (r : RigState) → WideAll r.line → any_busy r.line ≡ false → Along Only r.line (run 0 (ordering x row new) r).rig.line
    went_only r w b =
        (meets_run AtDwell Free (λ l. WideAll l × Along Only r.line l) busy_line
        (λ p l h s. (wide_act p l s.0, along_trans Only only_then r.line l (line_after p l) s.1 (act_only p l (ready_aimed p l h s.0))))
        (λ p m l h s. (wide_map (cut_chip m) (λ c. refl) l s.0, along_trans Only only_then r.line l (map (cut_chip m) l) s.1 (cut_only m l (ready_aimed p l h s.0))))
        0 (ordering x row new) r.line r.fuse (freed x row new al AtDwell copied_aimed r.line b) (w, along_self Only only_self r.line)).1.1

pub only_the_row : OnlyTheRow
only_the_row r x row new met hx hr = go (eqb (row % 8) 0) refl
  where
    wide : WideAll r.line
    wide = sound_wide r.line (met_sounds r.line met)

    begun : row % 8 ≡ 0 → (b : Bool) → any_busy r.line ≡ b → Along (RowOnly x row) r.line (run 0 (ordering x row new) r).rig.line
    begun al true b = subst (λ (w : Ran Ending). Along (RowOnly x row) r.line w.rig.line) (sym (first_refused 0 (ordering x row new) r tt b)) (along_self (RowOnly x row) (only_self x row new) r.line)
    begun al false b = went_only x row new hx al hr r wide b

    go : (t : Bool) → eqb (row % 8) 0 ≡ t → Along (RowOnly x row) r.line (call_at x row new r t).0.line
    go true q = begun (eqb-true (row % 8) 0 q) (any_busy r.line) refl
    go false q = along_self (RowOnly x row) (only_self x row new) r.line

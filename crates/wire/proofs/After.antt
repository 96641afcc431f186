-- What every job leaves of a line: chips within their bounds, and the one that has a number.
use Rattle.std.proofs.Common.{◌≡◌, ℕ, zero, suc, ◌&&◌, List, [], ◌∷◌, map, sym, refl, ap, ◌∙◌}
use Rattle.base.proofs.Choice.{pick}
use Rattle.memory.specs.Memories.{HasScratchpad}
use Rattle.chip.specs.ChipStates.{ChipState, take_bit, reset_chip, dwell_chip, cut_chip}
use Rattle.chip.proofs.Keeps.{number-taken}
use Rattle.chip.proofs.SameKind.{pads_taken, pads_dwell, pads_cut}
use Rattle.chip.proofs.Sound.{Sound, SoundAll, sound_taken, sound_reset, sound_dwell, sound_cut}
use Rattle.line.specs.Lines.{pull}
use Rattle.rig.specs.Rigs.{RigState, FuseState, none, after, Pulse, reset_pulse, slot_pulse, dwell_pulse, line_after, pulse_by, pulse, refused, counted}
use Rattle.wire.specs.Jobs.{Job, ret, step, Ran, run}
use Rattle.wire.specs.Laws.{NoneHas, Single}
use Rattle.wire.proofs.One.{map_mid}

-- what keeps each chip's number and its scratchpad keeps the one that has the number
module _ (x : ℕ) (f : ChipState → ChipState) (keeps : (c : ChipState) → (f c).number ≡ c.number) (pads : (c : ChipState) → HasScratchpad c.memory → HasScratchpad (f c).memory) where
  pub none_map : (l : List ChipState) → NoneHas x l → NoneHas x (map f l)
  none_map [] n = tt
  none_map (c ∷ cs) n = ((λ e. n.0 (sym (keeps c) ∙ e)), none_map cs n.1)

  abbrev pub single_map : (l : List ChipState) → Single x l → Single x (map f l)
  single_map l s = record {
    before = map f s.before;
    tag = f s.tag;
    behind = map f s.behind;
    so = ap (map f) s.so ∙ map_mid f s.before s.behind s.tag;
    is = keeps s.tag ∙ s.is;
    pad = pads s.tag s.pad;
    none_before = none_map s.before s.none_before;
    none_behind = none_map s.behind s.none_behind;
  }

pub sound_map : (f : ChipState → ChipState) → ((c : ChipState) → Sound c → Sound (f c)) → (l : List ChipState) → SoundAll l → SoundAll (map f l)
sound_map f h [] s = tt
sound_map f h (c ∷ cs) s = (h c s.0, sound_map f h cs s.1)

module _ (x : ℕ) where
  -- chips within their bounds, exactly one of which has the number
  abbrev pub OneAmong : List ChipState → Type 0
  OneAmong l = SoundAll l × Single x l

  act_one : (p : Pulse) (l : List ChipState) → OneAmong l → OneAmong (line_after p l)
  act_one reset_pulse l h = (sound_map reset_chip sound_reset l h.0, single_map x reset_chip (λ c. refl) (λ c q. q) l h.1)
  act_one (slot_pulse b) l h =
      (sound_map (take_bit (b && pull l)) (sound_taken (b && pull l)) l h.0, single_map x (take_bit (b && pull l)) (number-taken (b && pull l)) (λ c q. pads_taken c q (b && pull l)) l h.1)
  act_one dwell_pulse l h = (sound_map dwell_chip sound_dwell l h.0, single_map x dwell_chip (λ c. refl) pads_dwell l h.1)

  pulse_one : (f : FuseState) (p : Pulse) (l : List ChipState) → OneAmong l → OneAmong (pulse_by f p l).0.line
  pulse_one none p l h = act_one p l h
  pulse_one (after zero mask) p l h = (sound_map (cut_chip mask) (sound_cut mask) l h.0, single_map x (cut_chip mask) (λ c. refl) (λ c q. pads_cut c q mask) l h.1)
  pulse_one (after (suc n) mask) p l h = act_one p l h

  pub one_run : {A : Type 0} (n : ℕ) (p : Job A) (r : RigState) → OneAmong r.line → OneAmong (run n p r).rig.line
  one_run n (ret a) r h = h
  one_run {A} n (step p k) r h =
      pick (refused p r.line) (λ (w : Ran A). OneAmong w.rig.line) h (one_run (counted n) (k (pulse p r).1) (pulse p r).0 (pulse_one r.fuse p r.line h))

-- The laws of lines that jobs rest on.
use Rattle.std.proofs.Common.{◌≡◌, ℕ, Bool, true, false, ◌&&◌, ◌||◌, eqb, ◌≢◌, ◌⊎◌, List, [], ◌∷◌, ◌++◌, map, sym, refl, ap, ◌∙◌, subst, ap₂, inl, inr, ne_eqb}
use Rattle.std.proofs.lemmas.Bool.{true≢false}
use Rattle.memory.specs.Scratchpads.{Padded}
use Rattle.memory.specs.Memories.{padded, HasScratchpad}
use Rattle.chip.specs.Chips.{Live, off, on, Phase, powered}
use Rattle.chip.specs.ChipStates.{ChipState, has_power, cut_chip, opened_as}
use Rattle.chip.proofs.Sound.{Sound, SoundAll, met_sounds}
use Rattle.rig.proofs.Unpowered.{off-line_after, off-answer, off-refused, cut_off}
use Rattle.wire.specs.Jobs.{ret, Ran}
use Rattle.wire.specs.Selection.{Quiet, QuietEach, Selects, OthersQuiet, QuietStays, OneHeard, CutSilent, LineLaws}
use Rattle.wire.specs.Laws.{NoneHas, powered_in}
use Rattle.wire.proofs.Leading.{WideAll, opened}
use Rattle.wire.proofs.Alone.{QuietLive, QuietAll, quiet, pull_put}

pub sound_wide : (l : List ChipState) → SoundAll l → WideAll l
sound_wide [] s = tt
sound_wide (c ∷ cs) s = (s.0.wide, sound_wide cs s.1)

-- the one tag among the others
pub sound_mid : (us vs : List ChipState) (c : ChipState) → SoundAll (us ++ (c ∷ vs)) → SoundAll us × Sound c × SoundAll vs
sound_mid [] vs c s = (tt, s.0, s.1)
sound_mid (u ∷ us) vs c s = let t = sound_mid us vs c s.1 in ((s.0, t.0), t.1, t.2)

pub powered_one : (x : ℕ) (us vs : List ChipState) (c : ChipState) → NoneHas x us → NoneHas x vs → powered_in x (us ++ (c ∷ vs)) ≡ true → has_power c ≡ true
powered_one x [] vs c nu nv h = go (eqb c.number x) (has_power c) (h')
  where
    none : (l : List ChipState) → NoneHas x l → powered_in x l ≡ false
    none [] n = refl
    none (d ∷ ds) n = ap₂ (λ a b. a && has_power d || b) (ne_eqb d.number x n.0) (none ds n.1)

    h' : (eqb c.number x && has_power c || false) ≡ true
    h' = ap (λ b. eqb c.number x && has_power c || b) (sym (none vs nv)) ∙ h

    go : (a b : Bool) → (a && b || false) ≡ true → b ≡ true
    go true true q = refl
    go true false q = absurd (true≢false (sym q))
    go false b q = absurd (true≢false (sym q))
powered_one x (u ∷ us) vs c nu nv h =
    powered_one x us vs c nu.1 nv (ap (λ a. a && has_power u || powered_in x (us ++ (c ∷ vs))) (sym (ne_eqb u.number x nu.0)) ∙ h)

-- a powered chip with a number and a scratchpad is as the laws of exchanges take it
pub record Padding (x : ℕ) (c : ChipState) : Type 0 where
  pub rc : Bool
  pub phase : Phase
  pub pad : Padded
  pub so : c ≡ record { number = x; live = on rc phase; memory = padded pad }

pub padding : (x : ℕ) (c : ChipState) → c.number ≡ x → has_power c ≡ true → HasScratchpad c.memory → Padding x c
padding x c e p h = go c.live refl p
  where
    go : (l : Live) → c.live ≡ l → powered l ≡ true → Padding x c
    go off q p = absurd (true≢false (sym p))
    go (on rc ph) q p = record { rc = rc; phase = ph; pad = h.0; so = λ i. record { number = e i; live = q i; memory = h.1 i } }

selects : Selects
selects x e l m hx b p =
    let w = (opened x (ret true) (ret false) l hx (sound_wide l (met_sounds l m)) b p).so 0 in
    (ap (λ (t : Ran Bool). t.rig.line) w.1, ap (λ (t : Ran Bool). t.got) w.1)

others_quiet : OthersQuiet
others_quiet x c h = go c.live h
  where
    go : (l : Live) → (c.number ≢ x) ⊎ (powered l ≡ false) → Quiet (opened_as l (eqb c.number x) (record { number = c.number; live = l; memory = c.memory }))
    go off h = inl refl
    go (on rc p) (inl n) = subst (λ t. Quiet (opened_as (on rc p) t (record { number = c.number; live = on rc p; memory = c.memory }))) (sym (ne_eqb c.number x n)) (inr (false, refl))
    go (on rc p) (inr e) = absurd (true≢false e)

to_live : (c : ChipState) → Quiet c → QuietLive c.live
to_live c (inl e) = subst QuietLive (sym e) tt
to_live c (inr e) = subst QuietLive (sym e.1) tt

quiet_stays : QuietStays
quiet_stays b c q = quiet b c (to_live c q)

to_all : (l : List ChipState) → QuietEach l → QuietAll l
to_all [] q = tt
to_all (c ∷ cs) q = (to_live c q.0, to_all cs q.1)

one_heard : OneHeard
one_heard us vs c a b = pull_put us vs c (to_all us a) (to_all vs b)

cut-silent : CutSilent
cut-silent mask l p =
    let o = cut_off mask l in
    (off-refused p (map (cut_chip mask) l) o, off-answer p (map (cut_chip mask) l) o, off-line_after p (map (cut_chip mask) l) o)

pub line_laws : LineLaws
line_laws = record { selects = selects; others = others_quiet; stays = quiet_stays; heard = one_heard; silent = cut-silent }

-- The steps that a fault carries are those that its rig has counted.
use Rattle.std.proofs.Common.{◌≡◌, ℕ, Bool, true, false, cond, [], ◌∷◌, Ok, Err, Result, sym, refl, subst}
use Rattle.base.specs.RegistrationNumbers.{word_bytes}
use Rattle.rig.specs.Rigs.{Pulse, reset_pulse, dwell_pulse, pulse, refused, counted}
use Rattle.rig.specs.RigModel.{Counting, counted_pulse, steps_made}
use Rattle.rig.specs.declared.rig_fault.RigFault.{RigFault}
use Rattle.rig.specs.declared.rig_fault.RigFault.TheVariants.{LineBusy}
use Rattle.wire.specs.Jobs.{Job, Got, done, line_busy, run}
use Rattle.wire.specs.Outcomes.{result_got, does, sends, reads, onwards, keep}
use Rattle.wire.specs.Exchanges.{Tallies, present, resets_and_matches, Exchange, answer, refuse, opening, closing, dwelling, send, read, tells, Told}
use Rattle.wire.specs.declared.exchange_fault.ExchangeError.TheVariants.{NoPresence}
use Rattle.wire.specs.declared.exchange_fault.ExchangeFault.{ExchangeFault}
use Rattle.wire.specs.declared.exchange_fault.ExchangeFault.TheVariants.{Rig, Failed}

abbrev Tallied : {A : Type 0} → Counting → Result A ExchangeFault → Type 0
Tallied d (Ok a) = Unit {0}
Tallied d (Err e) = Tallies d e

-- the rig's own refusal, of a pulse and of a part of a job
abbrev pub Carried : {A : Type 0} → Counting → Result A RigFault → Type 0
Carried d (Ok a) = Unit {0}
Carried d (Err f) = steps_made f ≡ d.steps

pub pulse_carried : (p : Pulse) (d : Counting) → Carried (counted_pulse p d).0 (counted_pulse p d).1
pulse_carried p d = go (refused p d.rig.line)
  where
    beaten : Bool → Counting × Result Bool RigFault
    beaten t = elim t [ true ↦ (d, Err (LineBusy d.steps)) | false ↦ (record { rig = (pulse p d.rig).0; steps = counted d.steps }, Ok (pulse p d.rig).1) ]

    go : (t : Bool) → Carried (beaten t).0 (beaten t).1
    go true = refl
    go false = tt

pub does_carried : {A : Type 0} (j : Job A) (d : Counting) → Carried (does j d).0 (does j d).1
unfolding does
does_carried {A} j d = go (run d.steps j d.rig).got
  where
    go : (g : Got A) → Carried (record { rig = (run d.steps j d.rig).rig; steps = (run d.steps j d.rig).steps }) (result_got (run d.steps j d.rig).steps g)
    go (done a) = tt
    go line_busy = refl

-- after a part that the rig may refuse, and after one that may fail itself
rigs : {A B : Type 0} (s : Counting) (r : Result A RigFault) (rest : A → Counting → Counting × Result B ExchangeFault)
    → Carried s r → ((a : A) (d : Counting) → Tallied (rest a d).0 (rest a d).1) → Tallied (onwards Rig s r rest).0 (onwards Rig s r rest).1
rigs s (Ok a) rest c h = h a s
rigs s (Err f) rest c h = c

kept : {A B : Type 0} (s : Counting) (r : Result A ExchangeFault) (rest : A → Counting → Counting × Result B ExchangeFault)
    → Tallied s r → ((a : A) (d : Counting) → Tallied (rest a d).0 (rest a d).1) → Tallied (onwards keep s r rest).0 (onwards keep s r rest).1
kept s (Ok a) rest t h = h a s
kept s (Err e) rest t h = t

present_tallied : (e : ℕ) (d : Counting) → Tallied (present e d).0 (present e d).1
present_tallied e d = rigs (counted_pulse reset_pulse d).0 (counted_pulse reset_pulse d).1 (λ found d. (d, cond found (Ok tt) (Err (Failed NoPresence e d.steps)))) (pulse_carried reset_pulse d) go
  where
    go : (found : Bool) (d : Counting) → Tallied {A = Unit {0}} d (cond found (Ok tt) (Err (Failed NoPresence e d.steps)))
    go true d = tt
    go false d = refl

begins_tallied : (x e : ℕ) (d : Counting) → Tallied (resets_and_matches x e d).0 (resets_and_matches x e d).1
begins_tallied x e d =
    kept (present e d).0 (present e d).1 _ (present_tallied e d)
    (λ _ d. rigs (does (sends (0x55 ∷ [])) d).0 (does (sends (0x55 ∷ [])) d).1 _ (does_carried (sends (0x55 ∷ [])) d)
    (λ _ d. rigs (does (sends (word_bytes x)) d).0 (does (sends (word_bytes x)) d).1 _ (does_carried (sends (word_bytes x)) d) (λ _ d. tt)))

tells_tallied : {A : Type 0} (j : Exchange A) (d : Counting) → Tallied (tells j d).0 (tells j d).1
tells_tallied (answer a) d = tt
tells_tallied (refuse w e) d = refl
tells_tallied (opening x e k) d = kept (resets_and_matches x e d).0 (resets_and_matches x e d).1 (λ _ d. tells k d) (begins_tallied x e d) (λ _ d. tells_tallied k d)
tells_tallied (closing k) d = rigs (counted_pulse reset_pulse d).0 (counted_pulse reset_pulse d).1 (λ b d. tells (k b) d) (pulse_carried reset_pulse d) (λ b d. tells_tallied (k b) d)
tells_tallied (dwelling k) d = tells_tallied k (record { rig = (pulse dwell_pulse d.rig).0; steps = counted d.steps })
tells_tallied (send xs k) d = rigs (does (sends xs) d).0 (does (sends xs) d).1 (λ _ d. tells k d) (does_carried (sends xs) d) (λ _ d. tells_tallied k d)
tells_tallied (read n k) d = rigs (does (reads n) d).0 (does (reads n) d).1 (λ xs d. tells (k xs) d) (does_carried (reads n) d) (λ xs d. tells_tallied (k xs) d)

pub told_tallies : {A : Type 0} {j : Exchange A} {d d' : Counting} {e : ExchangeFault} → Told j d d' (Err e) → Tallies d' e
told_tallies {A} {j} {d} t = subst (λ (s : Counting × Result A ExchangeFault). Tallied s.0 s.1) (sym t.so) (tells_tallied j d)

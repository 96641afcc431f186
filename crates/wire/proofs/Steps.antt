-- How programs of pulses go on.
use Rattle.std.proofs.Common.{◌≡◌, ℕ, zero, suc, ◌≤◌, Bool, true, false, List, [], ◌∷◌, ◌++◌, Ok, Err, Result, sym, refl, ap, ◌∙◌, append_assoc, arith}
use mathlib.Core.Path.{fun_ext}
use Rattle.std.specs.Result.{IsErrAnd}
use Rattle.std.proofs.lemmas.Result.{err_from_is_err_and}
use Rattle.base.specs.Bits.{bit, value}
use Rattle.base.specs.Shifting.{shifted}
use Rattle.rig.specs.Rigs.{RigState, Pulse, slot_pulse, pulse, refused, counted}
use Rattle.wire.specs.Jobs.{Job, ret, step, Ran, Got, done, line_busy, run}
use Rattle.wire.specs.Jobs.{read_bytes}
use Rattle.wire.proofs.Bind.{bind, run_bind, onward as after}
use Rattle.rig.specs.RigModel.{Counting, counted_pulse}
use Rattle.rig.specs.declared.rig_fault.RigFault.{RigFault}
use Rattle.rig.specs.declared.rig_fault.RigFault.TheVariants.{LineBusy}
use Rattle.wire.specs.Outcomes.{outcome, does, onward, keep, sends, reads_byte}

-- what the exit of a `?` returns
pub exits : {T E : Type 0} {x : E} {r : Result T E} → IsErrAnd r (λ y. y ≡ x) → r ≡ Err x
exits {T} {E} {x} {r} h = let p = err_from_is_err_and r h in p.1 ∙ ap Err p.2

pub does-ret : {A : Type 0} (a : A) (d : Counting) → does (ret a) d ≡ (d, Ok a)
unfolding does
does-ret a d = refl

pub does-step : {A : Type 0} (p : Pulse) (k : Bool → Job A) (d : Counting) → does (step p k) d ≡ onward keep (counted_pulse p d) (λ b e. does (k b) e)
unfolding does
does-step {A} p k d =
    elim (refused p d.rig.line) as (λ t.
    outcome (elim t as (λ _. Ran A) [ true ↦ record { rig = d.rig; steps = d.steps; got = line_busy } | false ↦ run (counted d.steps) (k (pulse p d.rig).1) (pulse p d.rig).0 ])
    ≡ onward keep (elim t as (λ _. Counting × Result Bool RigFault) [ true ↦ (d, Err (LineBusy d.steps)) | false ↦ (record { rig = (pulse p d.rig).0; steps = counted d.steps }, Ok (pulse p d.rig).1) ]) (λ b e. does (k b) e))
    [ true ↦ refl | false ↦ refl ]

pub does_bind : {A B : Type 0} (p : Job A) (f : A → Job B) (d : Counting) → does (bind p f) d ≡ onward keep (does p d) (λ a e. does (f a) e)
unfolding does
does_bind {A} {B} p f d = ap outcome (run_bind d.steps p f d.rig) ∙ go (run d.steps p d.rig).rig (run d.steps p d.rig).steps (run d.steps p d.rig).got
  where
    go : (r : RigState) (n : ℕ) (g : Got A) → outcome (after f r n g) ≡ onward keep (outcome (record { rig = r; steps = n; got = g })) (λ a e. does (f a) e)
    go r n (done a) = refl
    go r n line_busy = refl

-- a pulse that was answered, and one that was refused
pub step_ok : {A : Type 0} (p : Pulse) (k : Bool → Job A) (d : Counting) {d' : Counting} {b : Bool} → (d', Ok b) ≡ counted_pulse p d → does (step p k) d ≡ does (k b) d'
step_ok p k d e = does-step p k d ∙ ap (λ s. onward keep s (λ b e. does (k b) e)) (sym e)

pub step_err : {A : Type 0} (p : Pulse) (k : Bool → Job A) (d : Counting) {d' : Counting} {x : RigFault} → (d', Err x) ≡ counted_pulse p d → does (step p k) d ≡ (d', Err x)
step_err p k d e = does-step p k d ∙ ap (λ s. onward keep s (λ b e. does (k b) e)) (sym e)

-- a part that was answered, and one that was refused
pub bind_ok : {A B : Type 0} (p : Job A) (f : A → Job B) (d : Counting) {d' : Counting} {a : A} → (d', Ok a) ≡ does p d → does (bind p f) d ≡ does (f a) d'
bind_ok p f d e = does_bind p f d ∙ ap (λ s. onward keep s (λ a e. does (f a) e)) (sym e)

pub bind_err : {A B : Type 0} (p : Job A) (f : A → Job B) (d : Counting) {d' : Counting} {x : RigFault} → (d', Err x) ≡ does p d → does (bind p f) d ≡ (d', Err x)
bind_err p f d e = does_bind p f d ∙ ap (λ s. onward keep s (λ a e. does (f a) e)) (sym e)

pub sends_none : (d : Counting) → does (sends []) d ≡ (d, Ok tt)
unfolding does sends
sends_none d = refl

pub sends_more : (b : ℕ) (bs : List ℕ) → sends (b ∷ bs) ≡ bind (sends (b ∷ [])) (λ _. sends bs)
unfolding sends
sends_more b bs = refl

-- eight bits shifted in are the value
abbrev shift_all : ℕ → List Bool → ℕ
shift_all got [] = got
shift_all got (b ∷ bs) = shift_all (shifted 0x80 got b) bs

-- what is left of reading a byte
abbrev pub read_rest : ℕ → ℕ → Job ℕ
read_rest got zero = ret got
read_rest got (suc n) = step (slot_pulse true) (λ b. read_rest (shifted 0x80 got b) n)

pub under : {A : Type 0} (p : Pulse) (k k' : Bool → Job A) → ((b : Bool) → k b ≡ k' b) → step p k ≡ step p k'
under p k k' h = ap (step p) (fun_ext h)

small : (b : Bool) → bit b ≤ 1
small true = omega arith
small false = omega arith

shifted_all : (a b c d e f g h : Bool) → shift_all 0 (a ∷ b ∷ c ∷ d ∷ e ∷ f ∷ g ∷ h ∷ []) ≡ value (a ∷ b ∷ c ∷ d ∷ e ∷ f ∷ g ∷ h ∷ [])
shifted_all a b c d e f g h = omega (arith, small a, small b, small c, small d, small e, small f, small g, small h)

pub rest_read : read_rest 0 8 ≡ reads_byte
unfolding reads_byte
rest_read =
    under (slot_pulse true) _ _ (λ a. under (slot_pulse true) _ _ (λ b. under (slot_pulse true) _ _ (λ c. under (slot_pulse true) _ _ (λ d.
    under (slot_pulse true) _ _ (λ e. under (slot_pulse true) _ _ (λ f. under (slot_pulse true) _ _ (λ g. under (slot_pulse true) _ _ (λ h. ap ret (shifted_all a b c d e f g h)))))))))

-- what is left of reading bytes after those that were read
abbrev pub reads_rest : List ℕ → ℕ → Job (List ℕ)
reads_rest got n = read_bytes n (λ xs. ret (got ++ xs))

pub reads_more : (got : List ℕ) (n : ℕ) → reads_rest got (suc n) ≡ bind reads_byte (λ x. reads_rest (got ++ (x ∷ [])) n)
unfolding reads_byte
reads_more got n =
    under (slot_pulse true) _ _ (λ a. under (slot_pulse true) _ _ (λ b. under (slot_pulse true) _ _ (λ c. under (slot_pulse true) _ _ (λ d.
    under (slot_pulse true) _ _ (λ e. under (slot_pulse true) _ _ (λ f. under (slot_pulse true) _ _ (λ g. under (slot_pulse true) _ _ (λ h.
    ap (read_bytes n) (fun_ext (λ xs. ap ret (sym (append_assoc got (value (a ∷ b ∷ c ∷ d ∷ e ∷ f ∷ g ∷ h ∷ []) ∷ []) xs))))))))))))

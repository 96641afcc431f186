-- Jobs in sequence: what a contract of a part of a job needs.
use Rattle.std.proofs.Common.{◌≡◌, ℕ, zero, suc, Bool, true, false, List, [], ◌∷◌, sym, refl, ap, ◌∙◌}
use mathlib.Core.Path.{fun_ext}
use Rattle.rig.specs.Rigs.{counted, RigState, slot_pulse, pulse, refused}
use Rattle.wire.specs.Jobs.{Job, ret, step, Ran, Got, done, line_busy, run}
use Rattle.wire.specs.Jobs.{send_bits, read_bits}

abbrev pub bind : {A B : Type 0} → Job A → (A → Job B) → Job B
bind (ret a) f = f a
bind (step p k) f = step p (λ b. bind (k b) f)

abbrev pub onward : {A B : Type 0} → (A → Job B) → RigState → ℕ → Got A → Ran B
onward f r n (done a) = run n (f a) r
onward f r n line_busy = record { rig = r; steps = n; got = line_busy }

-- a job and then another
pub run_bind : {A B : Type 0} (n : ℕ) (p : Job A) (f : A → Job B) (r : RigState) → run n (bind p f) r ≡ onward f (run n p r).rig (run n p r).steps (run n p r).got
run_bind n (ret a) f r = refl
run_bind {A} {B} n (step p k) f r =
    elim (refused p r.line) as (λ t.
    (elim t as (λ _. Ran B) [ true ↦ record { rig = r; steps = n; got = line_busy } | false ↦ run (counted n) (bind (k (pulse p r).1) f) (pulse p r).0 ])
    ≡ onward f (went t).rig (went t).steps (went t).got) [ true ↦ refl | false ↦ run_bind (counted n) (k (pulse p r).1) f (pulse p r).0 ]
  where
    went : Bool → Ran A
    went t = elim t [ true ↦ record { rig = r; steps = n; got = line_busy } | false ↦ run (counted n) (k (pulse p r).1) (pulse p r).0 ]

-- the continuation style is the sequence
pub send_bind : {A : Type 0} (bs : List Bool) (k : Job A) → send_bits bs k ≡ bind (send_bits bs (ret tt)) (λ (_ : Unit {0}). k)
send_bind [] k = refl
send_bind (b ∷ bs) k = ap (λ q. step (slot_pulse b) (λ _. q)) (send_bind bs k)

pub read_bind : {A : Type 0} (n : ℕ) (k : List Bool → Job A) → read_bits n k ≡ bind (read_bits n (λ bs. ret bs)) k
read_bind zero k = refl
read_bind (suc n) k = ap (step (slot_pulse true)) (fun_ext (λ b. read_bind n (λ bs. k (b ∷ bs)) ∙ again b))
  where
    map-ret : {A : Type 0} (m : ℕ) (g : List Bool → List Bool) (j : List Bool → Job A) → bind (read_bits m (λ bs. ret (g bs))) j ≡ bind (read_bits m (λ bs. ret bs)) (λ bs. j (g bs))
    map-ret zero g j = refl
    map-ret (suc m) g j = ap (step (slot_pulse true)) (fun_ext (λ b. map-ret m (λ bs. g (b ∷ bs)) j ∙ sym (map-ret m (λ bs. b ∷ bs) (λ bs. j (g bs)))))

    again : (b : Bool) → bind (read_bits n (λ bs. ret bs)) (λ bs. k (b ∷ bs)) ≡ bind (read_bits n (λ bs. ret (b ∷ bs))) k
    again b = sym (map-ret n (λ bs. b ∷ bs) k)

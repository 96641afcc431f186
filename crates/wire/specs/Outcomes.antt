-- A program of pulses on a rig at work, and the bytes that it sends and reads.
use Rattle.std.specs.Prelude.{ℕ, List, Ok, Err, Result}
use Rattle.base.specs.Bits.{value}
use Rattle.wire.specs.Jobs.{Job, ret, Ran, Got, done, line_busy, run}
use Rattle.wire.specs.Jobs.{read_bits, send_bytes, read_bytes}
use Rattle.rig.specs.RigModel.{Counting}
use Rattle.rig.specs.declared.rig_fault.RigFault.{RigFault}
use Rattle.rig.specs.declared.rig_fault.RigFault.TheVariants.{LineBusy}

abbrev pub result_got : {A : Type 0} → ℕ → Got A → Result A RigFault
result_got n (done a) = Ok a
result_got n line_busy = Err (LineBusy n)

abbrev pub outcome : {A : Type 0} → Ran A → Counting × Result A RigFault
outcome w = (record { rig = w.rig; steps = w.steps }, result_got w.steps w.got)

-- the outcome of a program: the rig with its steps, and the answer
unfoldable pub does : {A : Type 0} → Job A → Counting → Counting × Result A RigFault
does p d = outcome (run d.steps p d.rig)

-- an outcome, its fault turned by `up`, and then the rest unless it was refused
abbrev pub onwards : {A B E F : Type 0} → (E → F) → Counting → Result A E → (A → Counting → Counting × Result B F) → Counting × Result B F
onwards up d (Ok a) rest = rest a d
onwards up d (Err e) rest = (d, Err (up e))

abbrev pub onward : {A B E F : Type 0} → (E → F) → Counting × Result A E → (A → Counting → Counting × Result B F) → Counting × Result B F
onward up s rest = onwards up s.0 s.1 rest

abbrev pub keep : {E : Type 0} → E → E
keep e = e

unfoldable pub sends : List ℕ → Job (Unit {0})
sends xs = send_bytes xs (ret tt)

unfoldable pub reads_byte : Job ℕ
reads_byte = read_bits 8 (λ bs. ret (value bs))

unfoldable pub reads : ℕ → Job (List ℕ)
reads n = read_bytes n (λ xs. ret xs)

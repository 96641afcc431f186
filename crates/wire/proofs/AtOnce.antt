-- A job whose rig refuses its first pulse or none: where it was refused, it made no step and left all as it was.
use Rattle.std.proofs.Common.{◌≡◌, Bool, true, false, refl, subst}
use Rattle.line.specs.Lines.{any_busy}
use Rattle.rig.specs.Rigs.{RigState}
use Rattle.wire.specs.Jobs.{Job, line_busy, run}
use Rattle.wire.proofs.Power.{Resetting, first_refused}
use Rattle.wire.proofs.Calm.{Unrefused, Ended, unrefused_run}

pub refused_at_once : {A : Type 0} (j : Job A) (r : RigState) → Resetting j → (any_busy r.line ≡ false → Unrefused j r.line) → (run 0 j r).got ≡ line_busy
    → (run 0 j r ≡ record { rig = r; steps = 0; got = line_busy }) × (any_busy r.line ≡ true)
refused_at_once {A} j r first never q = go (any_busy r.line) refl
  where
    go : (t : Bool) → any_busy r.line ≡ t → (run 0 j r ≡ record { rig = r; steps = 0; got = line_busy }) × (any_busy r.line ≡ true)
    go true b = (first_refused 0 j r first b, b)
    go false b = absurd (subst Ended q (unrefused_run 0 j r.line r.fuse (never b)))

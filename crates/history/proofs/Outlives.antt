-- Protection outlives everything: from each moment of a history to every later one.
use Rattle.wire.specs.Laws.{Along}
use Rattle.std.proofs.Common.{List, [], ◌∷◌}
use Rattle.chip.specs.ChipStates.{ChipState}
use Rattle.chip.specs.Histories.{MetAll}
use Rattle.rig.specs.Rigs.{RigState, made_rig}
use Rattle.history.specs.Calls.{Request, moments}
use Rattle.history.specs.Promises.{Preserves, Outlives, Always, ProtectionOutlives}
use Rattle.history.proofs.Preserved.{Safe, met_safe, effect_preserves, preserves_self, preserves_trans}
use Rattle.wire.proofs.Along.{along_self, along_trans}
use Rattle.history.proofs.Moments.{Each, Chain, chain_moments}

-- from a moment q, past r, to all that follow it
outlives : (q r : RigState) (ss : List RigState) → Along Preserves q.line r.line → Chain Safe Preserves r ss → Outlives q ss
outlives q r [] g c = tt
outlives q r (s ∷ ss) g c =
    let on = along_trans Preserves preserves_trans q.line r.line s.line g c.0.1 in (on, outlives q s ss on c.1)

always : (r : RigState) (ss : List RigState) → Chain Safe Preserves r ss → Always (r ∷ ss)
always r [] c = (tt, tt)
always r (s ∷ ss) c = (outlives r r (s ∷ ss) (along_self Preserves preserves_self r.line) c, always s ss c.1)

each_safe : (l : List ChipState) → MetAll l → Each Safe Preserves l
each_safe [] m = tt
each_safe (c ∷ cs) m = (met_safe c m.0, each_safe cs m.1)

-- from any rig over such chips, whatever its fuse
pub outlives_from : (r : RigState) → MetAll r.line → (qs : List Request) → Always (r ∷ moments qs r)
outlives_from r m qs = always r (moments qs r) (chain_moments Safe Preserves preserves_self effect_preserves qs r (each_safe r.line m))

pub protection_outlives : ProtectionOutlives
protection_outlives l m qs = outlives_from (made_rig l) m qs

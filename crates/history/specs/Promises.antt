-- What no history of calls can break: protection outlives everything, the verdict is the truth, a tag is its number and its bytes.
use Rattle.std.specs.Prelude.{◌≡◌, ℕ, List, [], ◌∷◌}
use Rattle.memory.specs.Memories.{kind_in}
use Rattle.kinds.specs.SealedTag.{sealed}
use Rattle.kinds.specs.Protection.{Keeps}
use Rattle.chip.specs.ChipStates.{ChipState, bytes_of}
use Rattle.chip.specs.Histories.{MetAll}
use Rattle.rig.specs.Rigs.{RigState, made_rig}
use Rattle.wire.specs.Laws.{Along, Single}
use Rattle.order.specs.Orders.{order_call}
use Rattle.order.specs.Laws.{OrderBegan, Tells}
use Rattle.history.specs.Calls.{Request, order, serve, serve_all, moments}
use Rattle.history.specs.Identity.{Given, TagIsItsBytes}

-- what one moment allows a chip at a later one: number and kind stay, and a sealed tag keeps what is protected
pub record Preserves (c d : ChipState) : Type 0 where
  pub number : d.number ≡ c.number
  pub kind : kind_in d.memory ≡ kind_in c.memory
  pub bytes : kind_in c.memory ≡ sealed → Keeps (bytes_of c) (bytes_of d)

-- from one moment to all of these later ones
abbrev pub Outlives : RigState → List RigState → Type 0
Outlives r [] = Unit {0}
Outlives r (s ∷ ss) = Along Preserves r.line s.line × Outlives r ss

-- from each moment to every later one
abbrev pub Always : List RigState → Type 0
Always [] = Unit {0}
Always (r ∷ rs) = Outlives r rs × Always rs

-- a rig made over a line, after a history of its own
abbrev pub after_all : List ChipState → List Request → RigState
after_all l qs = (serve_all qs (made_rig l)).0

-- protection outlives everything: at the making of a rig, after each step and after each call of any list of calls,
-- what is then protected is kept at each later such moment
abbrev pub ProtectionOutlives : Type 0
ProtectionOutlives = (l : List ChipState) → MetAll l → (qs : List Request) → Always (made_rig l ∷ moments qs (made_rig l))

-- what the verdict tells of one call, if that is an order that began and whose number exactly one chip has
abbrev pub VerdictTrue : Request → RigState → Type 0
VerdictTrue (order x row new) r = OrderBegan (order_call x row new r).1 → Single x r.line → Tells x row new r
VerdictTrue q r = Unit {0}

-- and of each call of a list, at the rig as those before it left it
abbrev pub VerdictsTrue : List Request → RigState → Type 0
VerdictsTrue [] r = Unit {0}
VerdictsTrue (q ∷ qs) r = VerdictTrue q r × VerdictsTrue qs (serve q r).0

-- the verdict is the truth: of an order after any history, that began, and whose number exactly one chip has
abbrev pub VerdictIsTrue : Type 0
VerdictIsTrue =
    (l : List ChipState) → MetAll l → (qs : List Request) (x row : ℕ) (new : List ℕ) → Given (order x row new)
    → VerdictTrue (order x row new) (after_all l qs)

-- the three promises
pub record Promises : Type 0 where
  pub protection : ProtectionOutlives
  pub verdict : VerdictIsTrue
  pub identity : TagIsItsBytes

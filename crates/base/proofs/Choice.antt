-- A test and the two ways that it takes.
use Rattle.std.proofs.Common.{Bool, true, false}

-- a fact of both ways of a test holds of the way that is taken
pub pick : {A : Type 0} (b : Bool) (P : A → Type 0) {x y : A} → P x → P y → P (elim b [ true ↦ x | false ↦ y ])
pick true P p q = p
pick false P p q = q

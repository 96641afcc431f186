-- Laws of every order on every rig.
use Rattle.std.specs.Prelude.{◌≡◌, ℕ, ◌^◌, ◌<◌, ◌≤◌, Bool, true, false, ◌≢◌, ◌⊎◌, ◌↔◌, List, [], ◌∷◌, map, length, Some, ◌==◌}
use Rattle.kinds.specs.Kinds.{may_copy, row_length, at, Bytes, in_row}
use Rattle.memory.specs.Memories.{kind_in}
use Rattle.chip.specs.ChipStates.{ChipState, bytes_of}
use Rattle.chip.specs.Histories.{MetAll}
use Rattle.line.specs.Lines.{any_busy}
use Rattle.rig.specs.Rigs.{RigState}
use Rattle.wire.specs.Jobs.{done, good}
use Rattle.wire.specs.Laws.{states, Along, KeptPower, Single, row_in}
use Rattle.reading.specs.Laws.{finding}
use Rattle.order.specs.Differences.{first_difference}
use Rattle.order.specs.Orders.{ordering, Verdict, holds, refuses, refuses_at, order_call}

-- the order answers held
abbrev pub Held : Verdict → Type 0
Held (holds programmed n) = Unit {0}
Held (refuses k e n) = ⊥
Held (refuses_at k e i n) = ⊥

-- an order began unless 3 or 4 refused it
abbrev pub OrderBegan : Verdict → Type 0
OrderBegan (holds programmed n) = Unit {0}
OrderBegan (refuses k e n) = (k ≢ 3) × (k ≢ 4)
OrderBegan (refuses_at k e i n) = Unit {0}

-- the tag with the number kept power: it has power before the first step and after every step
abbrev pub Kept : ℕ → ℕ → List ℕ → RigState → Type 0
Kept x row new r = KeptPower x (r ∷ states (ordering x row new) r)

-- the bytes of the tag with the number
abbrev pub bytes_with : ℕ → List ChipState → List ℕ
bytes_with x [] = []
bytes_with x (c ∷ cs) = elim (c.number == x) [ true ↦ bytes_of c | false ↦ bytes_with x cs ]

-- the row that the tag has before the order
abbrev pub held_before : ℕ → ℕ → RigState → List ℕ
held_before x row r = row_in (bytes_with x r.line) row

-- the row then found: the bytes that F0h gives for it from that tag once the order has ended, powered up first if it lacks power
abbrev pub found_then : ℕ → ℕ → List ℕ → RigState → List ℕ
found_then x row new r = row_in (bytes_with x (order_call x row new r).0.line) row

-- whether the tag with the number lets the row be copied to, by the rules of its kind
abbrev pub lets_copy : ℕ → ℕ → List ChipState → Bool
lets_copy x row [] = false
lets_copy x row (c ∷ cs) = elim (c.number == x) [ true ↦ may_copy (kind_in c.memory) (bytes_of c) row | false ↦ lets_copy x row cs ]

-- what an order answers whose tag kept power, by the ordered row, whether the tag lets it be copied to, and the row then found:
-- held in 638 steps, programmed where the tag lets it; refused with 7 in its second exchange, after 362 steps;
-- or refused with 8 after its fifth, 638 steps, at the first index that differs; nothing else
abbrev pub Outcome : List ℕ → Bool → List ℕ → Verdict → Type 0
Outcome new lets found (holds programmed n) = (n ≡ 638) × (programmed ≡ lets)
Outcome new lets found (refuses k e n) = ⊥
Outcome new lets found (refuses_at k e i n) =
    (i < row_length) × (((k ≡ 7) × (e ≡ 2) × (n ≡ 362)) ⊎ ((k ≡ 8) × (e ≡ 5) × (n ≡ 638) × (first_difference new found ≡ Some i)))

-- what the verdict tells
pub record Tells (x row : ℕ) (new : List ℕ) (r : RigState) : Type 0 where
  -- the row then found is read off the tag's bytes, and is what F0h gives
  pub found : (finding 4 x row (order_call x row new r).0.line).got ≡ done (good (found_then x row new r))
  -- where the tag kept power, held says exactly that the row then found is the ordered one
  pub kept : Kept x row new r → Held (order_call x row new r).1 ↔ (new ≡ found_then x row new r)
  -- where it kept power and had the ordered row already, the order is held
  pub as_is : Kept x row new r → new ≡ held_before x row r → Held (order_call x row new r).1
  -- where it kept power, the order is held, or refused with 7 or 8: its exchanges neither miss the tag nor garble what it says;
  -- and held tells truly whether the tag has programmed
  pub outcome : Kept x row new r → Outcome new (lets_copy x row r.line) (found_then x row new r) (order_call x row new r).1
  -- where it lacked power at any step, the order never answers held
  pub lacked : (Kept x row new r → ⊥) → Held (order_call x row new r).1 → ⊥

-- the verdict is the truth, of every order that began and whose number exactly one chip has
abbrev pub OrderTells : Type 0
OrderTells =
    (r : RigState) (x row : ℕ) (new : List ℕ) → MetAll r.line → x < 2 ^ 64 → row < 65536 → length new ≡ row_length → Bytes new
    → OrderBegan (order_call x row new r).1 → Single x r.line → Tells x row new r

-- refusal 3 comes before any step, to a line that is busy, with all unchanged, whatever its chips have met
abbrev pub BusyUnchanged : Type 0
BusyUnchanged =
    (r : RigState) (x row e n : ℕ) (new : List ℕ) → (order_call x row new r).1 ≡ refuses 3 e n
    → ((order_call x row new r).0 ≡ r) × (any_busy r.line ≡ true) × (e ≡ 0) × (n ≡ 0)

-- an order leaves no tag programming, whichever step is cut, on a line of any chips that was not busy
abbrev pub LeavesFree : Type 0
LeavesFree = (r : RigState) (x row : ℕ) (new : List ℕ) → any_busy r.line ≡ false → any_busy (order_call x row new r).0.line ≡ false

-- so one that began leaves the line free
abbrev pub BeganLeavesFree : Type 0
BeganLeavesFree = (r : RigState) (x row : ℕ) (new : List ℕ) → OrderBegan (order_call x row new r).1 → any_busy (order_call x row new r).0.line ≡ false

-- a held order takes 638 steps, and no order takes more, so its count stays below the limit of 32 bits
abbrev pub steps_of : Verdict → ℕ
steps_of (holds programmed n) = n
steps_of (refuses k e n) = n
steps_of (refuses_at k e i n) = n

abbrev pub OrderSteps : Type 0
OrderSteps =
    (r : RigState) (x row : ℕ) (new : List ℕ) → length new ≡ row_length
    → ((n : ℕ) (programmed : Bool) → (order_call x row new r).1 ≡ holds programmed n → n ≡ 638) × (steps_of (order_call x row new r).1 ≤ 638)

-- bytes that are the same but for a row
abbrev pub SameBeside : ℕ → List ℕ → List ℕ → Type 0
SameBeside row m n = (a : ℕ) → in_row row a ≡ false → at n a ≡ at m a

-- what an order may make of a chip: its number stays, all its bytes if it has another number than the ordered one, and those outside the ordered row
abbrev pub RowOnly : ℕ → ℕ → ChipState → ChipState → Type 0
RowOnly x row c d = (d.number ≡ c.number) × (c.number ≢ x → bytes_of d ≡ bytes_of c) × SameBeside row (bytes_of c) (bytes_of d)

-- an order changes nothing but the ordered row of tags with the number, whichever step is cut, of however many tags
abbrev pub OnlyTheRow : Type 0
OnlyTheRow =
    (r : RigState) (x row : ℕ) (new : List ℕ) → MetAll r.line → x < 2 ^ 64 → row < 65536 → Along (RowOnly x row) r.line (order_call x row new r).0.line

-- no copy is sent where the scratchpad differs: an order refused with 7 changes no tag's bytes
abbrev pub Uncopied : Type 0
Uncopied =
    (r : RigState) (x row e i n : ℕ) (new : List ℕ) → (order_call x row new r).1 ≡ refuses_at 7 e i n
    → map bytes_of (order_call x row new r).0.line ≡ map bytes_of r.line

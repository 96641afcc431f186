-- The refusals and their codes.
use Rattle.std.specs.Prelude.{ℕ}
use Rattle.base.specs.declared.refusal.Refusal.{Refusal}
use Rattle.base.specs.declared.refusal.Refusal.TheVariants.{WrongSum, WrongLength, LineBusy, BadRow, NoPresence, Garbled, DataDiffer, NotHeld, NoPlace}

abbrev pub code_of : Refusal → ℕ
code_of WrongSum = 1
code_of WrongLength = 2
code_of LineBusy = 3
code_of BadRow = 4
code_of NoPresence = 5
code_of Garbled = 6
code_of DataDiffer = 7
code_of NotHeld = 8
code_of NoPlace = 9

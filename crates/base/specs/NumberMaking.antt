-- What the code's answers mean: each case with its refusal's code.
use Rattle.std.specs.Prelude.{ℕ, Ok, Err, Result}
use Rattle.base.specs.RegistrationNumbers.{Made, number, refused}
use Rattle.base.specs.declared.registration_number.RegistrationNumber.{RegistrationNumber}
use Rattle.base.specs.declared.registration_number.RegistrationNumberFault.{RegistrationNumberFault}
use Rattle.base.specs.declared.registration_number.RegistrationNumberFault.TheVariants.{WrongSum}

abbrev pub refusal : RegistrationNumberFault → ℕ
refusal WrongSum = 1

abbrev pub made_of : Result RegistrationNumber RegistrationNumberFault → Made
made_of (Ok n) = number n.word
made_of (Err e) = refused (refusal e)

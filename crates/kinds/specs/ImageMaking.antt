-- What the code's answers mean: each case with its refusal's code.
use Rattle.std.specs.Prelude.{ℕ, List, Ok, Err, Result}
use Rattle.kinds.specs.Kinds.{Made, holding, refused}
use Rattle.kinds.specs.declared.image.Image.{Image}
use Rattle.kinds.specs.declared.image_fault.ImageFault.{ImageFault}
use Rattle.kinds.specs.declared.image_fault.ImageFault.TheVariants.{WrongLength}

abbrev pub refusal : ImageFault → ℕ
refusal WrongLength = 2

abbrev pub made_of : {K : Type 0} → (K → List ℕ) → Result K ImageFault → Made
made_of bytes (Ok k) = holding (bytes k)
made_of bytes (Err e) = refused (refusal e)

abbrev pub image_of : {W : ℕ} → Result (Image W) ImageFault → Made
image_of (Ok i) = holding i.bytes
image_of (Err e) = refused (refusal e)

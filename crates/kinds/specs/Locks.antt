-- What a control byte or a register says: 55h write-protected, AAh EPROM mode, anything else open.
use Rattle.std.specs.Prelude.{◌≡◌, ◌≢◌, ℕ}
use Rattle.kinds.specs.declared.sealed_tag.Lock.{Lock}
use Rattle.kinds.specs.declared.sealed_tag.Lock.TheVariants.{Open, WriteProtected, EpromMode}

abbrev pub Says : ℕ → Lock → Type 0
Says byte Open = (byte ≢ 0x55) × (byte ≢ 0xAA)
Says byte WriteProtected = byte ≡ 0x55
Says byte EpromMode = byte ≡ 0xAA

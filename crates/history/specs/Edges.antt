-- Runs at the edges of the rules, on rigs of sealed tags: what is replied, in how many steps, and what the row holds then.
use Rattle.std.specs.Prelude.{◌≡◌, ℕ, true, false, List, [], ◌∷◌, ◌++◌, replicate, slice_set}
use Rattle.base.specs.RegistrationNumbers.{making, number, refused}
use Rattle.kinds.specs.SealedTag.{sealed}
use Rattle.chip.specs.ChipStates.{ChipState, bytes_of}
use Rattle.line.specs.TagMaking.{made_tag}
use Rattle.rig.specs.Rigs.{RigState, made_rig}
use Rattle.wire.specs.Jobs.{answered}
use Rattle.wire.specs.Laws.{row_in}
use Rattle.order.specs.Orders.{holds, refuses, refuses_at}
use Rattle.history.specs.Calls.{Request, power_up, fuse, rom_search, read, order, Reply, done, listed, row_is, judged_as, serve_all}

-- two numbers: eight bytes 00h, and six 00h, 01h, 5Eh
abbrev pub zero_number : ℕ
zero_number = 0

abbrev pub second_number : ℕ
second_number = 0x5E01000000000000

-- images: all 00h; page 1 in EPROM mode with F0h in row 20h; page 1 write-protected; the same with 84h locked
abbrev pub zeros : List ℕ
zeros = replicate 136 0

abbrev pub eprom_page : List ℕ
eprom_page = slice_set (replicate 32 0 ++ (replicate 8 0xF0 ++ replicate 96 0)) 0x81 0xAA

abbrev pub protected_page : List ℕ
protected_page = slice_set zeros 0x81 0x55

abbrev pub protected_locked : List ℕ
protected_locked = slice_set protected_page 0x84 0x55

-- rows: eight bytes alike, and eight that count
abbrev pub eight : ℕ → List ℕ
eight x = replicate 8 x

abbrev pub counting : List ℕ
counting = 1 ∷ 2 ∷ 3 ∷ 4 ∷ 5 ∷ 6 ∷ 7 ∷ 8 ∷ []

-- a rig with one tag, and one with two
abbrev pub alone : List ℕ → RigState
alone image = made_rig (made_tag sealed zero_number image ∷ [])

abbrev pub joined : RigState
joined = made_rig (made_tag sealed zero_number zeros ∷ made_tag sealed second_number zeros ∷ [])

-- what is replied to calls, and what row 20h of the first tag holds after them
abbrev pub replies : List Request → RigState → List Reply
replies qs r = (serve_all qs r).1

abbrev pub first_row : List ChipState → List ℕ
first_row [] = []
first_row (c ∷ cs) = row_in (bytes_of c) 0x20

abbrev pub row_after : List Request → RigState → List ℕ
row_after qs r = first_row (serve_all qs r).0.line

-- power-up, a fuse, and the order of row 20h
abbrev pub cut_at : ℕ → ℕ → List Request
cut_at count mask = power_up ∷ fuse count mask ∷ order zero_number 0x20 counting ∷ []

pub record EdgeRuns : Type 0 where
  -- an order that is held takes 638 steps
  pub order_held : replies (power_up ∷ order zero_number 0x20 counting ∷ []) (alone zeros) ≡ done ∷ judged_as (holds true 638) ∷ []
  pub order_held_row : row_after (power_up ∷ order zero_number 0x20 counting ∷ []) (alone zeros) ≡ counting
  -- power fails at the dwell, and no bit is programmed: refusal 5 in exchange 4, the row as it was
  pub cut_at_dwell : replies (cut_at 467 0) (alone zeros) ≡ done ∷ done ∷ judged_as (refuses 5 4 477) ∷ []
  pub cut_at_dwell_row : row_after (cut_at 467 0) (alone zeros) ≡ eight 0
  -- power fails at the closing reset: refusal 5 in exchange 5 although the row is new, whatever the mask
  pub cut_at_close : (mask : ℕ) → replies (cut_at 637 mask) (alone zeros) ≡ done ∷ done ∷ judged_as (refuses 5 5 638) ∷ []
  pub cut_at_close_row : (mask : ℕ) → row_after (cut_at 637 mask) (alone zeros) ≡ counting
  -- EPROM mode over F0h: 0Fh would raise bits, and is refused before the copy; 70h only clears one
  pub eprom_rises : replies (power_up ∷ order zero_number 0x20 (eight 0x0F) ∷ []) (alone eprom_page) ≡ done ∷ judged_as (refuses_at 7 2 0 362) ∷ []
  pub eprom_rises_row : row_after (power_up ∷ order zero_number 0x20 (eight 0x0F) ∷ []) (alone eprom_page) ≡ eight 0xF0
  pub eprom_falls : replies (power_up ∷ order zero_number 0x20 (eight 0x70) ∷ []) (alone eprom_page) ≡ done ∷ judged_as (holds true 638) ∷ []
  pub eprom_falls_row : row_after (power_up ∷ order zero_number 0x20 (eight 0x70) ∷ []) (alone eprom_page) ≡ eight 0x70
  -- a write-protected row ordered as it is: held, and programmed unless 84h is locked
  pub protected_same : replies (power_up ∷ order zero_number 0x20 (eight 0) ∷ []) (alone protected_page) ≡ done ∷ judged_as (holds true 638) ∷ []
  pub protected_and_locked : replies (power_up ∷ order zero_number 0x20 (eight 0) ∷ []) (alone protected_locked) ≡ done ∷ judged_as (holds false 638) ∷ []
  -- row 88h reads FFh and is never programmed: FFh is held, 00h is found to differ at index 0
  pub past_same : replies (power_up ∷ order zero_number 0x88 (eight 0xFF) ∷ []) (alone zeros) ≡ done ∷ judged_as (holds false 638) ∷ []
  pub past_other : replies (power_up ∷ order zero_number 0x88 (eight 0) ∷ []) (alone zeros) ≡ done ∷ judged_as (refuses_at 8 5 0 638) ∷ []
  -- no row begins at 0003h: refusal 4 before any step
  pub no_row : replies (power_up ∷ order zero_number 0x0003 counting ∷ []) (alone zeros) ≡ done ∷ judged_as (refuses 4 0 0) ∷ []
  -- both numbers are lawful; the second with 5Fh as its last byte is refused with 1
  pub zero_lawful : making zero_number ≡ number zero_number
  pub second_lawful : making second_number ≡ number second_number
  pub second_broken : making 0x5F01000000000000 ≡ refused 1
  -- a search of two tags takes 402 steps, and a reading 267
  pub two_listed : replies (power_up ∷ rom_search 10 ∷ []) joined ≡ done ∷ listed (answered 2 402, zero_number ∷ second_number ∷ []) ∷ []
  pub row_read : replies (power_up ∷ read second_number 0x20 ∷ []) joined ≡ done ∷ row_is (answered (eight 0) 267) ∷ []

-- One pass along a path.
use Rattle.std.specs.Prelude.{ℕ, ◌/◌, Bool, true, false, not, cond, Some, None, Option}
use Rattle.std.specs.Option.{option_map}
use Rattle.base.specs.Bits.{bits_of, value}
use Rattle.base.specs.Shifting.{shifted}
use Rattle.wire.specs.Jobs.{Job, ret}
use Rattle.rom_search.specs.Searches.{triples, NextPath, no_path, next_path}
use Rattle.rom_search.specs.declared.triplets.Triplet.{Triplet}
use Rattle.rom_search.specs.declared.triplets.Triplet.TheVariants.{Only, Both}
use Rattle.rom_search.specs.declared.triplets.PassState.{PassState}
use Rattle.rom_search.specs.declared.triplets.Pass.{Pass}

-- the bits that are there in a triple that read a and b: nobody answered, one of them, or both
abbrev pub triplet_of : Bool → Bool → Option Triplet
triplet_of true true = None
triplet_of true false = Some (Only true)
triplet_of false true = Some (Only false)
triplet_of false false = Some Both

-- the bit to take: the one that is there, or where both are, the path's
abbrev pub direction_taken : Triplet → Bool → Bool
direction_taken (Only b) h = b
direction_taken Both h = h

-- both are there and 0 is taken: the next pass may turn here
abbrev pub turns : Triplet → Bool → Bool
turns (Only b) t = false
turns Both t = not t

abbrev pub shift64 : ℕ → Bool → ℕ
shift64 word b = shifted 0x8000000000000000 word b

-- the path of the next pass so far
abbrev pub next_by : Bool → ℕ → Option ℕ → Option ℕ
next_by forked word next = cond forked (Some (shift64 word true)) (option_map (λ w. w / 2) next)

-- a pass after one triple more, with the bit that was taken
abbrev pub after_triplet : PassState → Triplet → Bool → PassState
after_triplet s m t = record { path = s.path / 2; number = shift64 s.number t; next = next_by (turns m t) s.number s.next }

-- the path of the next pass as a word, unless none is open
abbrev pub path_word : NextPath → Option ℕ
path_word no_path = None
path_word (next_path ps) = Some (value ps)

unfoldable pub triplets_along : ℕ → Job (Option Pass)
triplets_along start = triples (ret None) 64 (bits_of 64 start) (λ bs next. ret (Some (record { number = value bs; next = path_word next })))

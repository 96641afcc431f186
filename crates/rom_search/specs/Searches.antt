-- Listing the numbers on a line: passes along paths, 0 first where both bits occur.
use Rattle.std.specs.Prelude.{ℕ, zero, suc, ◌-◌, Bool, true, false, not, ◌&&◌, List, [], ◌∷◌, ◌++◌, ◌==◌, min}
use Rattle.base.specs.Bits.{value}
use Rattle.rig.specs.Rigs.{RigState, reset_pulse, slot_pulse}
use Rattle.wire.specs.Jobs.{Job, ret, step, Got, done, line_busy, run, Said, good, bad, Report, refused_as, report_of, send_bytes}

-- at most so many places are filled
abbrev pub most_places : ℕ
most_places = 64

-- what is left to do after a pass: nothing, or the path to take next
pub data NextPath : Type 0 where
  no_path : NextPath
  next_path : List Bool → NextPath

-- the path of the next pass turns at the last place where both bits occurred and 0 was taken
abbrev pub onward : Bool → Bool → NextPath → NextPath
onward forked b (next_path bs) = next_path (b ∷ bs)
onward true b no_path = next_path (true ∷ [])
onward false b no_path = no_path

abbrev pub tail_of : List Bool → List Bool
tail_of [] = []
tail_of (b ∷ bs) = bs

abbrev pub head_from : List Bool → Bool
head_from [] = false
head_from (b ∷ bs) = b

-- the bit to take in a triple that read a and b: the one that is there, or where both are, the path's
abbrev pub chosen : Bool → Bool → List Bool → Bool
chosen true b path = true
chosen false true path = false
chosen false false path = head_from path

-- n triples along a path: read a bit, read its opposite, write the bit to take
module _ {A : Type 0} (lost : Job A) where
  abbrev pub triples : ℕ → List Bool → (List Bool → NextPath → Job A) → Job A
  triples zero path k = k [] no_path
  triples (suc n) path k =
      step (slot_pulse true) (λ a. step (slot_pulse true) (λ b.
      elim (a && b) [
        | true ↦ lost
        | false ↦ let t = chosen a b path in
            step (slot_pulse t) (λ _. triples n (tail_of path) (λ bs next. k (t ∷ bs) (onward (not a && not b && not t) t next)))
      ]))

-- passes while there is room, from a pass's number, its path and the numbers found
abbrev pub passes : ℕ → ℕ → List Bool → List ℕ → Job (Said ℕ × List ℕ)
passes zero pass path found = ret (bad 9 (pass - 1), found)
passes (suc room) pass path found =
    step reset_pulse (λ p. elim p [
      | false ↦ ret (bad 5 pass, found)
      | true ↦ send_bytes (0xF0 ∷ []) (triples (ret (bad 6 pass, found)) 64 path (λ bs next.
          elim next [
            | no_path ↦ ret (good pass, found ++ (value bs ∷ []))
            | next_path path' ↦ passes room (suc pass) path' (found ++ (value bs ∷ []))
          ]))
    ])

abbrev pub room_of : ℕ → ℕ
room_of places = min places most_places

-- the answer with the numbers in the first places
abbrev pub listed : Got (Said ℕ × List ℕ) → ℕ → Report ℕ × List ℕ
listed (done s) n = (report_of (done s.0) n, s.1)
listed line_busy n = (refused_as 3 0 n, [])

-- no place is refused with 9, before any step
abbrev pub search_call : ℕ → RigState → RigState × (Report ℕ × List ℕ)
search_call places r =
    elim (places == 0) [
      | true ↦ (r, (refused_as 9 0 0, []))
      | false ↦ let w = run 0 (passes (room_of places) 1 [] []) r in (w.rig, listed w.got w.steps)
    ]

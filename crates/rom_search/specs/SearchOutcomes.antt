-- The numbers on a line, listed in lent places.
use Rattle.std.specs.Prelude.{◌≡◌, ℕ, ◌-◌, List, [], take, drop, Ok, Err, Result}
use Rattle.wire.specs.Jobs.{Ran, done, line_busy, run}
use Rattle.wire.specs.Jobs.{Said, good, bad, Report, answered, refused_as}
use Rattle.rom_search.specs.Searches.{passes}
use Rattle.rig.specs.RigModel.{Counting}
use Rattle.rig.specs.declared.rig_fault.RigFault.TheVariants.{LineBusy}
use Rattle.wire.specs.Exchanges.{error_code, fault_report, fault_count, Tallies}
use Rattle.wire.specs.declared.exchange_fault.ExchangeFault.TheVariants.{Rig, Failed}
use Rattle.rom_search.specs.declared.search_fault.SearchFault.{SearchFault}
use Rattle.rom_search.specs.declared.search_fault.SearchFault.TheVariants.{NoPlace, Full, Exchange as InExchange}

-- what an answer says, with the places as they are then
abbrev pub search_end : Counting → Result (ℕ × ℕ) SearchFault → List ℕ → Ran (Said ℕ × List ℕ)
search_end d (Ok a) l = record { rig = d.rig; steps = a.1; got = done (good a.0, take a.0 l) }
search_end d (Err NoPlace) l = record { rig = d.rig; steps = 0; got = done (bad 9 0, []) }
search_end d (Err (Full p s)) l = record { rig = d.rig; steps = s; got = done (bad 9 p, take p l) }
search_end d (Err (InExchange (Rig (LineBusy s)))) l = record { rig = d.rig; steps = s; got = line_busy }
search_end d (Err (InExchange (Failed error e s))) l = record { rig = d.rig; steps = s; got = done (bad (error_code error) e, take (e - 1) l) }

-- later places stay; all of them where the line was busy
abbrev pub Later : Result (ℕ × ℕ) SearchFault → List ℕ → List ℕ → Type 0
Later (Ok a) l l' = drop a.0 l' ≡ drop a.0 l
Later (Err NoPlace) l l' = l' ≡ l
Later (Err (Full p s)) l l' = drop p l' ≡ drop p l
Later (Err (InExchange (Rig x))) l l' = l' ≡ l
Later (Err (InExchange (Failed error e s))) l l' = drop (e - 1) l' ≡ drop (e - 1) l

-- an answer of a search that began
abbrev pub PlaceGiven : Result (ℕ × ℕ) SearchFault → Type 0
PlaceGiven (Ok a) = Unit {0}
PlaceGiven (Err NoPlace) = ⊥
PlaceGiven (Err (Full p s)) = Unit {0}
PlaceGiven (Err (InExchange e)) = Unit {0}

-- the steps that an answer carries are those that the rig has counted
abbrev pub Counts : Counting → Result (ℕ × ℕ) SearchFault → Type 0
Counts d (Ok a) = a.1 ≡ d.steps
Counts d (Err NoPlace) = Unit {0}
Counts d (Err (Full p s)) = s ≡ d.steps
Counts d (Err (InExchange e)) = Tallies d e

-- what the rig has counted after a search: the steps that it answers; one refused before any step leaves the count
abbrev pub search_count : ℕ → Result (ℕ × ℕ) SearchFault → ℕ
search_count n (Ok a) = a.1
search_count n (Err NoPlace) = n
search_count n (Err (Full p s)) = s
search_count n (Err (InExchange f)) = fault_count n f

pub record Searched (room : ℕ) (d d' : Counting) (l l' : List ℕ) (r : Result (ℕ × ℕ) SearchFault) : Type 0 where
  pub so : search_end d' r l' ≡ run d.steps (passes room 1 [] []) d.rig
  pub later : Later r l l'
  pub begun : PlaceGiven r
  pub counts : Counts d' r

-- what an answer tells a caller, with the numbers in the places
abbrev pub search_answer : Result (ℕ × ℕ) SearchFault → List ℕ → Report ℕ × List ℕ
search_answer (Ok a) l = (answered a.0 a.1, take a.0 l)
search_answer (Err NoPlace) l = (refused_as 9 0 0, [])
search_answer (Err (Full p s)) l = (refused_as 9 p s, take p l)
search_answer (Err (InExchange (Rig f))) l = (fault_report (Rig f), [])
search_answer (Err (InExchange (Failed error e s))) l = (fault_report (Failed error e s), take (e - 1) l)

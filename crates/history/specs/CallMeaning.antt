-- What the calls and answers of the code mean.
use Rattle.std.specs.Prelude.{ℕ, zero, suc, Ok, Err, List, [], ◌∷◌, replicate}
use Rattle.base.specs.Refusals.{code_of}
use Rattle.rig.specs.Rigs.{counted}
use Rattle.wire.specs.Jobs.{answered}
use Rattle.reading.specs.ReadOutcomes.{read_report, read_count}
use Rattle.rom_search.specs.SearchOutcomes.{search_answer, search_count, Later}
use Rattle.rom_search.specs.Searches.{most_places}
use Rattle.rom_search.specs.declared.search_fault.SearchFault.TheVariants.{NoPlace}
use Rattle.order.specs.OrderOutcomes.{order_verdict, order_count}
use Rattle.history.specs.Calls.{Request, reset, slot, dwell, cut, power_up, fuse, rom_search, read, order, Reply, presence_is, bit_is, done, refused_with, listed, row_is, judged_as}
use Rattle.history.specs.declared.calls.Call.{Call}
use Rattle.history.specs.declared.calls.Call.TheVariants.{Reset, Slot, Dwell, Cut, PowerUp, SetFuse, Search, Read, Order}
use Rattle.history.specs.declared.calls.Answer.{Answer}
use Rattle.history.specs.declared.calls.Answer.TheVariants.{Presence, Bit, Done, Listed, Row, Judged}

abbrev pub request_of : Call → Request
request_of Reset = reset
request_of (Slot bit) = slot bit
request_of Dwell = dwell
request_of (Cut mask) = cut mask
request_of PowerUp = power_up
request_of (SetFuse f) = fuse f.count f.mask
request_of (Search places) = rom_search places
request_of (Read number row) = read number.word row
request_of (Order number row new) = order number.word row new

abbrev pub reply_of : Answer → Reply
reply_of (Presence (Ok present)) = presence_is present
reply_of (Presence (Err f)) = refused_with (code_of f)
reply_of (Bit (Ok bit)) = bit_is bit
reply_of (Bit (Err f)) = refused_with (code_of f)
reply_of Done = done
reply_of (Listed outcome places) = listed (search_answer outcome places)
reply_of (Row (Ok a)) = row_is (answered a.0 a.1)
reply_of (Row (Err f)) = row_is (read_report (Err f) [])
reply_of (Judged outcome) = judged_as (order_verdict outcome)

-- the form of an answer, and the form that every answer to a call has, a refusal too; a search that has no place is told so
pub data Form : Type 0 where
  presences : Form
  bits : Form
  dones : Form
  placeless : Form
  lists : Form
  rows : Form
  verdicts : Form

abbrev pub form_of : Answer → Form
form_of (Presence r) = presences
form_of (Bit r) = bits
form_of Done = dones
form_of (Listed (Err NoPlace) places) = placeless
form_of (Listed outcome places) = lists
form_of (Row r) = rows
form_of (Judged outcome) = verdicts

abbrev pub form_asked : Call → Form
form_asked Reset = presences
form_asked (Slot bit) = bits
form_asked Dwell = dones
form_asked (Cut mask) = dones
form_asked PowerUp = dones
form_asked (SetFuse f) = dones
form_asked (Search zero) = placeless
form_asked (Search (suc places)) = lists
form_asked (Read number row) = rows
form_asked (Order number row new) = verdicts

-- what the rig has counted after an answer: a step more, or the steps that a job answers; a call refused before any step leaves the count
abbrev pub answer_count : Answer → ℕ → ℕ
answer_count (Presence (Ok present)) n = counted n
answer_count (Presence (Err f)) n = n
answer_count (Bit (Ok bit)) n = counted n
answer_count (Bit (Err f)) n = n
answer_count Done n = n
answer_count (Listed outcome places) n = search_count n outcome
answer_count (Row (Ok a)) n = a.1
answer_count (Row (Err f)) n = read_count n (Err f)
answer_count (Judged outcome) n = order_count n outcome

-- a dwell is a step; a cut, a power-up and the setting of a fuse are none
abbrev pub call_count : Call → Answer → ℕ → ℕ
call_count Reset a n = answer_count a n
call_count (Slot bit) a n = answer_count a n
call_count Dwell a n = counted n
call_count (Cut mask) a n = n
call_count PowerUp a n = n
call_count (SetFuse f) a n = n
call_count (Search places) a n = answer_count a n
call_count (Read number row) a n = answer_count a n
call_count (Order number row new) a n = answer_count a n

-- and after a list of calls
abbrev pub tally : List Call → List Answer → ℕ → ℕ
tally [] rs n = n
tally (q ∷ qs) [] n = n
tally (q ∷ qs) (a ∷ rs) n = tally qs rs (call_count q a n)

-- the places of a list that its answer does not tell of are 0, as they were lent
abbrev pub Unfilled : Answer → Type 0
Unfilled (Presence r) = Unit {0}
Unfilled (Bit r) = Unit {0}
Unfilled Done = Unit {0}
Unfilled (Listed outcome places) = Later outcome (replicate most_places 0) places
Unfilled (Row r) = Unit {0}
Unfilled (Judged outcome) = Unit {0}

abbrev pub AllUnfilled : List Answer → Type 0
AllUnfilled [] = Unit {0}
AllUnfilled (a ∷ rs) = Unfilled a × AllUnfilled rs

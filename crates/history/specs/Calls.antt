-- The calls that a rig takes, and what a list of them does.
use Rattle.std.specs.Prelude.{ℕ, ◌%◌, Bool, true, false, List, [], ◌∷◌, ◌++◌, ◌==◌}
use Rattle.kinds.specs.Kinds.{row_length}
use Rattle.rig.specs.Rigs.{RigState, Pulse, reset_pulse, slot_pulse, dwell_pulse, pulse, refused, cut_rig, power_rig, set_fuse}
use Rattle.wire.specs.Jobs.{Report}
use Rattle.wire.specs.Laws.{states}
use Rattle.reading.specs.Readings.{reading, read_call}
use Rattle.rom_search.specs.Searches.{passes, room_of, search_call}
use Rattle.order.specs.Orders.{ordering, order_call, Verdict}

pub data Request : Type 0 where
  reset : Request
  slot : Bool → Request
  dwell : Request
  cut : ℕ → Request
  power_up : Request
  fuse : ℕ → ℕ → Request
  rom_search : ℕ → Request  -- with a list of so many places of its own
  read : ℕ → ℕ → Request  -- a number and a row, with eight bytes of its own to write
  order : ℕ → ℕ → List ℕ → Request  -- a number, a row and its new bytes

pub data Reply : Type 0 where
  presence_is : Bool → Reply
  bit_is : Bool → Reply
  done : Reply
  refused_with : ℕ → Reply  -- the refusal's code
  listed : Report ℕ × List ℕ → Reply  -- with the numbers written
  row_is : Report (List ℕ) → Reply  -- with the row written
  judged_as : Verdict → Reply

-- a pulse with the reply that its answer makes; refusal 3 leaves all unchanged
abbrev pub stepped : Pulse → (Bool → Reply) → RigState → RigState × Reply
stepped p say r = elim (refused p r.line) [ true ↦ (r, refused_with 3) | false ↦ ((pulse p r).0, say (pulse p r).1) ]

abbrev pub serve : Request → RigState → RigState × Reply
serve reset r = stepped reset_pulse presence_is r
serve (slot b) r = stepped (slot_pulse b) bit_is r
serve dwell r = stepped dwell_pulse (λ _. done) r
serve (cut mask) r = (cut_rig mask r, done)
serve power_up r = (power_rig r, done)
serve (fuse count mask) r = (set_fuse count mask r, done)
serve (rom_search places) r = let s = search_call places r in (s.0, listed s.1)
serve (read x row) r = let s = read_call x row r in (s.0, row_is s.1)
serve (order x row new) r = let s = order_call x row new r in (s.0, judged_as s.1)

-- one after another, each finding the work of those before it
abbrev pub run_all : {S Q A : Type 0} → (Q → S → S × A) → List Q → S → S × List A
run_all f [] s = (s, [])
run_all f (q ∷ qs) s = let t = f q s in let u = run_all f qs t.0 in (u.0, t.1 ∷ u.1)

abbrev pub serve_all : List Request → RigState → RigState × List Reply
serve_all qs r = run_all serve qs r

-- the rig after each step within a call
abbrev pub within : Request → RigState → List RigState
within reset r = []
within (slot b) r = []
within dwell r = []
within (cut mask) r = []
within power_up r = []
within (fuse count mask) r = []
within (rom_search places) r = elim (places == 0) [ true ↦ [] | false ↦ states (passes (room_of places) 1 [] []) r ]
within (read x row) r = elim (row % row_length == 0) [ false ↦ [] | true ↦ states (reading x row) r ]
within (order x row new) r = elim (row % row_length == 0) [ false ↦ [] | true ↦ states (ordering x row new) r ]

-- the rig after each step and each call of a list
abbrev pub moments : List Request → RigState → List RigState
moments [] r = []
moments (q ∷ qs) r = within q r ++ ((serve q r).0 ∷ moments qs (serve q r).0)

-- What every event of a chip keeps, every list of calls on a line of chips keeps, at each of its moments.
use Rattle.std.proofs.Common.{◌≡◌, ℕ, zero, suc, ◌%◌, Bool, true, false, ◌&&◌, eqb, List, [], ◌∷◌, ◌++◌, map, refl, subst}
use Rattle.base.proofs.Choice.{pick}
use Rattle.kinds.specs.Kinds.{row_length}
use Rattle.chip.specs.ChipStates.{ChipState}
use Rattle.chip.specs.Events.{Event, reset_came, bit_came, dwell_came, power_failed, power_came, effect}
use Rattle.line.specs.Lines.{pull}
use Rattle.rig.specs.Rigs.{RigState, FuseState, none, after, Pulse, reset_pulse, slot_pulse, dwell_pulse, line_after, pulse_by, pulse, refused, counted}
use Rattle.wire.specs.Jobs.{Job, ret, step, Ran, line_busy, run, refused_as, report_of}
use Rattle.wire.specs.Laws.{Along, states}
use Rattle.wire.proofs.Along.{along_self, along_trans}
use Rattle.reading.specs.Readings.{reading}
use Rattle.rom_search.specs.Searches.{passes, room_of, listed}
use Rattle.order.specs.Orders.{ordering, verdict_of, refuses}
use Rattle.history.specs.Calls.{Request, reset, slot, dwell, cut, power_up, fuse, rom_search, read, order, Reply, presence_is, bit_is, done, stepped, serve, serve_all, within, moments}

-- P holds of each chip at each moment, and R from each chip to the next moment's
module _ (P : ChipState → Type 0) (R : ChipState → ChipState → Type 0) where
  abbrev pub Each : List ChipState → Type 0
  Each [] = Unit {0}
  Each (c ∷ cs) = P c × Each cs

  -- from a line to a later one
  abbrev pub Onward : List ChipState → List ChipState → Type 0
  Onward l m = Each m × Along R l m

  -- from a rig through all of these
  abbrev pub Chain : RigState → List RigState → Type 0
  Chain r [] = Unit {0}
  Chain r (s ∷ ss) = Onward r.line s.line × Chain s ss

  -- from a rig through all of these, the last of which is t
  abbrev pub Way : RigState → List RigState → RigState → Type 0
  Way r [] t = r ≡ t
  Way r (s ∷ ss) t = Onward r.line s.line × Way s ss t

  module _ (self : (c : ChipState) → R c c) (keeps : (e : Event) (c : ChipState) → P c → P (effect e c) × R c (effect e c)) where
    pub onward_self : (l : List ChipState) → Each l → Onward l l
    onward_self l e = (e, along_self R self l)

    -- the same event for all chips
    pub onward-effect : (t : Event) (l : List ChipState) → Each l → Onward l (map (effect t) l)
    onward-effect t [] e = (tt, tt)
    onward-effect t (c ∷ cs) e =
        let one = keeps t c e.0 in let rest = onward-effect t cs e.1 in ((one.0, rest.0), (one.1, rest.1))

    onward-line_after : (p : Pulse) (l : List ChipState) → Each l → Onward l (line_after p l)
    onward-line_after reset_pulse l e = onward-effect reset_came l e
    onward-line_after (slot_pulse b) l e = onward-effect (bit_came (b && pull l)) l e
    onward-line_after dwell_pulse l e = onward-effect dwell_came l e

    -- a pulse with any fuse
    pub onward-pulse : (f : FuseState) (p : Pulse) (l : List ChipState) → Each l → Onward l (pulse_by f p l).0.line
    onward-pulse none p l e = onward-line_after p l e
    onward-pulse (after zero mask) p l e = onward-effect (power_failed mask) l e
    onward-pulse (after (suc n) mask) p l e = onward-line_after p l e

    -- any job, from step to step
    pub way-states : {A : Type 0} (n : ℕ) (j : Job A) (r : RigState) → Each r.line → Way r (states j r) (run n j r).rig
    way-states n (ret a) r e = refl
    way-states {A} n (step p k) r e =
        elim (refused p r.line)
        as (λ t. Way r (elim t as (λ _. List RigState) [ true ↦ [] | false ↦ (pulse p r).0 ∷ states (k (pulse p r).1) (pulse p r).0 ])
        (elim t as (λ _. Ran A) [ true ↦ record { rig = r; steps = n; got = line_busy } | false ↦ run (counted n) (k (pulse p r).1) (pulse p r).0 ]).rig) [
          | true ↦ refl
          | false ↦ let h = onward-pulse r.fuse p r.line e in (h, way-states (counted n) (k (pulse p r).1) (pulse p r).0 h.0)
        ]

    -- through a way, and on from its end
    pub way_then : (r : RigState) (ss : List RigState) (t : RigState) (us : List RigState) → Each r.line → Way r ss t → Chain t us → Chain r (ss ++ (t ∷ us))
    way_then r [] t us e w c = (subst (λ q. Onward r.line q.line) w (onward_self r.line e), c)
    way_then r (s ∷ ss) t us e w c = (w.0, way_then s ss t us w.0.0 w.1 c)

    -- from the beginning of a way to its end
    pub way_ends : ((c d e : ChipState) → R c d → R d e → R c e) → (r : RigState) (ss : List RigState) (t : RigState) → Each r.line → Way r ss t → Onward r.line t.line
    way_ends trans r [] t e w = subst (λ q. Onward r.line q.line) w (onward_self r.line e)
    way_ends trans r (s ∷ ss) t e w =
        let rest = way_ends trans s ss t w.0.0 w.1 in (rest.0, along_trans R trans r.line s.line t.line w.0.1 rest.1)

    pub way_each : (r : RigState) (ss : List RigState) (t : RigState) → Each r.line → Way r ss t → Each t.line
    way_each r [] t e w = subst (λ q. Each q.line) w e
    way_each r (s ∷ ss) t e w = way_each s ss t w.0.0 w.1

    -- a call that runs a job if a test says yes, and else leaves all unchanged
    way_if : {A X : Type 0} (b : Bool) (j : Job A) (r : RigState) (say : Ran A → X) (refusal : X) → Each r.line
        → Way r (elim b [ true ↦ states j r | false ↦ [] ]) (elim b as (λ _. RigState × X) [ true ↦ ((run 0 j r).rig, say (run 0 j r)) | false ↦ (r, refusal) ]).0
    way_if true j r say refusal e = way-states 0 j r e
    way_if false j r say refusal e = refl

    way_unless : {A X : Type 0} (b : Bool) (j : Job A) (r : RigState) (say : Ran A → X) (refusal : X) → Each r.line
        → Way r (elim b [ true ↦ [] | false ↦ states j r ]) (elim b as (λ _. RigState × X) [ true ↦ (r, refusal) | false ↦ ((run 0 j r).rig, say (run 0 j r)) ]).0
    way_unless true j r say refusal e = refl
    way_unless false j r say refusal e = way-states 0 j r e

    way-rom_search : (places : ℕ) (r : RigState) → Each r.line → Way r (within (rom_search places) r) (serve (rom_search places) r).0
    way-rom_search places r e = way_unless (eqb places 0) (passes (room_of places) 1 [] []) r (λ w. listed w.got w.steps) (refused_as 9 0 0, []) e

    way-read : (x row : ℕ) (r : RigState) → Each r.line → Way r (within (read x row) r) (serve (read x row) r).0
    way-read x row r e = way_if (eqb (row % row_length) 0) (reading x row) r (λ w. report_of w.got w.steps) (refused_as 4 0 0) e

    way-order : (x row : ℕ) (new : List ℕ) (r : RigState) → Each r.line → Way r (within (order x row new) r) (serve (order x row new) r).0
    way-order x row new r e = way_if (eqb (row % row_length) 0) (ordering x row new) r (λ w. verdict_of w.got w.steps) (refuses 4 0 0) e

    onward-stepped : (p : Pulse) (say : Bool → Reply) (r : RigState) → Each r.line → Onward r.line (stepped p say r).0.line
    onward-stepped p say r e =
        pick (refused p r.line) (λ (s : RigState × Reply). Onward r.line s.0.line) (onward_self r.line e) (onward-pulse r.fuse p r.line e)

    -- through a call, and on from its end
    chain_call : (q : Request) (r : RigState) (us : List RigState) → Each r.line → (Each (serve q r).0.line → Chain (serve q r).0 us)
        → Chain r (within q r ++ ((serve q r).0 ∷ us))
    chain_call reset r us e h = let o = onward-stepped reset_pulse presence_is r e in (o, h o.0)
    chain_call (slot b) r us e h = let o = onward-stepped (slot_pulse b) bit_is r e in (o, h o.0)
    chain_call dwell r us e h = let o = onward-stepped dwell_pulse (λ _. done) r e in (o, h o.0)
    chain_call (cut mask) r us e h = let o = onward-effect (power_failed mask) r.line e in (o, h o.0)
    chain_call power_up r us e h = let o = onward-effect power_came r.line e in (o, h o.0)
    chain_call (fuse count mask) r us e h = (onward_self r.line e, h e)
    chain_call (rom_search places) r us e h =
        let w = way-rom_search places r e in
        way_then r (within (rom_search places) r) (serve (rom_search places) r).0 us e w (h (way_each r (within (rom_search places) r) (serve (rom_search places) r).0 e w))
    chain_call (read x row) r us e h =
        let w = way-read x row r e in
        way_then r (within (read x row) r) (serve (read x row) r).0 us e w (h (way_each r (within (read x row) r) (serve (read x row) r).0 e w))
    chain_call (order x row new) r us e h =
        let w = way-order x row new r e in
        way_then r (within (order x row new) r) (serve (order x row new) r).0 us e w
        (h (way_each r (within (order x row new) r) (serve (order x row new) r).0 e w))

    -- any list of calls, from moment to moment
    pub chain_moments : (qs : List Request) (r : RigState) → Each r.line → Chain r (moments qs r)
    chain_moments [] r e = tt
    chain_moments (q ∷ qs) r e = chain_call q r (moments qs (serve q r).0) e (λ e'. chain_moments qs (serve q r).0 e')

    -- from the beginning of a call, and of any list of calls, to its end
    module _ (trans : (c d e : ChipState) → R c d → R d e → R c e) where
      pub onward-serve : (q : Request) (r : RigState) → Each r.line → Onward r.line (serve q r).0.line
      onward-serve reset r e = onward-stepped reset_pulse presence_is r e
      onward-serve (slot b) r e = onward-stepped (slot_pulse b) bit_is r e
      onward-serve dwell r e = onward-stepped dwell_pulse (λ _. done) r e
      onward-serve (cut mask) r e = onward-effect (power_failed mask) r.line e
      onward-serve power_up r e = onward-effect power_came r.line e
      onward-serve (fuse count mask) r e = onward_self r.line e
      onward-serve (rom_search places) r e = way_ends trans r (within (rom_search places) r) (serve (rom_search places) r).0 e (way-rom_search places r e)
      onward-serve (read x row) r e = way_ends trans r (within (read x row) r) (serve (read x row) r).0 e (way-read x row r e)
      onward-serve (order x row new) r e = way_ends trans r (within (order x row new) r) (serve (order x row new) r).0 e (way-order x row new r e)

      pub onward_all : (qs : List Request) (r : RigState) → Each r.line → Onward r.line (serve_all qs r).0.line
      onward_all [] r e = onward_self r.line e
      onward_all (q ∷ qs) r e =
          let one = onward-serve q r e in let rest = onward_all qs (serve q r).0 one.0 in
          (rest.0, along_trans R trans r.line (serve q r).0.line (serve_all qs (serve q r).0).0.line one.1 rest.1)

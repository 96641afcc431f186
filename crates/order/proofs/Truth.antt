-- The verdict is the truth.
use Rattle.std.proofs.Common.{◌≡◌, ℕ, ◌%◌, ◌^◌, ◌<◌, Bool, true, false, eqb, ◌↔◌, List, ◌∷◌, ◌++◌, length, sym, refl, ap, ◌∙◌, subst, inl, inr, eq-eqb}
use Rattle.std.proofs.lemmas.Bool.{eqb-true}
use Rattle.kinds.specs.Kinds.{may_copy, Bytes}
use Rattle.memory.specs.Memories.{kind_in}
use Rattle.memory.proofs.Sound.{SoundMemory}
use Rattle.chip.specs.ChipStates.{bytes_of}
use Rattle.chip.proofs.Sound.{SoundAll, met_sounds}
use Rattle.line.specs.Lines.{any_busy}
use Rattle.rig.specs.Rigs.{RigState}
use Rattle.wire.specs.Jobs.{Got, done, line_busy, Ran, run, good}
use Rattle.wire.specs.Laws.{powered_in, Single, row_in}
use Rattle.wire.proofs.Leading.{free}
use Rattle.wire.proofs.After.{one_run}
use Rattle.wire.proofs.Calm.{Anyhow, freed_run}
use Rattle.wire.proofs.Counts.{GotAt}
use Rattle.wire.proofs.Power.{GotGood, first_refused, kept_free, good_free, good_kept}
use Rattle.wire.proofs.Selected.{sound_wide, sound_mid, powered_one, padding}
use Rattle.order.specs.Orders.{Ending, held, refusal, refusal_at, ordering, verdict_of, order_call}
use Rattle.order.specs.Laws.{Held, OrderBegan, Kept, bytes_with, lets_copy, Outcome, Tells, OrderTells, BeganLeavesFree}
use Rattle.order.proofs.Parts.{call_at}
use Rattle.order.proofs.Present.{IsHeld, Placed, Ends, bytes_mid, lets_mid, order_ends}
use Rattle.reading.specs.Laws.{finding}
use Rattle.reading.proofs.Found.{told_row}
use Rattle.order.proofs.Absent.{order_wary, absent}
use Rattle.order.proofs.Quiet.{freed_anyhow, leaves_free}
use Rattle.order.proofs.Steps.{Takes, counts}

-- a busy line refuses the first pulse
any_busy-refused : (x row : ℕ) (new : List ℕ) (r : RigState) → any_busy r.line ≡ true → run 0 (ordering x row new) r ≡ record { rig = r; steps = 0; got = line_busy }
any_busy-refused x row new r q = first_refused 0 (ordering x row new) r tt q

-- an order that began has a row, and its line was not busy
began_row : (x row : ℕ) (new : List ℕ) (r : RigState) → OrderBegan (order_call x row new r).1 → eqb (row % 8) 0 ≡ true
began_row x row new r b = go (eqb (row % 8) 0) b
  where
    go : (t : Bool) → OrderBegan (call_at x row new r t).1 → t ≡ true
    go true h = refl
    go false h = absurd (h.1 refl)

began_free : (x row : ℕ) (new : List ℕ) (r : RigState) → eqb (row % 8) 0 ≡ true → OrderBegan (order_call x row new r).1 → any_busy r.line ≡ false
began_free x row new r e b = go (any_busy r.line) refl (subst (λ t. OrderBegan (call_at x row new r t).1) e b)
  where
    go : (t : Bool) → any_busy r.line ≡ t → OrderBegan (call_at x row new r true).1 → any_busy r.line ≡ false
    go false q h = q
    go true q h = absurd ((subst (λ (w : Ran Ending). OrderBegan (verdict_of w.got w.steps)) (any_busy-refused x row new r q) h).0 refl)

-- held, as the run and as the caller are told
module _ (n : ℕ) where
  held_said : (g : Got Ending) → GotGood IsHeld g → Held (verdict_of g n)
  held_said (done (held p)) h = tt
  held_said (done (refusal k e)) h = absurd h
  held_said (done (refusal_at k e i)) h = absurd h
  held_said line_busy h = absurd h

  said_held : (g : Got Ending) → Held (verdict_of g n) → GotGood IsHeld g
  said_held (done (held p)) h = tt
  said_held (done (refusal k e)) h = absurd h
  said_held (done (refusal_at k e i)) h = absurd h
  said_held line_busy h = absurd h

-- an ending with its steps
outcome_of : (new : List ℕ) (lets : Bool) (found : List ℕ) (n : ℕ) (g : Got Ending) (a : Ending) → g ≡ done a → Placed new lets found a → GotAt Takes n g → Outcome new lets found (verdict_of g n)
outcome_of new lets found n g a q p t = subst (λ h. Outcome new lets found (verdict_of h n)) (sym q) (go a p (subst (GotAt Takes n) q t))
  where
    go : (a : Ending) → Placed new lets found a → Takes n a → Outcome new lets found (verdict_of (done a) n)
    go (held programmed) p t = (t, p)
    go (refusal k e) p t = absurd p
    go (refusal_at k e i) p (inl t) = (p.0, inl t)
    go (refusal_at k e i) p (inr t) = (p.0, inr (t.0, t.1, t.2, p.1 t.0))

module _ (x row : ℕ) (new : List ℕ) (hx : x < 2 ^ 64) (al : row % 8 ≡ 0) (hr : row < 65536) (len : length new ≡ 8) (small : Bytes new) where
  module _ (r : RigState) (s : SoundAll r.line) (b : any_busy r.line ≡ false) (o : Single x r.line) where
    abbrev went : Ran Ending
    went = run 0 (ordering x row new) r

    abbrev freely : Ran Ending
    freely = run 0 (ordering x row new) (free r.line)

    ends : powered_in x r.line ≡ true → Ends (ordering x row new) r.line x row new (bytes_with x r.line) (lets_copy x row r.line)
    ends u =
        let parts = sound_mid o.before o.behind o.tag (subst SoundAll o.so s) in
        let t = padding x o.tag o.is (powered_one x o.before o.behind o.tag o.none_before o.none_behind (ap (powered_in x) (sym o.so) ∙ u)) o.pad in
        subst (λ l. Ends (ordering x row new) l x row new (bytes_with x l) (lets_copy x row l)) (sym o.so)
        (subst (λ m. Ends (ordering x row new) (o.before ++ (o.tag ∷ o.behind)) x row new m (lets_copy x row (o.before ++ (o.tag ∷ o.behind)))) (sym (bytes_mid x o.before o.behind o.tag o.none_before o.is))
        (subst (Ends (ordering x row new) (o.before ++ (o.tag ∷ o.behind)) x row new (bytes_of o.tag)) (sym (lets_mid x row o.before o.behind o.tag o.none_before o.is))
        (subst (λ c. SoundMemory c.memory → any_busy (o.before ++ (c ∷ o.behind)) ≡ false → Ends (ordering x row new) (o.before ++ (c ∷ o.behind)) x row new (bytes_of c) (may_copy (kind_in c.memory) (bytes_of c) row)) (sym t.so)
        (λ m q. order_ends x row new hx al hr len small o.before o.behind o.none_before o.none_behind (sound_wide o.before parts.0) (sound_wide o.behind parts.2) t.pad.rules m.lawful t.pad.bytes m.whole m.small t.pad.work m.work.regs.whole t.rc t.phase q)
        parts.1.memory (ap any_busy (sym o.so) ∙ b))))

    -- where the tag kept power, the run is the one without a fuse
    as-free : Kept x row new r → (e : Ends (ordering x row new) r.line x row new (bytes_with x r.line) (lets_copy x row r.line))
        → (went.got ≡ done e.answer) × (row_in (bytes_with x went.rig.line) row ≡ row_in (bytes_with x e.line) row)
    as-free k e =
        let f = kept_free x 0 (ordering x row new) r.line r.fuse k.1 in
        let same = (e.so.so 0).1 in
        (f.got ∙ ap (λ w. w.got) same, ap (λ l. row_in (bytes_with x l) row) (f.line ∙ ap (λ w. w.rig.line) same))

    kept : Kept x row new r → GotGood IsHeld went.got ↔ (new ≡ row_in (bytes_with x went.rig.line) row)
    kept k =
        let e = ends k.0 in
        let w = as-free k e in (
          λ h. e.right (subst (GotGood IsHeld) w.0 h) ∙ sym w.1,
          λ h. subst (GotGood IsHeld) (sym w.0) (e.left (h ∙ w.1)),
        )

    -- a row that has the ordered bytes already
    as_is : Kept x row new r → new ≡ row_in (bytes_with x r.line) row → GotGood IsHeld went.got
    as_is k u =
        let e = ends k.0 in
        subst (GotGood IsHeld) (sym (as-free k e).0) (e.left (e.same u))

    outcome : Kept x row new r → Outcome new (lets_copy x row r.line) (row_in (bytes_with x went.rig.line) row) (verdict_of went.got went.steps)
    outcome k =
        let e = ends k.0 in
        let w = as-free k e in
        outcome_of new (lets_copy x row r.line) (row_in (bytes_with x went.rig.line) row) went.steps went.got e.answer w.0
        (subst (λ f. Placed new (lets_copy x row r.line) f e.answer) (sym w.1) e.placed) (counts r x row new len)

    -- what F0h gives then
    given : (finding 4 x row went.rig.line).got ≡ done (good (row_in (bytes_with x went.rig.line) row))
    given =
        let left = one_run x 0 (ordering x row new) r (s, o) in
        let t = left.1 in
        told_row 4 x row hx hr went.rig.line left.0 (freed_run Anyhow 0 (ordering x row new) r.line r.fuse (freed_anyhow x row new al r.line b)) t
        ∙ ap (λ m. done (good (row_in m row))) (sym (ap (bytes_with x) t.so ∙ bytes_mid x t.before t.behind t.tag t.none_before t.is))

    lacked : (Kept x row new r → ⊥) → GotGood IsHeld went.got → ⊥
    lacked never h = go (powered_in x r.line) refl
      where
        go : (t : Bool) → powered_in x r.line ≡ t → ⊥
        go true u = never (u, good_kept IsHeld x 0 (ordering x row new) r.line r.fuse (order_wary x row new) u h)
        go false u =
            let gone = absent x row new hx r.line (sound_wide r.line s) b u in
            subst (GotGood IsHeld) ((good_free IsHeld 0 (ordering x row new) r.line r.fuse (order_wary x row new) h).got ∙ ap (λ w. w.got) (gone.so.so 0).1) h

    tells : Tells x row new r
    tells = record {
      found = ap (λ (q : RigState). (finding 4 x row q.line).got) called.0 ∙ given ∙ ap (λ f. done (good f)) found;
      kept = λ k. let t = kept k in (
        λ h. t.0 (said_held went.steps went.got (subst Held called.1 h)) ∙ found,
        λ h. subst Held (sym called.1) (held_said went.steps went.got (t.1 (h ∙ sym found))),
      );
      as_is = λ k u. subst Held (sym called.1) (held_said went.steps went.got (as_is k u));
      outcome = λ k. subst (λ f. Outcome new (lets_copy x row r.line) f (order_call x row new r).1) found (subst (Outcome new (lets_copy x row r.line) (row_in (bytes_with x went.rig.line) row)) (sym called.1) (outcome k));
      lacked = λ never h. lacked never (said_held went.steps went.got (subst Held called.1 h));
    }
      where
        called : ((order_call x row new r).0 ≡ (run 0 (ordering x row new) r).rig) × ((order_call x row new r).1 ≡ verdict_of (run 0 (ordering x row new) r).got (run 0 (ordering x row new) r).steps)
        called = (ap (λ t. (call_at x row new r t).0) (eq-eqb (row % 8) 0 al), ap (λ t. (call_at x row new r t).1) (eq-eqb (row % 8) 0 al))

        found : row_in (bytes_with x (run 0 (ordering x row new) r).rig.line) row ≡ row_in (bytes_with x (order_call x row new r).0.line) row
        found = ap (λ (q : RigState). row_in (bytes_with x q.line) row) (sym called.0)

pub order-tells : OrderTells
order-tells r x row new met hx hr len small b o =
    let e = began_row x row new r b in
    tells x row new hx (eqb-true (row % 8) 0 e) hr len small r (met_sounds r.line met) (began_free x row new r e b) o

pub began_leaves_free : BeganLeavesFree
began_leaves_free r x row new b = leaves_free r x row new (began_free x row new r (began_row x row new r b) b)

-- The passes of the model, one by one.
use Rattle.std.proofs.Common.{◌≡◌, ℕ, zero, suc, ◌+◌, ◌-◌, ◌*◌, ◌/◌, ◌%◌, ◌<◌, Bool, true, false, cond, not, ◌&&◌, eqb, List, [], ◌∷◌, ◌++◌, length, take, drop, set, Some, None, Ok, Err, Option, Result, sym, refl, ap, ◌∙◌, subst, ap₂, add-one, arith, drop-drop, take-suc-set, drop-set-lt}
use mathlib.Core.Path.{fun_ext}
use Rattle.base.specs.Bits.{bit, bits_of, value, odd}
use Rattle.line.specs.Lines.{any_busy}
use Rattle.rig.specs.Rigs.{reset_pulse, slot_pulse, pulse, counted}
use Rattle.wire.specs.Jobs.{Job, ret, step, Ran, done, line_busy, run}
use Rattle.wire.specs.Jobs.{send_bytes, good, bad}
use Rattle.rom_search.specs.Searches.{triples, NextPath, no_path, next_path, onward, chosen, tail_of, head_from, passes}
use Rattle.wire.proofs.Bind.{bind}
use Rattle.rig.specs.RigModel.{Counting, counted_pulse, steps_made}
use Rattle.rig.specs.declared.rig_fault.RigFault.{RigFault}
use Rattle.rig.specs.declared.rig_fault.RigFault.TheVariants.{LineBusy}
use Rattle.wire.specs.Outcomes.{does, sends, keep, onward as onward_by, onwards}
use Rattle.wire.specs.declared.exchange_fault.ExchangeError.TheVariants.{NoPresence}
use Rattle.wire.specs.declared.exchange_fault.ExchangeFault.{ExchangeFault}
use Rattle.wire.specs.declared.exchange_fault.ExchangeFault.TheVariants.{Rig, Failed}
use Rattle.wire.specs.Exchanges.{error_code}
use Rattle.wire.proofs.Tallies.{Carried, pulse_carried, does_carried}
use Rattle.wire.proofs.Follows.{past, run_step, run-send, run_part}
use Rattle.rom_search.specs.declared.search_fault.SearchFault.TheVariants.{Full, Exchange as InExchange}
use Rattle.rom_search.specs.Triplets.{path_word, triplets_along}
use Rattle.rom_search.specs.Passes.{pass_told, pass_found}
use Rattle.rom_search.specs.declared.triplets.Pass.{Pass}
use Rattle.rom_search.proofs.Words.{passed}
use Rattle.rom_search.specs.SearchOutcomes.{Searched}
use Rattle.rom_search.proofs.Following.{Fits, fits_more}
use Rattle.rom_search.proofs.Complete.{Out, going}
use Rattle.rom_search.proofs.Unrefused.{busy_first}

module _ {B : Type 0} (lost : Job B) (K : Option Pass → Job B) (h0 : K None ≡ lost) where
  forked : (s t : Bool) (q : Job (Option Pass)) (q' : Job B) → bind q K ≡ q'
      → bind (elim s as (λ _. Job (Option Pass)) [ true ↦ ret None | false ↦ step (slot_pulse t) (λ _. q) ]) K ≡ (elim s as (λ _. Job B) [ true ↦ lost | false ↦ step (slot_pulse t) (λ _. q') ])
  forked true t q q' e = h0
  forked false t q q' e = ap (λ p. step (slot_pulse t) (λ _. p)) e

  triples_bind : (n : ℕ) (path : List Bool) (f : List Bool → NextPath → Option Pass) (k : List Bool → NextPath → Job B)
      → ((bs : List Bool) (nx : NextPath) → length bs ≡ n → Fits n nx → K (f bs nx) ≡ k bs nx)
      → bind (triples (ret None) n path (λ bs nx. ret (f bs nx))) K ≡ triples lost n path k
  triples_bind zero path f k h = h [] no_path refl tt
  triples_bind (suc n) path f k h =
      ap (step (slot_pulse true)) (fun_ext (λ a. ap (step (slot_pulse true)) (fun_ext (λ b.
      forked (a && b) (chosen a b path)
      (triples (ret None) n (tail_of path) (λ bs nx. ret (f ((chosen a b path) ∷ bs) (onward (not a && not b && not (chosen a b path)) (chosen a b path) nx))))
      (triples lost n (tail_of path) (λ bs nx. k ((chosen a b path) ∷ bs) (onward (not a && not b && not (chosen a b path)) (chosen a b path) nx)))
      (triples_bind n (tail_of path) (λ bs nx. f ((chosen a b path) ∷ bs) (onward (not a && not b && not (chosen a b path)) (chosen a b path) nx)) (λ bs nx. k ((chosen a b path) ∷ bs) (onward (not a && not b && not (chosen a b path)) (chosen a b path) nx))
      (λ bs nx e g. h ((chosen a b path) ∷ bs) (onward (not a && not b && not (chosen a b path)) (chosen a b path) nx) (ap suc e) (fits_more n (not a && not b && not (chosen a b path)) (chosen a b path) nx g)))))))

module _ {B : Type 0} (lost : Job B) where
  heads : (a b : Bool) (p q : List Bool) → head_from p ≡ head_from q → chosen a b p ≡ chosen a b q
  heads true b p q e = refl
  heads false true p q e = refl
  heads false false p q e = e

  same_path : (n : ℕ) (p q : List Bool) (k : List Bool → NextPath → Job B) → head_from p ≡ head_from q
      → ((k' : List Bool → NextPath → Job B) → triples lost n (tail_of p) k' ≡ triples lost n (tail_of q) k') → triples lost (suc n) p k ≡ triples lost (suc n) q k
  same_path n p q k e ih = ap (step (slot_pulse true)) (fun_ext (λ a. ap (step (slot_pulse true)) (fun_ext (λ b.
      ap (λ t. elim (a && b) as (λ _. Job B) [ true ↦ lost | false ↦ step (slot_pulse t) (λ _. triples lost n (tail_of p) (λ bs nx. k (t ∷ bs) (onward (not a && not b && not t) t nx))) ]) (heads a b p q e)
      ∙ ap (λ x. elim (a && b) as (λ _. Job B) [ true ↦ lost | false ↦ step (slot_pulse (chosen a b q)) (λ _. x) ])
      (ih (λ bs nx. k (chosen a b q ∷ bs) (onward (not a && not b && not (chosen a b q)) (chosen a b q) nx)))))))

  odd-bit : (b : Bool) (v : ℕ) → odd (bit b + 2 * v) ≡ b
  odd-bit true v = ap (λ m. eqb m 1) (let e : (1 + 2 * v) % 2 ≡ 1 = omega arith in e)
  odd-bit false v = ap (λ m. eqb m 1) (let e : (0 + 2 * v) % 2 ≡ 0 = omega arith in e)

  half_bit : (b : Bool) (v : ℕ) → (bit b + 2 * v) / 2 ≡ v
  half_bit true v = omega arith
  half_bit false v = omega arith

  triples_path : (n : ℕ) (ps : List Bool) (k : List Bool → NextPath → Job B) → triples lost n ps k ≡ triples lost n (bits_of n (value ps)) k
  triples_path zero ps k = refl
  triples_path (suc n) [] k = same_path n [] (bits_of (suc n) 0) k refl (λ k'. triples_path n [] k')
  triples_path (suc n) (b ∷ bs) k =
      same_path n (b ∷ bs) (bits_of (suc n) (value (b ∷ bs))) k (sym (odd-bit b (value bs)))
      (λ k'. triples_path n bs k' ∙ ap (λ v. triples lost n (bits_of n v) k') (sym (half_bit b (value bs))))

-- what a pass does with what it met
abbrev pub after : ℕ → ℕ → List ℕ → Option ℕ → Job Out
after n e found None = ret (good e, found)
after n e found (Some w) = passes n (suc e) (bits_of 64 w) found

abbrev pub onto : ℕ → ℕ → List ℕ → Option Pass → Job Out
onto n e found None = ret (bad 6 e, found)
onto n e found (Some p) = after n e (found ++ (p.number ∷ [])) p.next

abbrev framed : ℕ → List ℕ → Job Out → Job Out
framed e found t = step reset_pulse (λ p. elim p as (λ _. Job Out) [ false ↦ ret (bad 5 e, found) | true ↦ send_bytes (0xF0 ∷ []) t ])

pub path_any : (n e : ℕ) (q : List Bool) (found : List ℕ) → passes n e q found ≡ passes n e (bits_of 64 (value q)) found
path_any zero e q found = refl
path_any (suc n) e q found = ap (framed e found) (triples_path (ret (bad 6 e, found)) 64 q (going n e found))

pass_tree : (n e w : ℕ) (found : List ℕ) → passes (suc n) e (bits_of 64 w) found ≡ framed e found (bind (triplets_along w) (onto n e found))
unfolding triplets_along
pass_tree n e w found =
    ap (framed e found) (sym (triples_bind (ret (bad 6 e, found)) (onto n e found) refl 64 (bits_of 64 w) (λ bs nx. Some (passed (value bs) (path_word nx))) (going n e found) ends))
  where
    ends : (bs : List Bool) (nx : NextPath) → length bs ≡ 64 → Fits 64 nx → onto n e found (Some (passed (value bs) (path_word nx))) ≡ going n e found bs nx
    ends bs no_path l f = refl
    ends bs (next_path q) l f = sym (path_any n (suc e) q (found ++ (value bs ∷ [])))

-- a pass once its reset is made, and once a chip was present
abbrev after_sent : ℕ → ℕ → Counting → Counting × Result Pass ExchangeFault
after_sent w e s = onward_by Rig (does (sends (0xF0 ∷ [])) s) (λ _ s. onward_by Rig (does (triplets_along w) s) (λ o s. pass_found e o s))

abbrev reset : ℕ → ℕ → Bool → Counting → Counting × Result Pass ExchangeFault
reset w e present s = cond present (after_sent w e s) (s, Err (Failed NoPresence e s.steps))

pass_as : (w e : ℕ) (d : Counting) → pass_told w e d ≡ onward_by Rig (counted_pulse reset_pulse d) (λ b s. reset w e b s)
pass_as w e d = go (counted_pulse reset_pulse d).0 (counted_pulse reset_pulse d).1
  where
    go : (s : Counting) (r : Result Bool RigFault)
        → onward_by keep (onwards Rig s r (λ b s. (s, cond b (Ok (tt {0})) (Err (Failed NoPresence e s.steps))))) (λ _ s. after_sent w e s) ≡ onwards Rig s r (λ b s. reset w e b s)
    go s (Ok true) = refl
    go s (Ok false) = refl
    go s (Err x) = refl

module _ (n e w : ℕ) (found : List ℕ) where
  abbrev pub follow_pass : Counting → Result Pass ExchangeFault → Ran Out
  follow_pass d (Ok p) = run d.steps (onto n e found (Some p)) d.rig
  follow_pass d (Err (Rig (LineBusy s))) = record { rig = d.rig; steps = s; got = line_busy }
  follow_pass d (Err (Failed error x s)) = record { rig = d.rig; steps = s; got = done (bad (error_code error) x, found) }

  on_past : {C : Type 0} (d : Counting) (r : Result C RigFault) (f : C → Counting → Ran Out) (rest : C → Counting → Counting × Result Pass ExchangeFault)
      → ((c : C) (s : Counting) → f c s ≡ follow_pass (rest c s).0 (rest c s).1) → past d r f ≡ follow_pass (onwards Rig d r rest).0 (onwards Rig d r rest).1
  on_past d (Ok c) f rest h = h c d
  on_past d (Err (LineBusy s)) f rest h = refl

  pub run_pass : (d : Counting) → run d.steps (passes (suc n) e (bits_of 64 w) found) d.rig ≡ follow_pass (pass_told w e d).0 (pass_told w e d).1
  run_pass d =
      ap (λ p. run d.steps p d.rig) (pass_tree n e w found)
      ∙ run_step reset_pulse opened d
      ∙ on_past (counted_pulse reset_pulse d).0 (counted_pulse reset_pulse d).1 (λ b s. run s.steps (opened b) s.rig) (λ b s. reset w e b s) each
      ∙ ap (λ t. follow_pass t.0 t.1) (sym (pass_as w e d))
    where
      opened : Bool → Job Out
      opened b = elim b [ false ↦ ret (bad 5 e, found) | true ↦ send_bytes (0xF0 ∷ []) (bind (triplets_along w) (onto n e found)) ]

      last : (o : Option Pass) (s : Counting) → run s.steps (onto n e found o) s.rig ≡ follow_pass (pass_found e o s).0 (pass_found e o s).1
      last None s = refl
      last (Some p) s = refl

      each : (b : Bool) (s : Counting) → run s.steps (opened b) s.rig ≡ follow_pass (reset w e b s).0 (reset w e b s).1
      each false s = refl
      each true s =
          run-send (0xF0 ∷ []) (bind (triplets_along w) (onto n e found)) s
          ∙ on_past (does (sends (0xF0 ∷ [])) s).0 (does (sends (0xF0 ∷ [])) s).1 (λ _ s. run s.steps (bind (triplets_along w) (onto n e found)) s.rig) (λ _ s. onward_by Rig (does (triplets_along w) s) (λ o s. pass_found e o s))
          (λ _ s. run_part (triplets_along w) (onto n e found) s ∙ on_past (does (triplets_along w) s).0 (does (triplets_along w) s).1 (λ o s. run s.steps (onto n e found o) s.rig) (λ o s. pass_found e o s) last)

-- a fault of a pass carries the pass's number, and the steps that the rig has counted
abbrev Numbered : ℕ → Counting × Result Pass ExchangeFault → Type 0
Numbered e (d, Ok p) = Unit {0}
Numbered e (d, Err (Rig x)) = steps_made x ≡ d.steps
Numbered e (d, Err (Failed error x s)) = (x ≡ e) × (s ≡ d.steps)

numbered : (w e : ℕ) (d : Counting) → Numbered e (pass_told w e d)
numbered w e d = subst (Numbered e) (sym (pass_as w e d)) (first (counted_pulse reset_pulse d).0 (counted_pulse reset_pulse d).1 (pulse_carried reset_pulse d))
  where
    last : (o : Option Pass) (s : Counting) → Numbered e (pass_found e o s)
    last None s = (refl, refl)
    last (Some p) s = tt

    third : (s : Counting) (r : Result (Option Pass) RigFault) → Carried s r → Numbered e (onwards Rig s r (λ o s. pass_found e o s))
    third s (Ok o) c = last o s
    third s (Err x) c = c

    second : (s : Counting) (r : Result (Unit {0}) RigFault) → Carried s r → Numbered e (onwards Rig s r (λ _ s. onward_by Rig (does (triplets_along w) s) (λ o s. pass_found e o s)))
    second s (Ok u) c = third (does (triplets_along w) s).0 (does (triplets_along w) s).1 (does_carried (triplets_along w) s)
    second s (Err x) c = c

    opened : (b : Bool) (s : Counting) → Numbered e (reset w e b s)
    opened true s = second (does (sends (0xF0 ∷ [])) s).0 (does (sends (0xF0 ∷ [])) s).1 (does_carried (sends (0xF0 ∷ [])) s)
    opened false s = (refl, refl)

    first : (s : Counting) (r : Result Bool RigFault) → Carried s r → Numbered e (onwards Rig s r (λ b s. reset w e b s))
    first s (Ok b) c = opened b s
    first s (Err x) c = c

-- the loop: what is left from here is the whole from the start
abbrev pub Left : ℕ → Counting → ℕ → Counting → ℕ → List ℕ → ℕ → Type 0
Left room d0 i d w l n = run d.steps (passes n (i + 1) (bits_of 64 w) (take i l)) d.rig ≡ run d0.steps (passes room 1 [] []) d0.rig

pub left_start : (room : ℕ) (d : Counting) (l : List ℕ) → Left room d 0 d 0 l room
left_start room d l = ap (λ p. run d.steps p d.rig) (sym (path_any room 1 [] []))

-- a line that was busy at first lets no pass be made
abbrev pub Untouched : Counting → Counting → List ℕ → List ℕ → Type 0
Untouched d0 d l0 l = any_busy d0.rig.line ≡ true → (d ≡ d0) × (l ≡ l0)

busy_pass : (w e : ℕ) (d : Counting) → any_busy d.rig.line ≡ true → (pass_told w e d).1 ≡ Err (Rig (LineBusy d.steps))
busy_pass w e d b =
    ap (λ t. t.1) (pass_as w e d)
    ∙ ap (λ t. (onward_by Rig (elim t as (λ _. Counting × Result Bool RigFault) [ true ↦ (d, Err (LineBusy d.steps)) | false ↦ (record { rig = (pulse reset_pulse d.rig).0; steps = counted d.steps }, Ok (pulse reset_pulse d.rig).1) ]) (λ b s. reset w e b s)).1) b

pub untouched_more : (w e : ℕ) (d0 d d' : Counting) (p : Pass) (l0 l l' : List ℕ) → Untouched d0 d l0 l → (d', Ok p) ≡ pass_told w e d → Untouched d0 d' l0 l'
untouched_more w e d0 d d' p l0 l l' u q b =
    let h : any_busy d.rig.line ≡ true = ap (λ d. any_busy d.rig.line) (u b).0 ∙ b in
    let z : ◌≡◌ {A = Result Pass ExchangeFault} (Ok p) (Err (Rig (LineBusy d.steps))) = ap (λ t. t.1) q ∙ busy_pass w e d h in
    let y : ◌≡◌ {A = ℕ} 0 1 = cc in absurd (omega arith)

module _ (room : ℕ) (d0 : Counting) (i n w : ℕ) (d : Counting) (l l0 : List ℕ) (inv : Left room d0 i d w l (suc n)) where
  passed_by : {d' : Counting} {r : Result Pass ExchangeFault} → (d', r) ≡ pass_told w (i + 1) d → run d0.steps (passes room 1 [] []) d0.rig ≡ follow_pass n (i + 1) w (take i l) d' r
  passed_by e = sym inv ∙ run_pass n (i + 1) w (take i l) d ∙ ap (λ s. follow_pass n (i + 1) w (take i l) s.0 s.1) (sym e)

  module _ {d' : Counting} {p : Pass} (e : (d', Ok p) ≡ pass_told w (i + 1) d) (lt : i < length l) where
    seen : take (i + 1) (set l i p.number) ≡ take i l ++ (p.number ∷ [])
    seen = ap (λ k. take k (set l i p.number)) (add-one i) ∙ take-suc-set l i p.number lt

    pub left_more : {next : ℕ} → p.next ≡ Some next → Left room d0 (i + 1) d' next (set l i p.number) n
    left_more {next} h =
        sym (passed_by e ∙ ap (λ o. run d'.steps (after n (i + 1) (take i l ++ (p.number ∷ [])) o) d'.rig) h
        ∙ ap₂ (λ k f. run d'.steps (passes n k (bits_of 64 next) f) d'.rig) (sym (add-one (i + 1))) (sym seen))

    pub later_more : drop i l ≡ drop i l0 → drop (i + 1) (set l i p.number) ≡ drop (i + 1) l0
    later_more h = drop-set-lt (i + 1) l i p.number (omega arith) ∙ sym (drop-drop 1 i l) ∙ ap (drop 1) h ∙ drop-drop 1 i l0

    pub left_last : (s : ℕ) → s ≡ d'.steps → p.next ≡ None → drop i l ≡ drop i l0 → Searched room d0 d' l0 (set l i p.number) (Ok (i + 1, s))
    left_last s z h k = record {
      so = ap₂ (λ s f. record { rig = d'.rig; steps = s; got = done (good (i + 1), f) }) z seen
          ∙ sym (passed_by e ∙ ap (λ o. run d'.steps (after n (i + 1) (take i l ++ (p.number ∷ [])) o) d'.rig) h);
      later = later_more k;
      begun = tt;
      counts = z;
    }

  pub left_fails : {d' : Counting} (f : ExchangeFault) → (d', Err f) ≡ pass_told w (i + 1) d → drop i l ≡ drop i l0 → Untouched d0 d l0 l → Searched room d0 d' l0 l (Err (InExchange f))
  left_fails (Rig (LineBusy s)) e k u = record {
    so = sym (passed_by e);
    later = (u (busy_first d0.steps room 1 [] [] d0.rig (ap (λ t. t.got) (passed_by e)))).1;
    begun = tt;
    counts = subst (Numbered (i + 1)) (sym e) (numbered w (i + 1) d);
  }
  left_fails {d'} (Failed error x s) e k u =
      let own : (x ≡ i + 1) × (s ≡ d'.steps) = subst (Numbered (i + 1)) (sym e) (numbered w (i + 1) d) in
      let num : x ≡ i + 1 = own.0 in
      let back : x - 1 ≡ i = omega arith in
      record {
        so = ap (λ j. record { rig = d'.rig; steps = s; got = done (bad (error_code error) x, take j l) }) back ∙ sym (passed_by e);
        later = subst (λ j. drop j l ≡ drop j l0) (sym back) k;
        begun = tt;
        counts = own.1;
      }

pub left_full : (room : ℕ) (d0 : Counting) (i w : ℕ) (d : Counting) (l l0 : List ℕ) (s : ℕ) → i ≡ room → s ≡ d.steps → Left room d0 i d w l 0 → drop i l ≡ drop i l0 → Searched room d0 d l0 l (Err (Full room s))
left_full room d0 i w d l l0 s e z inv k = record {
  so = ap₂ (λ s j. record { rig = d.rig; steps = s; got = done (bad 9 j, take j l) }) z (sym e)
      ∙ ap (λ j. record { rig = d.rig; steps = d.steps; got = done (bad 9 j, take i l) }) (let q : i ≡ i + 1 - 1 = omega arith in q) ∙ inv;
  later = subst (λ j. drop j l ≡ drop j l0) e k;
  begun = tt;
  counts = z;
}

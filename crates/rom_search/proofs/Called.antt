-- The public search against the model's call.
use Rattle.std.proofs.Common.{◌≡◌, ℕ, Bool, true, false, List, [], Ok, Err, Result, sym, refl, ap, ◌∙◌, subst, eq-eqb, ne_eqb}
use Rattle.line.specs.Lines.{any_busy}
use Rattle.rig.specs.Rigs.{RigState}
use Rattle.wire.proofs.Calm.{Ended, unrefused_run}
use Rattle.wire.specs.Jobs.{Ran, run, Report, refused_as}
use Rattle.wire.specs.Jobs.{Said}
use Rattle.rom_search.specs.Searches.{passes, room_of, listed, search_call}
use Rattle.rig.specs.RigModel.{Counting}
use Rattle.rig.specs.declared.rig_fault.RigFault.TheVariants.{LineBusy}
use Rattle.wire.specs.declared.exchange_fault.ExchangeFault.TheVariants.{Rig, Failed}
use Rattle.rom_search.specs.declared.search_fault.SearchFault.{SearchFault}
use Rattle.rom_search.specs.declared.search_fault.SearchFault.TheVariants.{NoPlace, Full, Exchange as InExchange}
use Rattle.rom_search.specs.SearchOutcomes.{Searched, PlaceGiven, search_end, search_answer, search_count}
use Rattle.rom_search.proofs.Unrefused.{unrefused_passes}

abbrev pub told : Ran (Said ℕ × List ℕ) → RigState × (Report ℕ × List ℕ)
told w = (w.rig, listed w.got w.steps)

abbrev called_at : Bool → ℕ → RigState → RigState × (Report ℕ × List ℕ)
called_at t count r = elim t as (λ _. RigState × (Report ℕ × List ℕ)) [ true ↦ (r, (refused_as 9 0 0, [])) | false ↦ told (run 0 (passes (room_of count) 1 [] []) r) ]

said : (d : Counting) (r : Result (ℕ × ℕ) SearchFault) (l : List ℕ) → PlaceGiven r → told (search_end d r l) ≡ (d.rig, search_answer r l)
said d (Ok a) l b = refl
said d (Err NoPlace) l b = absurd b
said d (Err (Full p s)) l b = refl
said d (Err (InExchange (Rig (LineBusy s)))) l b = refl
said d (Err (InExchange (Failed error e s))) l b = refl

-- a search that began is not refused for want of a place
pub never_none : (r : Result (ℕ × ℕ) SearchFault) → PlaceGiven r → r ≡ Err NoPlace → ⊥
never_none r b e = subst PlaceGiven e b

pub none-refused : (count : ℕ) (r : RigState) (l : List ℕ) → count ≡ 0 → (r, search_answer (Err NoPlace) l) ≡ search_call count r
none-refused count r l e = sym (ap (λ t. called_at t count r) (eq-eqb count 0 e))

pub search_called : (count room : ℕ) (d d' : Counting) (l l' : List ℕ) (r : Result (ℕ × ℕ) SearchFault) → (count ≡ 0 → ⊥) → room ≡ room_of count → d.steps ≡ 0 → Searched room d d' l l' r
    → (d'.rig, search_answer r l') ≡ search_call count d.rig
search_called count room d d' l l' r n e z o =
    sym (said d' r l' o.begun) ∙ ap told (o.so ∙ ap (λ s. run s (passes room 1 [] []) d.rig) z ∙ ap (λ k. run 0 (passes k 1 [] []) d.rig) e)
    ∙ sym (ap (λ t. called_at t count d.rig) (ne_eqb count 0 n))

-- with a place it is the run of its passes
pub searched : (count : ℕ) (r : RigState) → (count ≡ 0 → ⊥) → search_call count r ≡ told (run 0 (passes (room_of count) 1 [] []) r)
searched count r n = ap (λ t. called_at t count r) (ne_eqb count 0 n)

-- what the rig has counted then; on a line that was not busy no pass is refused by the rig
pub counted_after : {room : ℕ} {d d' : Counting} {l l' : List ℕ} (r : Result (ℕ × ℕ) SearchFault) (n : ℕ) → any_busy d.rig.line ≡ false → Searched room d d' l l' r → d'.steps ≡ search_count n r
counted_after (Ok a) n b o = sym o.counts
counted_after (Err NoPlace) n b o = absurd o.begun
counted_after (Err (Full p s)) n b o = sym o.counts
counted_after {room} {d} (Err (InExchange (Rig (LineBusy s)))) n b o =
    absurd (subst Ended (sym (ap (λ w. w.got) o.so)) (unrefused_run d.steps (passes room 1 [] []) d.rig.line d.rig.fuse (unrefused_passes room 1 [] [] d.rig.line b)))
counted_after (Err (InExchange (Failed error e s))) n b o = sym o.counts

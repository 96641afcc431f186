-- A search that is lent no more places than it can fill.
use Rattle.std.proofs.Common.{◌≡◌, ◌↔◌, ℕ, zero, suc, ◌+◌, ◌-◌, min, Bool, true, false, eqb, List, [], ◌∷◌, ◌++◌, length, take, drop, Ok, Err, Result, sym, refl, ap, ◌∙◌, subst, ap₂, arith}
use Rattle.std.proofs.lemmas.List.{length-append, length-take, take-append-le}
use Rattle.std.proofs.lemmas.Bool.{eq-eqb, ne_eqb}
use Rattle.base.specs.Bits.{value, bits_of}
use Rattle.rig.specs.Rigs.{RigState}
use Rattle.wire.specs.Jobs.{ret, Got, done, line_busy, run, good, bad, Report, answered, refused_as}
use Rattle.wire.specs.declared.exchange_fault.ExchangeFault.TheVariants.{Rig, Failed}
use Rattle.wire.specs.declared.exchange_fault.ExchangeError.TheVariants.{NoPresence, Garbled}
use Rattle.wire.proofs.Calm.{Leaves, GotAll, leaves_run, leaves_send}
use Rattle.rom_search.specs.Searches.{NextPath, no_path, next_path, passes, most_places, room_of, search_call}
use Rattle.rom_search.specs.Searches.{listed as searched}
use Rattle.rom_search.specs.SearchOutcomes.{search_answer, Later}
use Rattle.rom_search.specs.declared.search_fault.SearchFault.{SearchFault}
use Rattle.rom_search.specs.declared.search_fault.SearchFault.TheVariants.{NoPlace, Full, Exchange as InExchange}
use Rattle.rom_search.proofs.Complete.{Out, going, seeks, after_reset}
use Rattle.rom_search.proofs.Unrefused.{leaves_triples}
use Rattle.history.specs.Calls.{rom_search, Reply, listed, serve}
use Rattle.history.specs.CallMeaning.{lists, form_of, form_asked}
use Rattle.history.specs.declared.calls.Answer.TheVariants.{Listed}
use Rattle.history.specs.declared.calls.Call.TheVariants.{Search}

-- a list is as long as its answer says: one number for each pass, and none for a pass that failed
abbrev Counts : ℕ → ℕ → List ℕ → Type 0
Counts k e xs = (k ≡ 9 → length xs ≡ e) × ((k ≡ 9 → ⊥) → length xs ≡ e - 1)

abbrev Sized : Out → Type 0
Sized (good n, xs) = length xs ≡ n
Sized (bad k e, xs) = Counts k e xs

failed_pass : (k pass : ℕ) (xs : List ℕ) → (k ≡ 9 → ⊥) → length xs ≡ pass → Counts k (suc pass) xs
failed_pass k pass xs n h = (λ e. absurd (n e), λ _. omega arith)

sized_passes : (room pass : ℕ) (path : List Bool) (got : List ℕ) → length got ≡ pass → Leaves Sized (passes room (suc pass) path got)
sized_passes zero pass path got h = (λ _. omega arith, λ n. absurd (n refl))
sized_passes (suc room) pass path got h = λ b. opened b (λ bs nx. on bs nx (λ p. sized_passes room (suc pass) p (got ++ (value bs ∷ [])) (more bs)))
  where
    more : (bs : List Bool) → length (got ++ (value bs ∷ [])) ≡ suc pass
    more bs = let e : length (got ++ (value bs ∷ [])) ≡ length got + 1 = length-append got (value bs ∷ []) in omega arith

    on : (bs : List Bool) (nx : NextPath) → ((p : List Bool) → Leaves Sized (passes room (suc (suc pass)) p (got ++ (value bs ∷ [])))) → Leaves Sized (going room (suc pass) got bs nx)
    on bs no_path ih = more bs
    on bs (next_path p) ih = ih p

    opened : (b : Bool) → ((bs : List Bool) (nx : NextPath) → Leaves Sized (going room (suc pass) got bs nx)) → Leaves Sized (after_reset room (suc pass) path got b)
    opened false g = failed_pass 5 pass got (λ e. omega arith) h
    opened true g =
        leaves_send Sized (bits_of 8 0xF0) (seeks room (suc pass) path got)
        (leaves_triples Sized (ret (bad 6 (suc pass), got)) (failed_pass 6 pass got (λ e. omega arith) h) 64 path (going room (suc pass) got) g)

-- the same of what the caller is told
abbrev Told : Report ℕ × List ℕ → Type 0
Told (answered n s, xs) = length xs ≡ n
Told (refused_as k e s, xs) = Counts k e xs

sized_told : (g : Got Out) (n : ℕ) → GotAll Sized g → Told (searched g n)
sized_told (done (good c, xs)) n h = h
sized_told (done (bad k e, xs)) n h = h
sized_told line_busy n h = (λ e. refl, λ _. refl)

abbrev called_at : Bool → ℕ → RigState → RigState × (Report ℕ × List ℕ)
called_at t room r =
    elim t as (λ _. RigState × (Report ℕ × List ℕ)) [
      | true ↦ (r, (refused_as 9 0 0, []))
      | false ↦ ((run 0 (passes room 1 [] []) r).rig, searched (run 0 (passes room 1 [] []) r).got (run 0 (passes room 1 [] []) r).steps)
    ]

sized_call : (places : ℕ) (r : RigState) → Told (search_call places r).1
sized_call places r = go (eqb places 0)
  where
    go : (t : Bool) → Told (called_at t (room_of places) r).1
    go true = (λ _. refl, λ _. refl)
    go false =
        sized_told (run 0 (passes (room_of places) 1 [] []) r).got (run 0 (passes (room_of places) 1 [] []) r).steps
        (leaves_run Sized 0 (passes (room_of places) 1 [] []) r (sized_passes (room_of places) 0 [] [] refl))

-- so its numbers are found in any list that begins with the lent places
front : (n : ℕ) (l x : List ℕ) → length (take n l) ≡ n → take n (l ++ x) ≡ take n l
front n l x h = let m = length-take n l in take-append-le n l x (omega arith)

longer : (r : Result (ℕ × ℕ) SearchFault) (l x : List ℕ) → Told (search_answer r l) → search_answer r (l ++ x) ≡ search_answer r l
longer (Ok a) l x h = ap (λ xs. (answered a.0 a.1, xs)) (front a.0 l x h)
longer (Err NoPlace) l x h = refl
longer (Err (Full p s)) l x h = ap (λ xs. (refused_as 9 p s, xs)) (front p l x (h.0 refl))
longer (Err (InExchange (Rig f))) l x h = refl
longer (Err (InExchange (Failed NoPresence e s))) l x h = ap (λ xs. (refused_as 5 e s, xs)) (front (e - 1) l x (h.1 (λ q. omega arith)))
longer (Err (InExchange (Failed Garbled e s))) l x h = ap (λ xs. (refused_as 6 e s, xs)) (front (e - 1) l x (h.1 (λ q. omega arith)))

-- places beyond the most that are filled make no difference
room_same : (n : ℕ) → room_of (min n most_places) ≡ room_of n
room_same n = omega arith

none-same : (n : ℕ) → eqb (min n most_places) 0 ≡ eqb n 0
none-same zero = eq-eqb (min zero most_places) 0 (omega arith)
none-same (suc n) = ne_eqb (min (suc n) most_places) 0 (λ e. omega arith) ∙ sym (ne_eqb (suc n) 0 (λ e. omega arith))

call_same : (n : ℕ) (r : RigState) → search_call (min n most_places) r ≡ search_call n r
call_same n r = ap₂ (λ t room. called_at t room r) (none-same n) (room_same n)

-- a search that was lent the first places of a list: as many as were asked for, but no more than it can fill
pub lent_told : (places lent : ℕ) (r s : RigState) (outcome : Result (ℕ × ℕ) SearchFault) (l x : List ℕ) → lent ≡ min places most_places
    → ◌≡◌ {A = RigState × (Report ℕ × List ℕ)} (s, search_answer outcome l) (search_call lent r)
    → ◌≡◌ {A = RigState × Reply} (s, listed (search_answer outcome (l ++ x))) (serve (rom_search places) r)
lent_told places lent r s outcome l x e told =
    ap (λ a. (s, listed a)) (longer outcome l x (subst Told (sym (ap (λ (t : RigState × (Report ℕ × List ℕ)). t.1) told)) (sized_call lent r)))
    ∙ ap (λ (t : RigState × (Report ℕ × List ℕ)). (t.0, listed t.1)) (told ∙ ap (λ n. search_call n r) e ∙ call_same places r)

-- and behind them the list is as it was
drop_longer : (n : ℕ) (l m x : List ℕ) → length m ≡ length l → drop n m ≡ drop n l → drop n (m ++ x) ≡ drop n (l ++ x)
drop_longer zero l m x h e = ap (λ k. k ++ x) e
drop_longer (suc n) [] [] x h e = refl
drop_longer (suc n) [] (b ∷ bs) x h e = absurd (omega arith)
drop_longer (suc n) (a ∷ as') [] x h e = absurd (omega arith)
drop_longer (suc n) (a ∷ as') (b ∷ bs) x h e = drop_longer n as' bs x (omega arith) e

pub later_longer : (r : Result (ℕ × ℕ) SearchFault) (l m x : List ℕ) → length m ≡ length l → Later r l m → Later r (l ++ x) (m ++ x)
later_longer (Ok a) l m x h e = drop_longer a.0 l m x h e
later_longer (Err NoPlace) l m x h e = ap (λ k. k ++ x) e
later_longer (Err (Full p s)) l m x h e = drop_longer p l m x h e
later_longer (Err (InExchange (Rig f))) l m x h e = ap (λ k. k ++ x) e
later_longer (Err (InExchange (Failed error e s))) l m x h q = drop_longer (e - 1) l m x h q

-- it is told that it has no place exactly where it has none
listing : (r : Result (ℕ × ℕ) SearchFault) (l : List ℕ) → (r ≡ Err NoPlace → ⊥) → form_of (Listed r l) ≡ lists
listing (Ok a) l n = refl
listing (Err NoPlace) l n = absurd (n refl)
listing (Err (Full p s)) l n = refl
listing (Err (InExchange e)) l n = refl

pub lent_form : (places lent : ℕ) (r : Result (ℕ × ℕ) SearchFault) (l : List ℕ) → lent ≡ min places most_places
    → (r ≡ Err NoPlace) ↔ (lent ≡ 0) → form_of (Listed r l) ≡ form_asked (Search places)
lent_form zero lent r l e h = ap (λ o. form_of (Listed o l)) (h.1 (omega arith))
lent_form (suc n) lent r l e h = listing r l (λ q. let none = h.0 q in omega arith)

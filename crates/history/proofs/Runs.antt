-- Lists of calls.
use Rattle.std.proofs.Common.{◌≡◌, ℕ, ◌+◌, ◌<◌, List, [], ◌∷◌, ◌++◌, map, length, get_or, take, set, sym, refl, ap, ◌∙◌, subst, ap₂, arith}
use Rattle.std.proofs.lemmas.List.{take_more, take_more_set, map_push, length-take}
use Rattle.rig.specs.Rigs.{RigState}
use Rattle.history.specs.declared.calls.Call.{Call}
use Rattle.history.specs.declared.calls.Answer.{Answer}
use Rattle.history.specs.CallMeaning.{request_of, reply_of, form_of, form_asked, call_count, tally, Unfilled, AllUnfilled}
use Rattle.history.specs.Calls.{Reply, run_all, serve, serve_all}

-- one more of what is asked of the first
pub map_more : {C Q : Type 0} (ask : C → Q) (calls : List C) (i : ℕ) (d : C) → i < length calls
    → map ask (take (i + 1) calls) ≡ map ask (take i calls) ++ (ask (get_or calls i d) ∷ [])
map_more ask calls i d h = ap (map ask) (take_more calls i d h) ∙ map_push ask (take i calls) (get_or calls i d)

module _ {S Q A : Type 0} (f : Q → S → S × A) where
  -- one more at the end
  abbrev more : S × List A → Q → S × List A
  more s q = ((f q s.0).0, s.1 ++ ((f q s.0).1 ∷ []))

  -- one part, and then another
  pub run_append : (ps qs : List Q) (s : S)
      → run_all f (ps ++ qs) s ≡ ((run_all f qs (run_all f ps s).0).0, (run_all f ps s).1 ++ (run_all f qs (run_all f ps s).0).1)
  run_append [] qs s = refl
  run_append (p ∷ ps) qs s = ap (λ t. (t.0, (f p s).1 ∷ t.1)) (run_append ps qs (f p s).0)

  pub run_push : (qs : List Q) (q : Q) (s : S) → run_all f (qs ++ (q ∷ [])) s ≡ more (run_all f qs s) q
  run_push qs q s = run_append qs (q ∷ []) s

  -- one turn of a loop over what is asked: what has been answered so far, and one answer more
  pub turn : {C B : Type 0} (ask : C → Q) (say : B → A) (calls : List C) (answers : List B) (i : ℕ) (d : C) (a : B) (r s t : S)
      → i < length calls → i < length answers
      → ◌≡◌ {A = S × List A} (s, map say (take i answers)) (run_all f (map ask (take i calls)) r)
      → ◌≡◌ {A = S × A} (t, say a) (f (ask (get_or calls i d)) s)
      → ◌≡◌ {A = S × List A} (t, map say (take (i + 1) (set answers i a))) (run_all f (map ask (take (i + 1) calls)) r)
  turn ask say calls answers i d a r s t hc ha before one =
      ap (λ l. (t, l)) (ap (map say) (take_more_set answers i a ha) ∙ map_push say (take i answers) a)
      ∙ ap (λ (u : S × A). (u.0, map say (take i answers) ++ (u.1 ∷ []))) one
      ∙ ap (λ (u : S × List A). more u (ask (get_or calls i d))) before
      ∙ sym (run_push (map ask (take i calls)) (ask (get_or calls i d)) r)
      ∙ ap (λ l. run_all f l r) (sym (map_more ask calls i d hc))

-- the first n calls have been played
abbrev pub Played : RigState → ℕ → List Answer → List Call → RigState → Type 0
Played s n answers calls r = ◌≡◌ {A = RigState × List Reply} (s, map reply_of (take n answers)) (serve_all (map request_of (take n calls)) r)

-- and one more: the call q at place i
pub played_more : (calls : List Call) (answers : List Answer) (i : ℕ) (q : Call) (a : Answer) (r s t : RigState) → i < length calls → i < length answers
    → Played s i answers calls r → ◌≡◌ {A = RigState × Reply} (t, reply_of a) (serve (request_of q) s) → q ≡ get_or calls i q → Played t (i + 1) (set answers i a) calls r
played_more calls answers i q a r s t hc ha before one at = turn serve request_of reply_of calls answers i q a r s t hc ha before (one ∙ ap (λ c. serve (request_of c) s) at)

-- the answers so far have the forms of their calls, and so has one more
pub forms_more : (calls : List Call) (answers : List Answer) (i : ℕ) (q : Call) (a : Answer) → i < length calls → i < length answers
    → map form_of (take i answers) ≡ map form_asked (take i calls) → form_of a ≡ form_asked q → q ≡ get_or calls i q
    → map form_of (take (i + 1) (set answers i a)) ≡ map form_asked (take (i + 1) calls)
forms_more calls answers i q a hc ha before one at =
    ap (map form_of) (take_more_set answers i a ha) ∙ map_push form_of (take i answers) a
    ∙ ap₂ (λ fs x. fs ++ (x ∷ [])) before (one ∙ ap form_asked at)
    ∙ sym (map_more form_asked calls i q hc)

-- what the rig has counted after one call more
tally_push : (qs : List Call) (rs : List Answer) (q : Call) (a : Answer) (n : ℕ) → length qs ≡ length rs → tally (qs ++ (q ∷ [])) (rs ++ (a ∷ [])) n ≡ call_count q a (tally qs rs n)
tally_push [] [] q a n h = refl
tally_push [] (b ∷ bs) q a n h = absurd (omega arith)
tally_push (p ∷ ps) [] q a n h = absurd (omega arith)
tally_push (p ∷ ps) (b ∷ bs) q a n h = tally_push ps bs q a (call_count p b n) (omega arith)

pub tally_more : (calls : List Call) (answers : List Answer) (i : ℕ) (q : Call) (a : Answer) (n m t : ℕ) → i < length calls → i < length answers
    → m ≡ tally (take i calls) (take i answers) n → t ≡ call_count q a m → q ≡ get_or calls i q → t ≡ tally (take (i + 1) calls) (take (i + 1) (set answers i a)) n
tally_more calls answers i q a n m t hc ha before one at =
    let long : length (take i calls) ≡ length (take i answers) = omega (arith, length-take i calls, length-take i answers) in
    one ∙ ap (λ c. call_count c a m) at ∙ ap (call_count (get_or calls i q) a) before
    ∙ sym (tally_push (take i calls) (take i answers) (get_or calls i q) a n long)
    ∙ ap (λ cs. tally cs (take i answers ++ (a ∷ [])) n) (sym (take_more calls i q hc))
    ∙ ap (λ rs. tally (take (i + 1) calls) rs n) (sym (take_more_set answers i a ha))

-- and one more list whose other places are as they were lent
all_push : (rs : List Answer) (a : Answer) → AllUnfilled rs → Unfilled a → AllUnfilled (rs ++ (a ∷ []))
all_push [] a h u = (u, tt)
all_push (b ∷ bs) a h u = (h.0, all_push bs a h.1 u)

pub unfilled_more : (answers : List Answer) (i : ℕ) (a : Answer) → i < length answers → AllUnfilled (take i answers) → Unfilled a → AllUnfilled (take (i + 1) (set answers i a))
unfilled_more answers i a h before u = subst AllUnfilled (sym (take_more_set answers i a h)) (all_push (take i answers) a before u)

-- The three promises.
use Rattle.std.proofs.Common.{◌≡◌, ℕ, ◌+◌, ◌<◌, List, [], ◌∷◌, ◌++◌, map, length, get_or, take, sym, ap, subst}
use Rattle.chip.specs.Histories.{MetAll}
use Rattle.rig.specs.Rigs.{RigState, made_rig}
use Rattle.order.proofs.Truth.{order-tells}
use Rattle.history.specs.Calls.{Request, Reply, serve, serve_all}
use Rattle.history.specs.CallMeaning.{request_of}
use Rattle.history.specs.Promises.{after_all, VerdictIsTrue, VerdictTrue, VerdictsTrue, Promises}
use Rattle.history.specs.declared.calls.Answer.{Answer}
use Rattle.history.specs.declared.calls.Call.{Call}
use Rattle.history.proofs.Runs.{map_more, Played}
use Rattle.history.proofs.Stays.{met_stays}
use Rattle.history.proofs.Outlives.{protection_outlives}
use Rattle.history.proofs.Identity.{tag_is_its_bytes}

-- a history keeps chips such that the order's own law speaks of them
verdict_is_true : VerdictIsTrue
verdict_is_true l m qs x row new g b s = order-tells (after_all l qs) x row new (met_stays (made_rig l) qs m) g.0 g.2 g.3 g.4 b s

-- a list of calls with true verdicts, and one more
verdicts_push : (qs : List Request) (q : Request) (r : RigState) → VerdictsTrue qs r → VerdictTrue q (serve_all qs r).0 → VerdictsTrue (qs ++ (q ∷ [])) r
verdicts_push [] q r h g = (g, tt)
verdicts_push (p ∷ ps) q r h g = (h.0, verdicts_push ps q (serve p r).0 h.1 g)

pub verdicts_more : (calls : List Call) (answers : List Answer) (i : ℕ) (q : Call) (r s : RigState) → i < length calls
    → Played s i answers calls r → (MetAll r.line → VerdictsTrue (map request_of (take i calls)) r)
    → (MetAll s.line → VerdictTrue (request_of q) s) → q ≡ get_or calls i q → MetAll r.line → VerdictsTrue (map request_of (take (i + 1) calls)) r
verdicts_more calls answers i q r s h played before one at met =
    let qs = map request_of (take i calls) in
    let so = ap (λ (t : RigState × List Reply). t.0) played in
    subst (λ l. VerdictsTrue l r) (sym (map_more request_of calls i q h))
    (verdicts_push qs (request_of (get_or calls i q)) r (before met)
    (subst (VerdictTrue (request_of (get_or calls i q))) so
    (subst (λ c. VerdictTrue (request_of c) s) at (one (subst (λ (t : RigState). MetAll t.line) (sym so) (met_stays r qs met))))))

pub promises : Promises
promises = record { protection = protection_outlives; verdict = verdict_is_true; identity = tag_is_its_bytes }

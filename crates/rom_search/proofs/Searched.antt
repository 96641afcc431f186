-- The laws of a search.
use Rattle.std.proofs.Common.{min, ◌-◌, ◌≡◌, ℕ, zero, suc, ◌+◌, ◌<◌, ◌≤◌, Bool, true, false, not, ◌&&◌, eqb, ◌⊎◌, List, [], ◌∷◌, ◌++◌, map, length, take, sym, refl, ap, ◌∙◌, subst, inl, inr, arith}
use Rattle.std.proofs.lemmas.Bool.{cases_lt}
use Rattle.base.specs.Bits.{bits_of, value}
use Rattle.base.specs.Widths.{value_bits}
use Rattle.chip.specs.ChipStates.{ChipState, bytes_of, reset_chip}
use Rattle.base.proofs.Choice.{pick}
use Rattle.chip.proofs.Sound.{SoundAll, met_sounds}
use Rattle.line.specs.Lines.{any_busy}
use Rattle.rig.specs.Rigs.{RigState, FuseState, reset_pulse}
use Rattle.wire.specs.Jobs.{Job, ret, Got, done, line_busy, Ran, run, good, bad, Report, answered, refused_as, steps_in, send_bits}
use Rattle.wire.specs.Laws.{Uncut}
use Rattle.wire.proofs.Leading.{free, Leads, leads_step}
use Rattle.wire.proofs.Power.{on_step}
use Rattle.wire.proofs.Calm.{NoDwell, bytes_run, no_send, GotAll, leaves_run}
use Rattle.wire.proofs.Cuts.{CutSafe, GotIt, safe_run, uncut_free}
use Rattle.wire.proofs.Counts.{GotAt, leaves_at}
use Rattle.rom_search.proofs.Counted.{Takes, at-passes, room_most}
use Rattle.rom_search.specs.Searches.{NextPath, no_path, next_path, onward, tail_of, chosen, triples, passes, most_places, room_of, listed, search_call}
use Rattle.rom_search.specs.Laws.{numbers_on, In, Before, BeforeEach, Ordered, Sequence, Front, Lists, SearchComplete, BusyUnchanged, BytesStay, most_steps, SearchBound}
use Rattle.rom_search.proofs.Called.{told, searched}
use Rattle.rom_search.proofs.Enumerate.{Rests, is_nil, enum_none, from, after, next, some-next_path, pass_law, Uniform, Valid}
use Rattle.rom_search.proofs.Searchers.{here, Determined}
use Rattle.rom_search.proofs.Searchers.{In as InRests}
use Rattle.rom_search.proofs.Sequences.{BeforeAll, enum_ordered, enum_in, in_enum}
use Rattle.rom_search.proofs.Sequences.{Ordered as OrderedRests}
use Rattle.rom_search.proofs.Starts.{Named, named, listed_here, wide_listed, proper, uniform_here, presence_here, determined}
use Rattle.rom_search.proofs.Complete.{Out, going, seeks, after_reset, lists, fills}
use Rattle.rom_search.proofs.Fronts.{Within, Kept, safe, safe_none}
use Rattle.rom_search.proofs.Unrefused.{busy_first, NotRefused, never_three}

came_to : (p : Job Out) (l l' : List ChipState) (out : Out) → Leads p l (ret out) l' → (run 0 p (free l)).got ≡ done out
came_to p l l' out h = ap (λ (w : Ran Out). w.got) (h.so 0).1

-- those from a way on, of numbers with n bits
unfoldable from_on : ℕ → List Bool → Rests → Rests
from_on n path S = from n path S

on_ordered : (n : ℕ) (S : Rests) → OrderedRests (from_on n [] S)
unfolding from_on
on_ordered n S = enum_ordered n S

on_in : (n : ℕ) (y : List Bool) (S : Rests) → Uniform n S → InRests y (from_on n [] S) → InRests y S
unfolding from_on
on_in n y S u h = enum_in n y S u h

in_on : (n : ℕ) (y : List Bool) (S : Rests) → Uniform n S → InRests y S → InRests y (from_on n [] S)
unfolding from_on
in_on n y S u h = in_enum n y S u h

on_none : (n : ℕ) (S : Rests) → is_nil S ≡ true → from_on n [] S ≡ []
unfolding from_on
on_none n S e = enum_none n S e

on_some : (n : ℕ) (path : List Bool) (S : Rests) → Uniform n S → Valid n path S → 0 < length (from_on n path S)
unfolding from_on
on_some n path S u v = let q : length (from n path S) ≡ suc (length (after n (next n path S) S)) = ap length (pass_law n path S u v).first in omega arith

one_less : (t m : ℕ) → suc t ≡ 1 + m → t ≡ m
one_less t m e = omega arith

length_values : (L : Rests) → length (map value L) ≡ length L
length_values [] = refl
length_values (y ∷ L) = ap suc (length_values L)

one_and : (m n : ℕ) → m ≡ n → 1 + n ≡ suc m
one_and m n e = omega arith

some_by : (m n : ℕ) → m ≡ n → 0 < n → 0 < m
some_by m n e h = omega arith

-- a search along a path, with enough room and with too little
on_lists : (k : ℕ) (path : List Bool) (l : List ChipState) → any_busy l ≡ false → Valid 64 path (here l) → length (from_on 64 path (here l)) ≤ k
    → (run 0 (passes k 1 path []) (free l)).got ≡ done (good (length (from_on 64 path (here l))), map value (from_on 64 path (here l)))
unfolding from_on
on_lists k path l b v h =
    let w = lists k 1 path [] l b v h in
    let c : w.total ≡ length (from 64 path (here l)) = one_less w.total (length (from 64 path (here l))) w.counts in
    came_to (passes k 1 path []) l w.end (good w.total, map value (from 64 path (here l))) w.so ∙ ap (λ t. done (good t, map value (from 64 path (here l)))) c

on_fills : (k : ℕ) (path : List Bool) (l : List ChipState) → any_busy l ≡ false → Valid 64 path (here l) → k < length (from_on 64 path (here l))
    → (run 0 (passes k 1 path []) (free l)).got ≡ done (bad 9 k, map value (take k (from_on 64 path (here l))))
unfolding from_on
on_fills k path l b v h =
    let w = fills k 1 path [] l b v (omega arith) h in
    let c : w.total ≡ k = one_less w.total k w.counts in
    came_to (passes k 1 path []) l w.end (bad 9 w.total, map value (take k (from 64 path (here l)))) w.so ∙ ap (λ t. done (bad 9 t, map value (take k (from 64 path (here l))))) c

on_safe : (k : ℕ) (path : List Bool) (l : List ChipState) → any_busy l ≡ false → Valid 64 path (here l) → Determined 64 (here l) → CutSafe (Kept (map value (from_on 64 path (here l)))) (passes k 1 path []) l
unfolding from_on
on_safe k path l b v d =
    let n = length_values (from 64 path (here l)) in
    safe (map value (from 64 path (here l))) (some_by (length (map value (from 64 path (here l)))) (length (from 64 path (here l))) n (on_some 64 path (here l) (uniform_here l) v))
    k 1 path [] l b v d refl (one_and (length (map value (from 64 path (here l)))) (length (from 64 path (here l))) n)

-- the sequence of a line
abbrev sequence : List ChipState → List ℕ
sequence l = map value (from_on 64 [] (here l))

abbrev Proper : Rests → Type 0
Proper L = (y : List Bool) → InRests y L → bits_of 64 (value y) ≡ y

before_values : (y : List Bool) (L : Rests) → bits_of 64 (value y) ≡ y → Proper L → BeforeAll y L → BeforeEach (value y) (map value L)
before_values y [] e p h = tt
before_values y (z ∷ L) e p h =
    (subst (λ a. Before a (bits_of 64 (value z))) (sym e) (subst (Before y) (sym (p z (inl refl))) h.0), before_values y L e (λ w g. p w (inr g)) h.1)

ordered_values : (L : Rests) → Proper L → OrderedRests L → Ordered (map value L)
ordered_values [] p o = tt
ordered_values (y ∷ L) p o = (before_values y L (p y (inl refl)) (λ w g. p w (inr g)) o.0, ordered_values L (λ w g. p w (inr g)) o.1)

from_values : (x : ℕ) (L : Rests) → In x (map value L) → (y : List Bool) × InRests y L × (x ≡ value y)
from_values x [] h = absurd h
from_values x (y ∷ L) (inl e) = (y, inl refl, e)
from_values x (y ∷ L) (inr h) = let t = from_values x L h in (t.0, inr t.1, t.2)

to_values : (y : List Bool) (L : Rests) → InRests y L → In (value y) (map value L)
to_values y [] h = absurd h
to_values y (z ∷ L) (inl e) = inl (ap value e)
to_values y (z ∷ L) (inr h) = inr (to_values y L h)

sequence_of : (l : List ChipState) → SoundAll l → (L : Rests) → OrderedRests L → ((y : List Bool) → InRests y L → InRests y (here l)) → ((y : List Bool) → InRests y (here l) → InRests y L) → Sequence l (map value L)
sequence_of l s L o into onto = record {
  ordered = ordered_values L (λ y h. proper l y (named l y s (into y h))) o;
  only = λ x h. only x (from_values x L h);
  every = λ x h. subst (λ z. In z (map value L)) (value_bits 64 x (wide_listed l x s h)) (to_values (bits_of 64 x) L (onto (bits_of 64 x) (listed_here l x h)));
}
  where
    only : (x : ℕ) → (y : List Bool) × InRests y L × (x ≡ value y) → In x (numbers_on l)
    only x t = found_on (named l t.0 s (into t.0 t.1)) t.2
      where
        found_on : Named l t.0 → x ≡ value t.0 → In x (numbers_on l)
        found_on n e = subst (λ z. In z (numbers_on l)) (sym (e ∙ ap value n.bits ∙ value_bits 64 n.number n.wide)) n.on_line

in_sequence : (l : List ChipState) → SoundAll l → Sequence l (sequence l)
in_sequence l s = sequence_of l s (from_on 64 [] (here l)) (on_ordered 64 (here l)) (λ y h. on_in 64 y (here l) (uniform_here l) h) (λ y h. in_on 64 y (here l) (uniform_here l) h)

take_values : (n : ℕ) (L : Rests) → map value (take n L) ≡ take n (map value L)
take_values zero L = refl
take_values (suc n) [] = refl
take_values (suc n) (y ∷ L) = ap (λ xs. value y ∷ xs) (take_values n L)

cases_le : (a b : ℕ) → (a ≤ b) ⊎ (b < a)
cases_le a b = elim (cases_lt b a) as (λ _. (a ≤ b) ⊎ (b < a)) [ inl h ↦ inr h | inr h ↦ inl h ]

-- how a search on a rig with no fuse ends
data Outcome (room : ℕ) (xs : List ℕ) (g : Got Out) : Type 0 where
  nobody : xs ≡ [] → g ≡ done (bad 5 1, []) → Outcome room xs g
  all : 0 < length xs → length xs ≤ room → g ≡ done (good (length xs), xs) → Outcome room xs g
  front : room < length xs → g ≡ done (bad 9 room, take room xs) → Outcome room xs g

outcome-some : (room : ℕ) (L : Rests) (g : Got Out) → 0 < length L → (length L ≤ room → g ≡ done (good (length L), map value L)) → (room < length L → g ≡ done (bad 9 room, map value (take room L))) → Outcome room (map value L) g
outcome-some room L g z f h = go (cases_le (length L) room)
  where
    n : length (map value L) ≡ length L
    n = length_values L

    go : (length L ≤ room) ⊎ (room < length L) → Outcome room (map value L) g
    go (inl q) = all (omega (arith, n)) (omega (arith, n)) (f q ∙ ap (λ t. done (good t, map value L)) (sym n))
    go (inr q) = front (omega (arith, n)) (h q ∙ ap (λ xs. done (bad 9 room, xs)) (take_values room L))

outcome : (k : ℕ) (l : List ChipState) → any_busy l ≡ false → Outcome (suc k) (sequence l) (run 0 (passes (suc k) 1 [] []) (free l)).got
outcome k l b = go (is_nil (here l)) refl
  where
    go : (t : Bool) → is_nil (here l) ≡ t → Outcome (suc k) (sequence l) (run 0 (passes (suc k) 1 [] []) (free l)).got
    go true e =
        nobody (ap (map value) (on_none 64 (here l) e))
        (came_to (passes (suc k) 1 [] []) l (map reset_chip l) (bad 5 1, []) (subst (λ t. Leads (passes (suc k) 1 [] []) l (after_reset k 1 [] [] t) (map reset_chip l)) (presence_here l true e) (leads_step reset_pulse (after_reset k 1 [] []) l b)))
    go false e =
        let v = some-next_path 64 (here l) (uniform_here l) e in
        outcome-some (suc k) (from_on 64 [] (here l)) (run 0 (passes (suc k) 1 [] []) (free l)).got (on_some 64 [] (here l) (uniform_here l) v)
        (λ h. on_lists (suc k) [] l b v h) (λ h. on_fills (suc k) [] l b v h)

-- what it tells
module _ (room : ℕ) (xs : List ℕ) (count steps : ℕ) (found : List ℕ) where
  told_all : (g : Got Out) (n : ℕ) → Outcome room xs g → listed g n ≡ (answered count steps, found) → (found ≡ xs) × (count ≡ length xs)
  told_all g n (nobody e q) h =
      let t : ◌≡◌ {A = Report ℕ × List ℕ} (refused_as 5 1 n, []) (answered count steps, found) = sym (ap (λ z. listed z n) q) ∙ h in
      let u : ◌≡◌ {A = Report ℕ} (refused_as 5 1 n) (answered count steps) = ap (λ (p : Report ℕ × List ℕ). p.0) t in
      let z : ◌≡◌ {A = ℕ} 0 1 = cc in absurd (omega arith)
  told_all g n (all z w q) h =
      let t : ◌≡◌ {A = Report ℕ × List ℕ} (answered (length xs) n, xs) (answered count steps, found) = sym (ap (λ z. listed z n) q) ∙ h in
      let u : ◌≡◌ {A = Report ℕ} (answered (length xs) n) (answered count steps) = ap (λ (p : Report ℕ × List ℕ). p.0) t in
      (sym (ap (λ (p : Report ℕ × List ℕ). p.1) t), cc)
  told_all g n (front z q) h =
      let t : ◌≡◌ {A = Report ℕ × List ℕ} (refused_as 9 room n, take room xs) (answered count steps, found) = sym (ap (λ z. listed z n) q) ∙ h in
      let u : ◌≡◌ {A = Report ℕ} (refused_as 9 room n) (answered count steps) = ap (λ (p : Report ℕ × List ℕ). p.0) t in
      let z : ◌≡◌ {A = ℕ} 0 1 = cc in absurd (omega arith)

told_full : (room : ℕ) (xs : List ℕ) (g : Got Out) (n : ℕ) → Outcome room xs g → room < length xs → listed g n ≡ (refused_as 9 room n, take room xs)
told_full room xs g n (nobody e q) h = let z : length xs ≡ 0 = ap length e in absurd (omega arith)
told_full room xs g n (all z w q) h = absurd (omega arith)
told_full room xs g n (front z q) h = ap (λ t. listed t n) q

told_answer : (room : ℕ) (xs : List ℕ) (g : Got Out) (n : ℕ) → Outcome room xs g → 0 < length xs → length xs ≤ room → listed g n ≡ (answered (length xs) n, xs)
told_answer room xs g n (nobody e q) h k = let z : length xs ≡ 0 = ap length e in absurd (omega arith)
told_answer room xs g n (all z w q) h k = ap (λ t. listed t n) q
told_answer room xs g n (front z q) h k = absurd (omega arith)

told_front : (xs : List ℕ) (g : Got Out) (n k e steps : ℕ) (found : List ℕ) → GotIt (Kept xs) g → listed g n ≡ (refused_as k e steps, found) → Front found xs
told_front xs (done s) n k e steps found h q = subst (λ z. Front z xs) (ap (λ (p : Report ℕ × List ℕ). p.1) q) h.0
told_front xs line_busy n k e steps found h q = absurd h

pub room_some : (places : ℕ) → (places ≡ 0 → ⊥) → (k : ℕ) × (room_of places ≡ suc k)
room_some places n = (min places most_places - 1, omega (arith, n))

-- no step of it is refused, and cut or not, it keeps a front
kept : (k : ℕ) (l : List ChipState) (f : FuseState) → SoundAll l → any_busy l ≡ false → GotIt (Kept (sequence l)) (run 0 (passes (suc k) 1 [] []) (record { line = l; fuse = f })).got
kept k l f s b = safe_run (Kept (sequence l)) 0 (passes (suc k) 1 [] []) l f (go (is_nil (here l)) refl)
  where
    go : (t : Bool) → is_nil (here l) ≡ t → CutSafe (Kept (sequence l)) (passes (suc k) 1 [] []) l
    go true e = subst (λ L. CutSafe (Kept (map value L)) (passes (suc k) 1 [] []) l) (sym (on_none 64 (here l) e)) (safe_none k l b (presence_here l true e))
    go false e = on_safe (suc k) [] l b (some-next_path 64 (here l) (uniform_here l) e) (determined l s)

abbrev Answer : Type 0
Answer = RigState × (Report ℕ × List ℕ)

module _ (r : RigState) (places : ℕ) (n : places ≡ 0 → ⊥) (s : SoundAll r.line) (b : any_busy r.line ≡ false) where
  abbrev job : Job Out
  job = passes (room_of places) 1 [] []

  ends : Outcome (room_of places) (sequence r.line) (run 0 job (free r.line)).got
  ends =
      let k = room_some places n in
      subst (λ room. Outcome room (sequence r.line) (run 0 (passes room 1 [] []) (free r.line)).got) (sym k.1) (outcome k.0 r.line b)

  ends_uncut : Uncut job r → Outcome (room_of places) (sequence r.line) (run 0 job r).got
  ends_uncut u = subst (Outcome (room_of places) (sequence r.line)) (sym (uncut_free 0 job r.line r.fuse u).got) ends

  keeps : GotIt (Kept (sequence r.line)) (run 0 job r).got
  keeps =
      let k = room_some places n in
      subst (λ room. GotIt (Kept (sequence r.line)) (run 0 (passes room 1 [] []) r).got) (sym k.1) (kept k.0 r.line r.fuse s b)

  tells : (search_call places r).1 ≡ listed (run 0 job r).got (run 0 job r).steps
  tells = ap (λ (a : Answer). a.1) (searched places r n)

  lists_sequence : Lists places r (sequence r.line)
  lists_sequence = record {
    complete = λ u count steps found h. told_all (room_of places) (sequence r.line) count steps found (run 0 job r).got (run 0 job r).steps (ends_uncut u) (sym tells ∙ h);
    full = λ u h. ((run 0 job r).steps, tells ∙ told_full (room_of places) (sequence r.line) (run 0 job r).got (run 0 job r).steps (ends_uncut u) h);
    answers = λ u z h. ((run 0 job r).steps, tells ∙ told_answer (room_of places) (sequence r.line) (run 0 job r).got (run 0 job r).steps (ends_uncut u) z h);
    front = λ k e steps found h. told_front (sequence r.line) (run 0 job r).got (run 0 job r).steps k e steps found keeps (sym tells ∙ h);
  }

-- a search is complete
pub search_complete : SearchComplete
search_complete r places m n b =
    let s = met_sounds r.line m in
    (sequence r.line, in_sequence r.line s, lists_sequence r places n s b)

-- refusal 3 is the rig's
only_busy : (g : Got Out) (n e steps : ℕ) (found : List ℕ) → GotAll NotRefused g → listed g n ≡ (refused_as 3 e steps, found) → g ≡ line_busy
only_busy (done (good c, l)) n e steps found h q =
    let u : ◌≡◌ {A = Report ℕ} (answered c n) (refused_as 3 e steps) = ap (λ (p : Report ℕ × List ℕ). p.0) q in
    let z : ◌≡◌ {A = ℕ} 0 1 = cc in absurd (omega arith)
only_busy (done (bad k f, l)) n e steps found h q =
    let u : ◌≡◌ {A = Report ℕ} (refused_as k f n) (refused_as 3 e steps) = ap (λ (p : Report ℕ × List ℕ). p.0) q in
    absurd (h (cc))
only_busy line_busy n e steps found h q = refl

any_busy-run : (room : ℕ) (k : (k : ℕ) × (room ≡ suc k)) (r : RigState) → any_busy r.line ≡ true → told (run 0 (passes room 1 [] []) r) ≡ (r, (refused_as 3 0 0, []))
any_busy-run room k r b =
    ap (λ j. told (run 0 (passes j 1 [] []) r)) k.1 ∙ ap (λ t. told (on_step 0 reset_pulse (after_reset k.0 1 [] []) r t)) b

-- a line that is busy refuses it at once
pub search_busy : (places : ℕ) (r : RigState) → (places ≡ 0 → ⊥) → any_busy r.line ≡ true → ◌≡◌ {A = Answer} (r, (refused_as 3 0 0, [])) (search_call places r)
search_busy places r n b = sym (searched places r n ∙ any_busy-run (room_of places) (room_some places n) r b)

pub busy_unchanged : BusyUnchanged
busy_unchanged r places e steps found q = go (cases_le places 0)
  where
    job : Job Out
    job = passes (room_of places) 1 [] []

    begun : (n : places ≡ 0 → ⊥) → any_busy r.line ≡ true → ((search_call places r).0 ≡ r) × (any_busy r.line ≡ true) × (found ≡ []) × (e ≡ 0) × (steps ≡ 0)
    begun n b =
        let w : ◌≡◌ {A = Answer} (search_call places r) (r, (refused_as 3 0 0, [])) = sym (search_busy places r n b) in
        let u : ◌≡◌ {A = Report ℕ} (refused_as 3 0 0) (refused_as 3 e steps) = ap (λ (a : Answer). a.1.0) (sym w) ∙ ap (λ (p : Report ℕ × List ℕ). p.0) q in
        let at : 0 ≡ e = cc in let after : 0 ≡ steps = cc in
        (ap (λ (a : Answer). a.0) w, b, ap (λ (p : Report ℕ × List ℕ). p.1) (sym q) ∙ ap (λ (a : Answer). a.1.1) w, sym at, sym after)

    triplet_of : (n : places ≡ 0 → ⊥) → (run 0 job r).got ≡ line_busy
    triplet_of n =
        only_busy (run 0 job r).got (run 0 job r).steps e steps found (leaves_run NotRefused 0 job r (never_three (room_of places) 1 [] []))
        (sym (ap (λ (a : Answer). a.1) (searched places r n)) ∙ q)

    go : (places ≤ 0) ⊎ (0 < places) → ((search_call places r).0 ≡ r) × (any_busy r.line ≡ true) × (found ≡ []) × (e ≡ 0) × (steps ≡ 0)
    go (inl h) =
        let z : places ≡ 0 = omega arith in
        let u : ◌≡◌ {A = Answer} (search_call places r) (r, (refused_as 9 0 0, [])) = ap (λ p. search_call p r) z in
        let v : ◌≡◌ {A = Report ℕ} (refused_as 9 0 0) (refused_as 3 e steps) = ap (λ (a : Answer). a.1.0) (sym u) ∙ ap (λ (p : Report ℕ × List ℕ). p.0) q in
        let w : ◌≡◌ {A = ℕ} 9 3 = cc in absurd (omega arith)
    go (inr h) =
        let n : places ≡ 0 → ⊥ = λ z. omega arith in begun n (busy_first 0 (room_of places) 1 [] [] r (triplet_of n))

-- no byte changes
no_triples : {A : Type 0} (lost : Job A) → NoDwell lost → (n : ℕ) (path : List Bool) (k : List Bool → NextPath → Job A) → ((bs : List Bool) (nx : NextPath) → NoDwell (k bs nx)) → NoDwell (triples lost n path k)
no_triples lost z zero path k h = h [] no_path
no_triples lost z (suc n) path k h =
    λ a. λ b. pick (a && b) NoDwell z
    (λ _. no_triples lost z n (tail_of path) (λ bs nx. k (chosen a b path ∷ bs) (onward (not a && not b && not (chosen a b path)) (chosen a b path) nx)) (λ bs nx. h (chosen a b path ∷ bs) (onward (not a && not b && not (chosen a b path)) (chosen a b path) nx)))

no_passes : (room pass : ℕ) (path : List Bool) (got : List ℕ) → NoDwell (passes room pass path got)
no_passes zero pass path got = tt
no_passes (suc room) pass path got =
    λ t. go t (no_send (bits_of 8 0xF0) (seeks room pass path got)
    (no_triples (ret (bad 6 pass, got)) tt 64 path (going room pass got) (λ bs nx. on bs nx (λ p. no_passes room (suc pass) p (got ++ (value bs ∷ []))))))
  where
    on : (bs : List Bool) (nx : NextPath) → ((p : List Bool) → NoDwell (passes room (suc pass) p (got ++ (value bs ∷ [])))) → NoDwell (going room pass got bs nx)
    on bs no_path ih = tt
    on bs (next_path p) ih = ih p

    go : (t : Bool) → NoDwell (send_bits (bits_of 8 0xF0) (seeks room pass path got)) → NoDwell (after_reset room pass path got t)
    go true h = h
    go false h = tt

pub bytes_stay : BytesStay
bytes_stay r places =
    pick (eqb places 0) (λ (a : Answer). map bytes_of a.0.line ≡ map bytes_of r.line) refl (bytes_run 0 (passes (room_of places) 1 [] []) r (no_passes (room_of places) 1 [] []))

-- as many numbers as the sequence has, and their steps
bounded : (n k : ℕ) (out : Out) → Within n out.0 → Takes k out → steps_in (listed (done out) k).0 ≤ most_steps n
bounded zero k (good c, xs) m h = let z : ◌≡◌ {A = ℕ} 0 1 = cc in absurd (omega arith)
bounded zero k (bad j e, xs) m h = let c : j ≡ 5 = cc in let d : e ≡ 1 = cc in let q = h.1 c in omega (arith, d, q)
bounded (suc n) k (good c, xs) m h = omega (arith, m, h)
bounded (suc n) k (bad j e, xs) m h = let q = h.2 in omega (arith, m, q)

bounded_got : (xs : List ℕ) (k : ℕ) (g : Got Out) → GotIt (Kept xs) g → GotAt Takes k g → steps_in (listed g k).0 ≤ most_steps (length xs)
bounded_got xs k (done out) m h = bounded (length xs) k out m.1 h
bounded_got xs k line_busy m h = absurd m

abbrev Bounded : ℕ → Answer → Type 0
Bounded n a = steps_in a.1.0 ≤ most_steps n

pub search_bound : SearchBound
search_bound r places m = (sequence r.line, in_sequence r.line s, go (cases_le places 0) (any_busy r.line) refl)
  where
    s : SoundAll r.line
    s = met_sounds r.line m

    n : ℕ
    n = length (sequence r.line)

    go : (places ≤ 0) ⊎ (0 < places) → (t : Bool) → any_busy r.line ≡ t → Bounded n (search_call places r)
    go (inl h) t b = let z : places ≡ 0 = omega arith in subst (λ p. Bounded n (search_call p r)) (sym z) (omega arith)
    go (inr h) true b = subst (Bounded n) (search_busy places r (λ z. omega arith) b) (omega arith)
    go (inr h) false b =
        subst (Bounded n) (sym (searched places r (λ z. omega arith)))
        (bounded_got (sequence r.line) (run 0 (passes (room_of places) 1 [] []) r).steps (run 0 (passes (room_of places) 1 [] []) r).got (keeps r places (λ z. omega arith) s b)
        (leaves_at Takes 0 (passes (room_of places) 1 [] []) r (at-passes (room_of places) 0 [] [] (let h : room_of places ≤ most_places = room_most places in omega arith))))

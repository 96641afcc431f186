-- An order whose tag has power, on a line with no fuse: it answers held exactly when the row is then as ordered.
use Rattle.std.proofs.Common.{◌≡◌, ℕ, zero, suc, ◌+◌, ◌/◌, ◌%◌, ◌^◌, ◌<◌, ◌≤◌, Bool, true, false, not, ◌&&◌, eqb, List, [], ◌∷◌, ◌++◌, map, length, get_or, take, drop, Some, None, Option, sym, refl, ap, ◌∙◌, subst, ap₂, append-nil, arith, length-append, get_or-drop, eq-eqb, ne_eqb}
use lib.Seq.{take-append_seam, drop-append_seam}
use Rattle.base.specs.Bits.{bits_all, value, byte_of}
use Rattle.base.specs.Crc.{crc16, inverted}
use Rattle.kinds.specs.Kinds.{Rules, Lawful, may_copy, at, Bytes, blend, program, whole_row}
use Rattle.kinds.proofs.Blending.{blend-same}
use Rattle.kinds.proofs.Programming.{program_bytes, program_each}
use Rattle.memory.specs.Scratchpads.{Regs, status, row_of, Work, Doing, on, idle, programming, sending, alternating, await, command, copy_low, copy_high, copy_status, Awaited, take_byte, copy_begins as accepts, began_copy, stopped_copy, is_programming}
use Rattle.memory.specs.Memories.{padded, kind_in}
use Rattle.chip.specs.Chips.{Phase, selected}
use Rattle.chip.specs.Chips.{on as under}
use Rattle.chip.specs.ChipStates.{ChipState, bytes_of, reset_chip, opened_by}
use Rattle.line.specs.Lines.{any_busy}
use Rattle.rig.specs.Rigs.{reset_pulse, dwell_pulse}
use Rattle.wire.specs.Jobs.{Job, ret, step, send_bytes, read_bytes}
use Rattle.wire.specs.Exchanges.{answer, pulses}
use Rattle.wire.specs.declared.exchange_fault.ExchangeError.TheVariants.{NoPresence}
use Rattle.wire.specs.Laws.{NoneHas, first_bytes, row_in}
use Rattle.wire.proofs.Leading.{Leads, leads_then, leads_none, WideAll, after_opening}
use Rattle.wire.proofs.Alone.{QuietAll, talking, busy_put, one_byte, bytes_read, dwell_one, read-idle, read-alternating}
use Rattle.wire.proofs.One.{opened_none, opened_wide, opened_again, others_quiet, presence_mid, open_one}
use Rattle.reading.proofs.Found.{found_row, closed_by}
use Rattle.order.specs.Differences.{differ_from, first_difference}
use Rattle.order.specs.Writings.{whole_status, programmed_byte}
use Rattle.order.specs.Orders.{Ending, held, refusal, refusal_at, failed, judged, finds_and_closes, copies_if, ordering}
use Rattle.order.specs.Laws.{bytes_with, lets_copy}
use Rattle.order.proofs.Parts.{judged1, judged2, target, summed_bytes, sent_sum, ends, closing, copying, told, checking, next}
use Rattle.order.proofs.Comparing.{first_self, first_equal, first_differs}
use Rattle.order.proofs.Loading.{sum_more, loads_at, writes_scratchpad-length, loads_bytes, writes_scratchpad-held, filled, ready, begun, Took, took, reports, status_whole, with, sent}

abbrev pub IsHeld : Ending → Type 0
IsHeld (held programmed) = Unit {0}
IsHeld (refusal k e) = ⊥
IsHeld (refusal_at k e i) = ⊥

-- programmed where the tag lets the row be copied to; no plain refusal; and an index of the row: where the found row is refused, the first at which it differs
abbrev pub Placed : List ℕ → Bool → List ℕ → Ending → Type 0
Placed new lets found (held programmed) = programmed ≡ lets
Placed new lets found (refusal k e) = ⊥
Placed new lets found (refusal_at k e i) = (i < 8) × (k ≡ 8 → first_difference new found ≡ Some i)

-- how an order ends, and what the tag holds then, by the bytes that it had before and whether it lets the row be copied to
pub record Ends (p : Job Ending) (l : List ChipState) (x row : ℕ) (new was : List ℕ) (lets : Bool) : Type 0 where
  pub answer : Ending
  pub line : List ChipState
  pub so : Leads p l (ret answer) line
  pub right : IsHeld answer → new ≡ row_in (bytes_with x line) row
  pub left : new ≡ row_in (bytes_with x line) row → IsHeld answer
  pub same : new ≡ row_in was row → new ≡ row_in (bytes_with x line) row
  pub placed : Placed new lets (row_in (bytes_with x line) row) answer

pub then_ends : {p q : Job Ending} {l l' : List ChipState} {x row : ℕ} {new was : List ℕ} {lets : Bool} → Leads p l q l' → Ends q l' x row new was lets → Ends p l x row new was lets
then_ends f g = record { answer = g.answer; line = g.line; so = leads_then f g.so; right = g.right; left = g.left; same = g.same; placed = g.placed }

-- an index at which a list differs from one that is no longer is one of its own
differ_within : (k : ℕ) (xs ys : List ℕ) (i : ℕ) → length ys ≤ length xs → differ_from k xs ys ≡ Some i → i < k + length xs
differ_within k [] [] i h e = let z : ◌≡◌ {A = ℕ} 0 1 = cc in absurd (omega arith)
differ_within k [] (y ∷ ys) i h e = absurd (omega arith)
differ_within k (x ∷ xs) [] i h e = let q : k ≡ i = cc in omega arith
differ_within k (x ∷ xs) (y ∷ ys) i h e = go (eqb x y) e (differ_within (k + 1) xs ys i (omega arith))
  where
    go : (t : Bool) → (elim t as (λ _. Option ℕ) [ true ↦ differ_from (k + 1) xs ys | false ↦ Some k ]) ≡ Some i → (differ_from (k + 1) xs ys ≡ Some i → i < k + 1 + length xs) → i < k + length (x ∷ xs)
    go true q ih = let b = ih q in omega arith
    go false q ih = let b : k ≡ i = cc in omega arith

first_within : (xs ys : List ℕ) (i : ℕ) → length ys ≤ length xs → first_difference xs ys ≡ Some i → i < length xs
unfolding first_difference
first_within xs ys i h e = let b = differ_within 0 xs ys i h e in omega arith

first_length : (n : ℕ) (m : List ℕ) → length (first_bytes n m) ≡ n
first_length zero m = refl
first_length (suc n) [] = ap suc (first_length n [])
first_length (suc n) (b ∷ bs) = ap suc (first_length n bs)

inverted_bytes : (sum : ℕ) → Bytes (inverted sum)
inverted_bytes sum zero = omega arith
inverted_bytes sum (suc zero) = omega arith
inverted_bytes sum (suc (suc a)) = omega arith

both_bytes : (xs ys : List ℕ) → Bytes xs → Bytes ys → Bytes (xs ++ ys)
both_bytes [] ys f g a = g a
both_bytes (y ∷ xs) ys f g zero = f 0
both_bytes (y ∷ xs) ys f g (suc a) = both_bytes xs ys (λ b. f (suc b)) g a

first_at : (n : ℕ) (xs : List ℕ) (i : ℕ) → i < n → at (first_bytes n xs) i ≡ at xs i
first_at zero xs i h = absurd (omega arith)
first_at (suc n) [] zero h = refl
first_at (suc n) [] (suc i) h = first_at n [] i (omega arith)
first_at (suc n) (y ∷ ys) zero h = refl
first_at (suc n) (y ∷ ys) (suc i) h = first_at n ys i (omega arith)

row_at : (m : List ℕ) (row i : ℕ) → i < 8 → at (row_in m row) i ≡ at m (row + i)
row_at m row i h = first_at 8 (drop row m) i h ∙ get_or-drop row m i 255

-- bytes that are the same at every address are the same row
first_same : (n : ℕ) (xs ys : List ℕ) → ((i : ℕ) → at xs i ≡ at ys i) → first_bytes n xs ≡ first_bytes n ys
first_same zero xs ys h = refl
first_same (suc n) [] [] h = refl
first_same (suc n) [] (y ∷ ys) h = ap₂ (λ a l. a ∷ l) (h 0) (first_same n [] ys (λ i. h (suc i)))
first_same (suc n) (x ∷ xs) [] h = ap₂ (λ a l. a ∷ l) (h 0) (first_same n xs [] (λ i. h (suc i)))
first_same (suc n) (x ∷ xs) (y ∷ ys) h = ap₂ (λ a l. a ∷ l) (h 0) (first_same n xs ys (λ i. h (suc i)))

row_same : (row : ℕ) (a m : List ℕ) → ((i : ℕ) → at a i ≡ at m i) → row_in a row ≡ row_in m row
row_same row a m h = first_same 8 (drop row a) (drop row m) (λ i. get_or-drop row a i 255 ∙ h (row + i) ∙ sym (get_or-drop row m i 255))

-- the bytes of the one tag
pub bytes_mid : (x : ℕ) (us vs : List ChipState) (c : ChipState) → NoneHas x us → c.number ≡ x → bytes_with x (us ++ (c ∷ vs)) ≡ bytes_of c
bytes_mid x [] vs c n e = ap (λ t. elim t as (λ _. List ℕ) [ true ↦ bytes_of c | false ↦ bytes_with x vs ]) (eq-eqb c.number x e)
bytes_mid x (u ∷ us) vs c n e =
    ap (λ t. elim t as (λ _. List ℕ) [ true ↦ bytes_of u | false ↦ bytes_with x (us ++ (c ∷ vs)) ]) (ne_eqb u.number x n.0) ∙ bytes_mid x us vs c n.1 e

pub lets_mid : (x row : ℕ) (us vs : List ChipState) (c : ChipState) → NoneHas x us → c.number ≡ x → lets_copy x row (us ++ (c ∷ vs)) ≡ may_copy (kind_in c.memory) (bytes_of c) row
lets_mid x row [] vs c n e = ap (λ t. elim t as (λ _. Bool) [ true ↦ may_copy (kind_in c.memory) (bytes_of c) row | false ↦ lets_copy x row vs ]) (eq-eqb c.number x e)
lets_mid x row (u ∷ us) vs c n e =
    ap (λ t. elim t as (λ _. Bool) [ true ↦ may_copy (kind_in u.memory) (bytes_of u) row | false ↦ lets_copy x row (us ++ (c ∷ vs)) ]) (ne_eqb u.number x n.0) ∙ lets_mid x row us vs c n.1 e

bytes_reset : (x : ℕ) (l : List ChipState) → bytes_with x (map reset_chip l) ≡ bytes_with x l
bytes_reset x [] = refl
bytes_reset x (c ∷ cs) = ap (λ m. elim (eqb c.number x) as (λ _. List ℕ) [ true ↦ bytes_of c | false ↦ m ]) (bytes_reset x cs)

module _ (x row : ℕ) (new : List ℕ) (hx : x < 2 ^ 64) (al : row % 8 ≡ 0) (hr : row < 65536) (len : length new ≡ 8) (small : Bytes new)
    (us vs : List ChipState) (nu : NoneHas x us) (nv : NoneHas x vs) (wu : WideAll us) (wv : WideAll vs) (K : Rules) (law : Lawful K) where
  -- the other chips, once an exchange has begun
  abbrev U : List ChipState
  U = map (opened_by x) us

  abbrev V : List ChipState
  V = map (opened_by x) vs

  qu : QuietAll (map (opened_by x) us)
  qu = others_quiet x us nu

  qv : QuietAll (map (opened_by x) vs)
  qv = others_quiet x vs nv

  -- the line, by the tag's bytes and what its memory does
  abbrev at1 : List ℕ → Work → List ChipState
  at1 m w = with U V qu qv K x m true w

  calm : (m : List ℕ) (w : Work) → is_programming w.doing ≡ false → any_busy (at1 m w) ≡ false
  calm m w e = busy_put U V (talking U V qu qv K x m true w) qu qv ∙ e

  -- the opening of a later exchange
  reopen : {B : Type 0} (k nope : Job B) (m : List ℕ) (w : Work) → is_programming w.doing ≡ false
      → Leads (step reset_pulse (after_opening x k nope)) (at1 m w) k (at1 m (on w.regs (await command)))
  reopen k nope m w e =
      subst (λ l. Leads (step reset_pulse (after_opening x k nope)) (at1 m w) k l)
      (ap₂ (λ a b. a ++ (talking U V qu qv K x m true (on w.regs (await command)) ∷ b)) (opened_again x us nu) (opened_again x vs nv))
      (open_one x hx U V (opened_wide x us wu) (opened_wide x vs wv) k nope true selected (record { rules = K; bytes = m; work = w }) (calm m w e))

  byte : {A : Type 0} (m : List ℕ) (b : ℕ) (rest : List ℕ) (k : Job A) (r : Regs) (w : Awaited) → b < 256
      → Leads (send_bytes (b ∷ rest) k) (at1 m (on r (await w))) (send_bytes rest k) (at1 m (take_byte K m w b r))
  byte m b rest k r w h = one_byte U V qu qv K x m true b (bits_all rest) k r w h

  -- the last two exchanges, whatever came before
  concluding : (was : List ℕ) (programmed lets : Bool) (m : List ℕ) (w : Work) → (new ≡ row_in was row → new ≡ row_in m row) → programmed ≡ lets → is_programming w.doing ≡ false → Bytes m
      → Ends (finds_and_closes x row new programmed) (at1 m w) x row new was lets
  concluding was programmed lets m w stays so e h = go (first_difference new (row_in m row)) refl
    where
      last : Work
      last = on w.regs (sending (bits_all (drop 8 (drop row m))))

      finding : Leads (finds_and_closes x row new programmed) (at1 m w) (closing new programmed (row_in m row)) (at1 m last)
      finding =
          subst (λ l. Leads (finds_and_closes x row new programmed) (at1 m w) (closing new programmed (row_in m row)) l)
          (ap₂ (λ a b. a ++ (talking U V qu qv K x m true last ∷ b)) (opened_again x us nu) (opened_again x vs nv))
          (found_row x row hx hr U V (opened_none x us nu) (opened_none x vs nv) (opened_wide x us wu) (opened_wide x vs wv) 4 (closing new programmed) failed true selected (record { rules = K; bytes = m; work = w }) h (calm m w e))

      ended : Leads (finds_and_closes x row new programmed) (at1 m w) (ret (judged programmed (first_difference new (row_in m row)))) (map reset_chip (at1 m last))
      ended =
          leads_then finding
          (closed_by 5 (ends new programmed (row_in m row)) failed (at1 m last) (calm m last refl) (presence_mid U V (talking U V qu qv K x m true last) refl))

      there : bytes_with x (map reset_chip (at1 m last)) ≡ m
      there = bytes_reset x (at1 m last) ∙ bytes_mid x U V (talking U V qu qv K x m true last) (opened_none x us nu) refl

      here : row_in m row ≡ row_in (bytes_with x (map reset_chip (at1 m last))) row
      here = ap (λ n. row_in n row) (sym there)

      go : (o : Option ℕ) → first_difference new (row_in m row) ≡ o → Ends (finds_and_closes x row new programmed) (at1 m w) x row new was lets
      go None q = record {
        answer = held programmed;
        line = map reset_chip (at1 m last);
        so = subst (λ o. Leads (finds_and_closes x row new programmed) (at1 m w) (ret (judged programmed o)) (map reset_chip (at1 m last))) q ended;
        right = λ _. first_equal new (row_in m row) q ∙ here;
        left = λ _. tt;
        same = λ u. stays u ∙ here;
        placed = so;
      }
      go (Some i) q = record {
        answer = refusal_at 8 5 i;
        line = map reset_chip (at1 m last);
        so = subst (λ o. Leads (finds_and_closes x row new programmed) (at1 m w) (ret (judged programmed o)) (map reset_chip (at1 m last))) q ended;
        right = λ z. absurd z;
        left = λ z. absurd (first_differs new (row_in m row) i q (z ∙ sym here));
        same = λ u. stays u ∙ here;
        placed = (
          (let b = first_within new (row_in m row) i (let f = first_length 8 (drop row m) in omega (arith, len, f)) q in omega (arith, b, len)),
          λ _. ap (first_difference new) (sym here) ∙ q,
        );
      }

  module _ (m : List ℕ) (whole : length m ≡ K.n) (hm : Bytes m) where
    abbrev loaded : List ℕ
    loaded = loads_at K m row new

    loaded-eight : length loaded ≡ 8
    loaded-eight = writes_scratchpad-length K m row new ∙ len

    -- 3. the copy: programmed where the copy rule says yes, and idle elsewhere
    module _ (r : Regs) (t : Took K m row new r) where
      accepted : accepts K m (row % 256) (row / 256) whole_status r ≡ may_copy K m (row_of r)
      accepted =
          λ i. eqb_low i && (eqb_high i && (eqb_status i && (not (t.clear i) && may_copy K m (row_of r))))
        where
          eqb_low : eqb (row % 256) r.ta1 ≡ true
          eqb_low = eq-eqb (row % 256) r.ta1 (sym t.low)

          eqb_high : eqb (row / 256) r.ta2 ≡ true
          eqb_high = eq-eqb (row / 256) r.ta2 (sym t.high)

          eqb_status : eqb 7 (status r) ≡ true
          eqb_status = eq-eqb 7 (status r) (sym (status_whole K m row new r t))

      abbrev dwelt : Job Ending
      dwelt = step dwell_pulse (λ _. read_bytes 1 (λ got. finds_and_closes x row new (eqb (get_or got 0 0) programmed_byte)))

      abbrev began : Regs
      began = began_copy K m r

      abbrev stopped : Regs
      stopped = stopped_copy K m (row % 256) (row / 256) whole_status r

      abbrev taken : Bool → Work
      taken b = elim b [ true ↦ on began programming | false ↦ on stopped idle ]

      copy_sent : (d : Doing) → is_programming d ≡ false → Leads (copies_if x row new None) (at1 m (on r d)) dwelt (at1 m (taken (may_copy K m (row_of r))))
      copy_sent d e =
          leads_then (reopen (send_bytes (0x55 ∷ row % 256 ∷ row / 256 ∷ whole_status ∷ []) dwelt) (failed NoPresence 3) m (on r d) e)
          (leads_then (byte m 0x55 (row % 256 ∷ row / 256 ∷ whole_status ∷ []) dwelt r command (omega arith))
          (leads_then (byte m (row % 256) (row / 256 ∷ whole_status ∷ []) dwelt r copy_low (omega arith))
          (leads_then (byte m (row / 256) (whole_status ∷ []) dwelt r (copy_high (row % 256)) (omega arith))
          (subst (λ b. Leads (send_bytes (whole_status ∷ []) dwelt) (at1 m (on r (await (copy_status (row % 256) (row / 256))))) dwelt (at1 m (taken b))) accepted
          (byte m whole_status [] dwelt r (copy_status (row % 256) (row / 256)) (omega arith))))))

      copied : (d : Doing) → is_programming d ≡ false → Ends (copies_if x row new None) (at1 m (on r d)) x row new m (may_copy K m row)
      copied d e = go (may_copy K m (row_of r)) refl
        where
          after : List ℕ → Job Ending
          after got = finds_and_closes x row new (eqb (get_or got 0 0) programmed_byte)

          programmed_bytes : List ℕ
          programmed_bytes = program K.w (row_of r) r.pad whole_row m

          row_is : row_of r ≡ row
          row_is = let a = t.low in let b = t.high in omega (arith, a, b, al)

          lets : may_copy K m row ≡ may_copy K m (row_of r)
          lets = ap (may_copy K m) (sym row_is)

          -- where the row held what was ordered, the scratchpad has the same, so programming changes nothing
          burnt_same : new ≡ row_in m row → new ≡ row_in programmed_bytes row
          burnt_same u = u ∙ sym (row_same row programmed_bytes m (program_each (λ a b. b ≡ at m a) K.w (row_of r) r.pad whole_row m (λ a. refl) fits))
            where
              held_at : (j : ℕ) → j < 8 → at new j ≡ at m (row + j)
              held_at j h = ap (λ l. at l j) u ∙ row_at m row j h

              pad_is : r.pad ≡ new
              pad_is = t.pad ∙ writes_scratchpad-held K m law whole row new (λ j h. held_at j (let e = len in omega (arith, h, e)))

              fits : (i : ℕ) → i < 8 → blend (byte_of whole_row i) (at r.pad i) (at m (row_of r + i)) ≡ at m (row_of r + i)
              fits i h =
                  ap (λ v. blend (byte_of whole_row i) v (at m (row_of r + i))) (ap (λ l. at l i) pad_is ∙ held_at i h ∙ ap (λ k. at m (k + i)) (sym row_is))
                  ∙ blend-same (byte_of whole_row i) (at m (row_of r + i)) (hm (row_of r + i))

          go : (b : Bool) → may_copy K m (row_of r) ≡ b → Ends (copies_if x row new None) (at1 m (on r d)) x row new m (may_copy K m row)
          go true q =
              then_ends (subst (λ b. Leads (copies_if x row new None) (at1 m (on r d)) dwelt (at1 m (taken b))) q (copy_sent d e))
              (then_ends (dwell_one U V qu qv (λ _. read_bytes 1 after) (talking U V qu qv K x m true (on began programming)))
              (then_ends (read-alternating U V qu qv K x programmed_bytes true 8 false (λ bs. after (value bs ∷ [])) began)
              (concluding m true (may_copy K m row) programmed_bytes (on began (alternating false)) burnt_same (sym (lets ∙ q)) refl (program_bytes K.w (row_of r) r.pad whole_row m hm))))
          go false q =
              then_ends (subst (λ b. Leads (copies_if x row new None) (at1 m (on r d)) dwelt (at1 m (taken b))) q (copy_sent d e))
              (then_ends (dwell_one U V qu qv (λ _. read_bytes 1 after) (talking U V qu qv K x m true (on stopped idle)))
              (then_ends (read-idle U V qu qv K x m true 8 (λ bs. after (value bs ∷ [])) stopped)
              (concluding m false (may_copy K m row) m (on stopped idle) (λ u. u) (sym (lets ∙ q)) refl hm)))

      -- 2. the scratchpad is told, and copied where it is as ordered
      abbrev echo : List ℕ
      echo = row % 256 ∷ row / 256 ∷ 7 ∷ loaded

      abbrev sum : ℕ
      sum = crc16 0 (0xAA ∷ echo)

      abbrev got : List ℕ
      got = echo ++ inverted sum

      front : take 8 (loaded ++ inverted sum) ≡ loaded
      front = subst (λ n. take n (loaded ++ inverted sum) ≡ loaded) loaded-eight (take-append_seam loaded (inverted sum))

      behind : drop 8 (loaded ++ inverted sum) ≡ inverted sum
      behind = subst (λ n. drop n (loaded ++ inverted sum) ≡ inverted sum) loaded-eight (drop-append_seam loaded (inverted sum))

      right_sum : first_difference (take 2 (drop 8 (loaded ++ inverted sum))) (inverted (crc16 (crc16 0 (0xAA ∷ [])) (row % 256 ∷ row / 256 ∷ 7 ∷ take 8 (loaded ++ inverted sum)))) ≡ None
      right_sum =
          ap₂ (λ a b. first_difference (take 2 a) (inverted (crc16 (crc16 0 (0xAA ∷ [])) (row % 256 ∷ row / 256 ∷ 7 ∷ b)))) behind front
          ∙ ap (λ s. first_difference (inverted sum) (inverted s)) (sum_more 0 0xAA echo) ∙ first_self (inverted sum)

      judged_right : judged2 (target row got) (summed_bytes row got) (take 8 (drop 3 got)) ≡ answer loaded
      judged_right = λ i. judged2 (first_self (row % 256 ∷ row / 256 ∷ whole_status ∷ []) i) (right_sum i) (front i)

      got_bytes : Bytes got
      got_bytes zero = omega arith
      got_bytes (suc zero) = omega arith
      got_bytes (suc (suc zero)) = omega arith
      got_bytes (suc (suc (suc a))) = both_bytes loaded (inverted sum) (loads_bytes K m law hm row new small) (inverted_bytes sum) a

      got_length : length got ≡ 13
      got_length = let h = length-append loaded (inverted sum) in let e = loaded-eight in let f : length (inverted sum) ≡ 2 = refl in omega (arith, h, e, f)

      echoed : (d : Doing) → is_programming d ≡ false
          → Leads (checking x row new tt) (at1 m (on r d)) (copies_if x row new (first_difference new loaded)) (at1 m (on r (sending [])))
      echoed d e =
          leads_then (reopen (send_bytes (0xAA ∷ []) (read_bytes 13 (told x row new))) (failed NoPresence 2) m (on r d) e)
          (leads_then (byte m 0xAA [] (read_bytes 13 (told x row new)) r command (omega arith))
          (subst (λ l. Leads (read_bytes 13 (told x row new)) (at1 m (on r (sending (bits_all (l ++ inverted (crc16 0 (0xAA ∷ l))))))) (copies_if x row new (first_difference new loaded)) (at1 m (on r (sending [])))) (sym (reports K m row new r al t))
          (subst (λ j. Leads (read_bytes 13 (told x row new)) (at1 m (on r (sending (bits_all got)))) (pulses j (copying x row new) failed) (at1 m (on r (sending [])))) judged_right
          (subst (λ n. Leads (read_bytes n (told x row new)) (at1 m (on r (sending (bits_all got)))) (told x row new got) (at1 m (on r (sending [])))) got_length
          (subst (λ l. Leads (read_bytes (length got) (told x row new)) (at1 m (on r (sending l))) (told x row new got) (at1 m (on r (sending [])))) (append-nil (bits_all got))
          (bytes_read U V qu qv K x m true got [] (told x row new) r got_bytes))))))

      -- data that differ: the row does not hold what was ordered
      not_held : (i : ℕ) → first_difference new loaded ≡ Some i → new ≡ row_in m row → ⊥
      not_held i q z =
          first_differs new loaded i q
          (sym (writes_scratchpad-held K m law whole row new (λ j h. ap (λ l. at l j) z ∙ row_at m row j (let e = len in omega (arith, h, e)))))

      there : bytes_with x (at1 m (on r (sending []))) ≡ m
      there = bytes_mid x U V (talking U V qu qv K x m true (on r (sending []))) (opened_none x us nu) refl

      checked : (d : Doing) → is_programming d ≡ false → Ends (checking x row new tt) (at1 m (on r d)) x row new m (may_copy K m row)
      checked d e = then_ends (echoed d e) (go (first_difference new loaded) refl)
        where
          go : (o : Option ℕ) → first_difference new loaded ≡ o → Ends (copies_if x row new o) (at1 m (on r (sending []))) x row new m (may_copy K m row)
          go None q = copied (sending []) refl
          go (Some i) q = record {
            answer = refusal_at 7 2 i;
            line = at1 m (on r (sending []));
            so = leads_none;
            right = λ z. absurd z;
            left = λ z. absurd (not_held i q (z ∙ ap (λ n. row_in n row) there));
            same = λ u. u ∙ ap (λ n. row_in n row) (sym there);
            placed = ((let e = loaded-eight in let b = first_within new loaded i (omega (arith, e, len)) q in omega (arith, b, len)), λ z. let k : 7 ≡ 8 = z in absurd (omega arith));
          }

    -- 1. the row is sent
    pub order_ends : (work : Work) → length work.regs.pad ≡ 8 → (rc : Bool) (p : Phase)
        → any_busy (us ++ (record { number = x; live = under rc p; memory = padded (record { rules = K; bytes = m; work = work }) } ∷ vs)) ≡ false
        → Ends (ordering x row new) (us ++ (record { number = x; live = under rc p; memory = padded (record { rules = K; bytes = m; work = work }) } ∷ vs)) x row new m (may_copy K m row)
    order_ends work eight rc p b =
        then_ends
        (open_one x hx us vs wu wv (send_bytes (0x0F ∷ row % 256 ∷ row / 256 ∷ []) (send_bytes new (read_bytes 2 (next x row new)))) (failed NoPresence 1) rc p (record { rules = K; bytes = m; work = work }) b)
        (then_ends (sent U V qu qv K x m true row new (read_bytes 2 (next x row new)) work.regs al hr len small)
        (then_ends
        (subst (λ o. Leads (read_bytes 2 (next x row new)) (at1 m (on r (sending (bits_all (inverted (sent_sum row new)))))) (pulses (judged1 o) (checking x row new) failed) (at1 m (on r (sending [])))) (first_self (inverted (sent_sum row new)))
        (bytes_read U V qu qv K x m true (inverted (sent_sum row new)) [] (next x row new) r (inverted_bytes (sent_sum row new))))
        (checked r (took K m row new work.regs al hr len eight) (sending []) refl)))
      where
        r : Regs
        r = ready K m (filled K m 0 new (begun K m row work.regs))

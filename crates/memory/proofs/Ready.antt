-- A powered memory is never ready to program bytes that its kind does not load.
use Rattle.std.proofs.Common.{◌≡◌, ℕ, ◌+◌, ◌<◌, Bool, true, false, not, ◌&&◌, eqb, leb, ◌≢◌, ◌⊎◌, List, [], ◌∷◌, ◌++◌, length, set, sym, refl, ap, ◌∙◌, subst, inl, inr, true≢false, arith}
use Rattle.std.proofs.lemmas.List.{get_or-set_same, get_or-set_other}
use Rattle.std.proofs.lemmas.Bool.{cases_eq, leb-true, eqb-true, not-true, not-false, and_parts}
use Rattle.base.specs.Bits.{value, bits_all, full}
use Rattle.base.specs.Crc.{crc16, inverted}
use Rattle.kinds.specs.Kinds.{Rules, may_copy, Bytes, at, program, whole_row}
use Rattle.memory.specs.Scratchpads.{Regs, set_pf, set_pad, status, offset_of, row_of, Awaited, command, load_low, load_high, load_data, copy_low, copy_high, copy_status, read_low, read_high, Doing, idle, programming, taking, sending, alternating, Work, on, await, Command, write_scratchpad, read_scratchpad, copy_scratchpad, read_memory, unknown, command_of, run_command, after_data, copy_begins, began_copy, stopped_copy, take_byte, collect_bit, take_doing, is_programming, Padded, programmed_bytes, power_up_pad, select_pad, take_pad, ended, dwell_pad}
use Rattle.memory.specs.Memories.{Memory, padded, bytes_in, kind_in, power_up_memory, select_memory, take_memory, dwell_memory, cut_memory}
use Rattle.memory.proofs.Sound.{SoundRegs, SoundAwaited, SoundDoing, SoundPad, SoundMemory}

-- F says which byte may stand at which address
module _ (F : ℕ → ℕ → Type 0) where
  -- the first k bytes of the scratchpad may stand in the row
  abbrev pub FitTo : ℕ → Regs → Type 0
  FitTo k r = (i : ℕ) → i < k → F (row_of r + i) (at r.pad i)

  -- while PF is clear, all of them may
  abbrev pub ReadyRegs : Regs → Type 0
  ReadyRegs r = r.pf ≡ false → FitTo 8 r

  -- before the data byte at offset k of a load
  pub record Loading (r : Regs) (k : ℕ) : Type 0 where
    pub partial : r.pf ≡ true
    pub so_far : offset_of r ≡ 0 → FitTo k r

  abbrev pub ReadyAwaited : Regs → Awaited → Type 0
  ReadyAwaited r command = Unit {0}
  ReadyAwaited r load_low = r.pf ≡ true
  ReadyAwaited r load_high = r.pf ≡ true
  ReadyAwaited r (load_data k sum) = Loading r k
  ReadyAwaited r copy_low = Unit {0}
  ReadyAwaited r (copy_high x) = Unit {0}
  ReadyAwaited r (copy_status x y) = Unit {0}
  ReadyAwaited r read_low = Unit {0}
  ReadyAwaited r (read_high x) = Unit {0}

  abbrev pub ReadyDoing : Regs → Doing → Type 0
  ReadyDoing r idle = Unit {0}
  ReadyDoing r programming = r.pf ≡ false
  ReadyDoing r (taking w bs) = ReadyAwaited r w
  ReadyDoing r (sending bs) = Unit {0}
  ReadyDoing r (alternating x) = Unit {0}

  pub record ReadyWork (w : Work) : Type 0 where
    pub regs : ReadyRegs w.regs
    pub doing : ReadyDoing w.regs w.doing

  module _ (K : Rules) (m : List ℕ) (fits : (a x : ℕ) → F a (K.load m a x)) where
    command_ready : (c : Command) (r : Regs) → ReadyRegs r → ReadyWork (run_command K m c r)
    command_ready write_scratchpad r f = record { regs = λ e. absurd (true≢false e); doing = refl }
    command_ready read_scratchpad r f = record { regs = f; doing = tt }
    command_ready copy_scratchpad r f = record { regs = f; doing = tt }
    command_ready read_memory r f = record { regs = f; doing = tt }
    command_ready unknown r f = record { regs = f; doing = tt }

    -- one more byte is loaded
    fit_more : (k b : ℕ) (r : Regs) → SoundRegs r → k < 8 → FitTo k r → FitTo (k + 1) (set_pad k (K.load m (row_of r + k) b) r)
    fit_more k b r s room f i h = go (cases_eq i k)
      where
        v : ℕ
        v = K.load m (row_of r + k) b

        go : (i ≡ k) ⊎ (i ≢ k) → F (row_of r + i) (at (set r.pad k v) i)
        go (inl e) =
            let within : k < length r.pad = omega (arith, s.whole) in
            subst (λ j. F (row_of r + j) (at (set r.pad k v) j)) (sym e)
            (subst (F (row_of r + k)) (sym (get_or-set_same r.pad k v 255 within)) (fits (row_of r + k) b))
        go (inr ne) = subst (F (row_of r + i)) (sym (get_or-set_other r.pad k i v 255 ne)) (f i (omega arith))

    loaded_ready : (k sum b : ℕ) (r : Regs) → SoundRegs r → k < 8 → Loading r k → ReadyWork (after_data K m k sum (set_pad k (K.load m (row_of r + k) b) r))
    loaded_ready k sum b r s room l = go (leb 7 k) refl
      where
        r' : Regs
        r' = set_pad k (K.load m (row_of r + k) b) r

        more : offset_of r ≡ 0 → FitTo (k + 1) r'
        more z = fit_more k b r s room (l.so_far z)

        aligned : (r.pf && not (eqb (offset_of r) 0)) ≡ false → offset_of r ≡ 0
        aligned z = eqb-true _ _ (not-false _ (sym (ap (λ p. p && not (eqb (offset_of r) 0)) l.partial) ∙ z))

        go : (t : Bool) → leb 7 k ≡ t → ReadyWork (elim t as (λ _. Work) [
          | true ↦ on (set_pf (r.pf && not (eqb (offset_of r) 0)) r') (sending (bits_all (inverted sum)))
          | false ↦ on r' (await (load_data (k + 1) sum))
        ])
        go true e = record { regs = λ z i h. more (aligned z) i (omega (arith, leb-true 7 k e)); doing = tt }
        go false e = record { regs = λ z. absurd (true≢false (sym l.partial ∙ z)); doing = record { partial = l.partial; so_far = more } }

    copies_clear : (x y z : ℕ) (r : Regs) → copy_begins K m x y z r ≡ true → r.pf ≡ false
    copies_clear x y z r e =
        not-true r.pf (go (eqb x r.ta1) (eqb y r.ta2) (eqb z (status r)) (not r.pf) (may_copy K m (row_of r)) e)
      where
        go : (a b c d g : Bool) → (a && (b && (c && (d && g)))) ≡ true → d ≡ true
        go a b c d g h = (and_parts d g (and_parts c (d && g) (and_parts b (c && (d && g)) (and_parts a (b && (c && (d && g))) h).1).1).1).0

    got_ready : (w : Awaited) (b : ℕ) (r : Regs) → SoundRegs r → SoundAwaited w → ReadyRegs r → ReadyAwaited r w → ReadyWork (take_byte K m w b r)
    got_ready command b r s a f h = command_ready (command_of b) r f
    got_ready load_low b r s a f h = record { regs = λ z. absurd (true≢false (sym h ∙ z)); doing = h }
    got_ready load_high b r s a f h = record {
      regs = λ z. absurd (true≢false (sym h ∙ z));
      doing = record { partial = h; so_far = λ z i l. absurd (omega arith) };
    }
    got_ready (load_data k sum) b r s a f h = loaded_ready k (crc16 sum (b ∷ [])) b r s a h
    got_ready copy_low b r s a f h = record { regs = f; doing = tt }
    got_ready (copy_high x) b r s a f h = record { regs = f; doing = tt }
    got_ready (copy_status x y) b r s a f h = go (copy_begins K m x y b r) refl
      where
        go : (t : Bool) → copy_begins K m x y b r ≡ t → ReadyWork (elim t as (λ _. Work) [ true ↦ on (began_copy K m r) programming | false ↦ on (stopped_copy K m x y b r) idle ])
        go true e = record { regs = f; doing = copies_clear x y b r e }
        go false e = record { regs = f; doing = tt }
    got_ready read_low b r s a f h = record { regs = f; doing = tt }
    got_ready (read_high x) b r s a f h = record { regs = f; doing = tt }

    came_ready : (w : Awaited) (bs : List Bool) (r : Regs) → SoundRegs r → SoundAwaited w → ReadyRegs r → ReadyAwaited r w → ReadyWork (collect_bit K m w bs r)
    came_ready w bs r s a f h =
        elim (full bs) as (λ t. ReadyWork (elim t as (λ _. Work) [ true ↦ take_byte K m w (value bs) r | false ↦ on r (taking w bs) ]))
        [ true ↦ got_ready w (value bs) r s a f h | false ↦ record { regs = f; doing = h } ]

    take_ready : (b : Bool) (r : Regs) (d : Doing) → SoundRegs r → SoundDoing d → ReadyRegs r → ReadyDoing r d → ReadyWork (take_doing K m b r d)
    take_ready b r idle s a f h = record { regs = f; doing = tt }
    take_ready b r programming s a f h = record { regs = f; doing = h }
    take_ready b r (taking w bs) s a f h = came_ready w (bs ++ (b ∷ [])) r s a.1 f h
    take_ready b r (sending bs) s a f h = record { regs = f; doing = tt }
    take_ready b r (alternating x) s a f h = record { regs = f; doing = tt }

-- F says which byte may stand at which address after which bytes
module _ (F : List ℕ → ℕ → ℕ → Type 0) where
  abbrev pub ReadyPad : Padded → Type 0
  ReadyPad p = ReadyWork (F p.bytes) p.work

  pub begun_ready : (p : Padded) → ReadyPad p → ReadyPad (select_pad p)
  begun_ready p s = record { regs = s.regs; doing = tt }

  pub woken_ready : (p : Padded) → ReadyPad (power_up_pad p)
  woken_ready p = record { regs = λ e. absurd (true≢false e); doing = tt }

  -- of a kind that loads only what F allows
  pub taken_ready : (p : Padded) (b : Bool) → ((a x : ℕ) → F p.bytes a (p.rules.load p.bytes a x)) → SoundPad p → ReadyPad p → ReadyPad (take_pad p b)
  taken_ready p b fits s h =
      take_ready (F p.bytes) p.rules p.bytes fits b p.work.regs p.work.doing
      s.work.regs s.work.doing h.regs h.doing

  -- the bytes once the row is programmed
  abbrev pub filled : Padded → ℕ → List ℕ
  filled p mask = program p.rules.w (row_of p.work.regs) p.work.regs.pad mask p.bytes

  -- what programs has a scratchpad that may stand in the row
  pub burnt_each : (P : List ℕ → Type 0) (p : Padded) (mask : ℕ) → ReadyPad p
      → (FitTo (F p.bytes) 8 p.work.regs → P (filled p mask)) → P p.bytes → P (programmed_bytes p mask)
  burnt_each P p mask s whole none = go p.work.doing s.doing
    where
      go : (d : Doing) → ReadyDoing (F p.bytes) p.work.regs d → P (elim (is_programming d) as (λ _. List ℕ) [ true ↦ filled p mask | false ↦ p.bytes ])
      go idle h = none
      go programming h = whole (s.regs h)
      go (taking w bs) h = none
      go (sending bs) h = none
      go (alternating x) h = none

  -- where the same scratchpad may be programmed again
  pub dwelt_ready : (p : Padded) → FitTo (F (filled p whole_row)) 8 p.work.regs → ReadyPad p → ReadyPad (dwell_pad p)
  dwelt_ready p again s = go p.work.doing s.doing
    where
      r : Regs
      r = p.work.regs

      go : (d : Doing) → ReadyDoing (F p.bytes) r d
          → ReadyWork (F (elim (is_programming d) as (λ _. List ℕ) [ true ↦ filled p whole_row | false ↦ p.bytes ])) (on r (ended d))
      go idle h = record { regs = s.regs; doing = tt }
      go programming h = record { regs = λ _. again; doing = tt }
      go (taking w bs) h = record { regs = s.regs; doing = h }
      go (sending bs) h = record { regs = s.regs; doing = tt }
      go (alternating x) h = record { regs = s.regs; doing = tt }

-- so much for a scratchpad; and of memories, where a kind loads only what F allows
module _ (F : List ℕ → ℕ → ℕ → Type 0) (K : Rules) (loads : (m : List ℕ) (a x : ℕ) → F m a (K.load m a x)) where
  abbrev pub ReadyMemory : Memory → Type 0
  ReadyMemory (padded p) = p.rules ≡ K → ReadyPad F p

  pub selected_fits : (m : Memory) → ReadyMemory m → ReadyMemory (select_memory m)
  selected_fits (padded p) h = λ e. begun_ready F p (h e)

  pub powered_fits : (m : Memory) → ReadyMemory (power_up_memory m)
  powered_fits (padded p) = λ e. woken_ready F p

  pub taken_fits : (m : Memory) (b : Bool) → SoundMemory m → ReadyMemory m → ReadyMemory (take_memory m b)
  taken_fits (padded p) b s h = λ e. taken_ready F p b (λ a x. subst (λ (k : Rules). F p.bytes a (k.load p.bytes a x)) (sym e) (loads p.bytes a x)) s (h e)

  -- each byte of the row may stand in it
  abbrev RowFits : List ℕ → ℕ → List ℕ → Type 0
  RowFits m row new = (i : ℕ) → i < 8 → F m (row + i) (at new i)

  pub dwelt_fits : ((row : ℕ) (new m : List ℕ) → length m ≡ K.n → Bytes new → RowFits (program K.w row new whole_row m) row new)
      → (m : Memory) → SoundMemory m → ReadyMemory m → ReadyMemory (dwell_memory m)
  dwelt_fits again (padded p) s h = λ e. dwelt_ready F p
      (subst (λ (k : Rules). RowFits (program k.w (row_of p.work.regs) p.work.regs.pad whole_row p.bytes) (row_of p.work.regs) p.work.regs.pad) (sym e)
      (again (row_of p.work.regs) p.work.regs.pad p.bytes (s.whole ∙ ap (λ (k : Rules). k.n) e) s.work.regs.small)) (h e)

  -- so what programming keeps of the bytes where each may stand, a cut keeps
  pub programmed_fits : (R : List ℕ → List ℕ → Type 0) → ((m : List ℕ) → R m m) → ((m : List ℕ) (w row : ℕ) (new : List ℕ) (mask : ℕ) → Bytes m → RowFits m row new → R m (program w row new mask m))
      → (m : Memory) (mask : ℕ) → SoundMemory m → ReadyMemory m → kind_in m ≡ K → R (bytes_in m) (bytes_in (cut_memory m mask))
  programmed_fits R self programs (padded p) mask s h e =
      burnt_each F (R p.bytes) p mask (h e) (λ fit. programs p.bytes p.rules.w (row_of p.work.regs) p.work.regs.pad mask s.small fit) (self p.bytes)

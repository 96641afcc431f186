-- Reading tells the truth.
use Rattle.std.proofs.Common.{◌≡◌, ℕ, zero, suc, ◌+◌, ◌%◌, ◌^◌, ◌<◌, Bool, true, false, cond, ◌&&◌, eqb, List, [], ◌∷◌, ◌++◌, map, drop, sym, refl, ap, ◌∙◌, subst, arith, eq-eqb, ne_eqb}
use mathlib.Core.Bool.{and-false}
use Rattle.base.specs.Bits.{bits_all}
use Rattle.base.proofs.Queues.{bytes_append}
use Rattle.base.specs.Crc.{crc16, inverted}
use Rattle.kinds.specs.Kinds.{Rules, Bytes}
use Rattle.memory.specs.Scratchpads.{Regs, flag, status, report, offset_of, Work, on, sending, command, Padded}
use Rattle.memory.specs.Memories.{padded}
use Rattle.memory.proofs.Sound.{SoundRegs, SoundPad, SoundMemory}
use Rattle.chip.specs.Chips.{Phase, selected}
use Rattle.chip.specs.Chips.{on as under}
use Rattle.chip.specs.ChipStates.{ChipState, bytes_of, has_power, reset_chip, opened_by}
use Rattle.chip.proofs.Sound.{SoundAll, met_sounds}
use Rattle.line.specs.Lines.{presence, any_busy}
use Rattle.rig.specs.Rigs.{reset_pulse}
use Rattle.wire.specs.Jobs.{ret, Got, done, line_busy, run, Said, good, bad, answered, report_of, send_bytes, read_bytes}
use Rattle.wire.specs.Exchanges.{answer, refuse, pulses, error_code}
use Rattle.wire.specs.declared.exchange_fault.ExchangeError.{ExchangeError}
use Rattle.wire.specs.declared.exchange_fault.ExchangeError.TheVariants.{NoPresence}
use Rattle.wire.specs.Laws.{powered_in, NoneHas, Single, row_in}
use Rattle.wire.proofs.Leading.{free, Leads, leads_then, WideAll, opened, unopened}
use Rattle.wire.proofs.Alone.{QuietAll, put, talking, busy_put, one_byte, bytes_read, send_quiet, bytes_quiet}
use Rattle.wire.proofs.One.{opened_none, opened_wide, others_quiet, absent_quiet, presence_mid, open_one}
use Rattle.wire.proofs.Power.{GotGood, Lost, Wary, lost_ret, lost_step, lost_exchange, wary_exchange, kept_free, good_free, good_kept}
use Rattle.reading.specs.Readings.{all_ones, probes_scratchpad, reads_memory, failed, reading, read_call}
use Rattle.reading.specs.Laws.{Kept, ReadingTells}
use Rattle.reading.proofs.Parts.{closed, judged, found, asked, call_at}
use Rattle.reading.proofs.Found.{found_row, closed_by}
use Rattle.wire.proofs.Selected.{sound_wide, sound_mid, powered_one, padding}

-- E/S is never FFh
status_bound : (r : Regs) → r.e < 8 → status r < 255
status_bound r h = go r.pf r.aa
  where
    go : (p a : Bool) → r.e + flag p 0x20 + flag a 0x80 < 255
    go true true = omega arith
    go true false = omega arith
    go false true = omega arith
    go false false = omega arith

three_bytes : (a b c : ℕ) → a < 256 → b < 256 → c < 256 → Bytes (a ∷ b ∷ c ∷ [])
three_bytes a b c ha hb hc zero = ha
three_bytes a b c ha hb hc (suc zero) = hb
three_bytes a b c ha hb hc (suc (suc zero)) = hc
three_bytes a b c ha hb hc (suc (suc (suc n))) = omega arith

-- a reading that read
abbrev pub IsGood : Said (List ℕ) → Type 0
IsGood (good a) = Unit {0}
IsGood (bad k e) = ⊥

module _ (x row : ℕ) where
  -- whichever step power fails at, no row is read
  failed_lost : (w : ExchangeError) (e : ℕ) → Lost IsGood (failed w e)
  failed_lost w e = lost_ret IsGood (bad (error_code w) e) (λ z. z)

  closed_lost : (f : List ℕ) → Lost IsGood (closed f)
  closed_lost f = lost_step IsGood reset_pulse (λ b. pulses (cond b (answer tt) (refuse NoPresence 3)) (λ (_ : Unit {0}). ret (good f)) failed) (failed_lost NoPresence 3)

  closed_wary : (f : List ℕ) → Wary IsGood (closed f)
  closed_wary f = (failed_lost NoPresence 3, go)
    where
      go : (b : Bool) → Wary IsGood (pulses (cond b (answer tt) (refuse NoPresence 3)) (λ (_ : Unit {0}). ret (good f)) failed)
      go true = tt
      go false = tt

  reading_wary : Wary IsGood (reading x row)
  reading_wary =
      wary_exchange IsGood (found x row) failed (λ _. lost_exchange IsGood closed failed closed_lost failed_lost (reads_memory 2 x row)) failed_lost
      (λ _. wary_exchange IsGood closed failed closed_lost failed_lost closed_wary (λ w e. tt) (reads_memory 2 x row)) (λ w e. tt) (probes_scratchpad x)

  module _ (hx : x < 2 ^ 64) (hr : row < 65536) where
    -- 1. the tag has power: the reading answers its row
    module _ (us vs : List ChipState) (nu : NoneHas x us) (nv : NoneHas x vs) (wu : WideAll us) (wv : WideAll vs) (q : Padded) (sq : SoundPad q) where
      abbrev pub K : Rules
      K = q.rules

      abbrev pub m : List ℕ
      m = q.bytes

      abbrev pub r : Regs
      r = q.work.regs

      abbrev pub us1 : List ChipState
      us1 = map (opened_by x) us

      abbrev pub vs1 : List ChipState
      vs1 = map (opened_by x) vs

      pub qu1 : QuietAll us1
      qu1 = others_quiet x us nu

      pub qv1 : QuietAll vs1
      qv1 = others_quiet x vs nv

      abbrev pub us2 : List ChipState
      us2 = map (opened_by x) us1

      abbrev pub vs2 : List ChipState
      vs2 = map (opened_by x) vs1

      pub qu2 : QuietAll us2
      qu2 = others_quiet x us1 (opened_none x us nu)

      pub qv2 : QuietAll vs2
      qv2 = others_quiet x vs1 (opened_none x vs nv)

      abbrev pub at1 : Work → List ChipState
      at1 w = put us1 vs1 qu1 qv1 (talking us1 vs1 qu1 qv1 K x m true w)

      abbrev pub at2 : Work → List ChipState
      at2 w = put us2 vs2 qu2 qv2 (talking us2 vs2 qu2 qv2 K x m true w)

      -- the tag once its row was told
      abbrev pub last : Work
      last = on r (sending (bits_all (drop 8 (drop row m))))

      abbrev pub got : List ℕ
      got = r.ta1 ∷ r.ta2 ∷ status r ∷ []

      abbrev pub rest : List ℕ
      rest = drop (offset_of r) r.pad ++ inverted (crc16 0 (0xAA ∷ report r))

      sr : SoundRegs r
      sr = sq.work.regs

      not_garbled : all_ones got ≡ false
      not_garbled = ap (λ t. eqb r.ta1 255 && (eqb r.ta2 255 && t)) (ne_eqb (status r) 255 (λ e. let b = status_bound r sr.ending in omega arith)) ∙ ap (λ t. eqb r.ta1 255 && t) (and-false (eqb r.ta2 255)) ∙ and-false (eqb r.ta1 255)

      -- AAh tells three bytes that are not all FFh
      asking : (rc : Bool) (p : Phase) → any_busy (us ++ (record { number = x; live = under rc p; memory = padded q } ∷ vs)) ≡ false
          → Leads (reading x row) (us ++ (record { number = x; live = under rc p; memory = padded q } ∷ vs)) (found x row tt) (at1 (on r (sending (bits_all rest))))
      asking rc p e =
          leads_then (open_one x hx us vs wu wv (send_bytes (0xAA ∷ []) (read_bytes 3 (asked x row))) (failed NoPresence 1) rc p q e)
          (leads_then (one_byte us1 vs1 qu1 qv1 K x m true 0xAA [] (read_bytes 3 (asked x row)) r command (omega arith))
          (subst (λ l. Leads (read_bytes 3 (asked x row)) (at1 (on r (sending l))) (found x row tt) (at1 (on r (sending (bits_all rest))))) (sym (bytes_append got rest))
          (subst (λ t. Leads (read_bytes 3 (asked x row)) (at1 (on r (sending (bits_all got ++ bits_all rest)))) (pulses (judged t) (found x row) failed) (at1 (on r (sending (bits_all rest))))) not_garbled
          (bytes_read us1 vs1 qu1 qv1 K x m true got (bits_all rest) (asked x row) r (three_bytes r.ta1 r.ta2 (status r) sr.low sr.high (let b = status_bound r sr.ending in omega arith))))))

      -- F0h tells the row, and the closing reset finds the tag
      finding : Leads (found x row tt) (at1 (on r (sending (bits_all rest)))) (closed (row_in m row)) (at2 last)
      finding =
          found_row x row hx hr us1 vs1 (opened_none x us nu) (opened_none x vs nv) (opened_wide x us wu) (opened_wide x vs wv) 2 closed failed true selected
          (record { rules = K; bytes = m; work = on r (sending (bits_all rest)) }) sq.small (busy_put us1 vs1 (talking us1 vs1 qu1 qv1 K x m true (on r (sending (bits_all rest)))) qu1 qv1)

      closing-reset : Leads (closed (row_in m row)) (at2 last) (ret (good (row_in m row))) (map reset_chip (at2 last))
      closing-reset =
          closed_by 3 (λ _. ret (good (row_in m row))) failed (at2 last) (busy_put us2 vs2 (talking us2 vs2 qu2 qv2 K x m true last) qu2 qv2)
          (presence_mid us2 vs2 (talking us2 vs2 qu2 qv2 K x m true last) refl)

      pub reads : (rc : Bool) (p : Phase) → any_busy (us ++ (record { number = x; live = under rc p; memory = padded q } ∷ vs)) ≡ false
          → Leads (reading x row) (us ++ (record { number = x; live = under rc p; memory = padded q } ∷ vs)) (ret (good (row_in m row))) (map reset_chip (at2 last))
      reads rc p e = leads_then (asking rc p e) (leads_then finding closing-reset)

    -- 2. no powered chip has the number: the reading is refused in its first exchange
    abbrev Refused : List ChipState → Type 0
    Refused l = (k : ℕ) × (e : ℕ) × ((run 0 (reading x row) (free l)).got ≡ done (bad k e))

    pub absent : (l : List ChipState) → WideAll l → any_busy l ≡ false → powered_in x l ≡ false → Refused l
    absent l w e a = go (presence l) refl
      where
        quietly : QuietAll (map (opened_by x) l)
        quietly = absent_quiet x l a

        silence : Leads (send_bytes (0xAA ∷ []) (read_bytes 3 (asked x row))) (map (opened_by x) l) (ret (bad 6 1)) (map (opened_by x) l)
        silence =
            leads_then (send_quiet (bits_all (0xAA ∷ [])) (read_bytes 3 (asked x row)) (map (opened_by x) l) quietly)
            (bytes_quiet 3 (asked x row) (map (opened_by x) l) quietly)

        go : (t : Bool) → presence l ≡ t → Refused l
        go true p =
            (6, 1, ap (λ w. w.got) ((leads_then (opened x (send_bytes (0xAA ∷ []) (read_bytes 3 (asked x row))) (failed NoPresence 1) l hx w e p) silence).so 0).1)
        go false p = (5, 1, ap (λ w. w.got) ((unopened x (send_bytes (0xAA ∷ []) (read_bytes 3 (asked x row))) (failed NoPresence 1) l e p).so 0).1)

tag_tells : (x row : ℕ) → x < 2 ^ 64 → row < 65536 → (l : List ChipState) → SoundAll l → any_busy l ≡ false → (o : Single x l) → has_power o.tag ≡ true
    → (run 0 (reading x row) (free l)).got ≡ done (good (row_in (bytes_of o.tag) row))
tag_tells x row hx hr l s b o p =
    let parts = sound_mid o.before o.behind o.tag (subst SoundAll o.so s) in
    let t = padding x o.tag o.is p o.pad in
    ap (λ k. (run 0 (reading x row) (free k)).got) o.so
    ∙ subst (λ c. SoundMemory c.memory → any_busy (o.before ++ (c ∷ o.behind)) ≡ false → (run 0 (reading x row) (free (o.before ++ (c ∷ o.behind)))).got ≡ done (good (row_in (bytes_of c) row))) (sym t.so)
    (λ m q. ap (λ w. w.got) ((reads x row hx hr o.before o.behind o.none_before o.none_behind (sound_wide o.before parts.0) (sound_wide o.behind parts.2) t.pad m t.rc t.phase q).so 0).1)
    parts.1.memory (ap any_busy (sym o.so) ∙ b)

pub reading-tells : ReadingTells
reading-tells r x row met hx ha hr e s = record { kept = kept; lacked = lacked }
  where
    sounds : SoundAll r.line
    sounds = met_sounds r.line met

    aligned : eqb (row % 8) 0 ≡ true
    aligned = eq-eqb (row % 8) 0 ha

    freely : powered_in x r.line ≡ true → (run 0 (reading x row) (free r.line)).got ≡ done (good (row_in (bytes_of s.tag) row))
    freely u =
        tag_tells x row hx hr r.line sounds e s (powered_one x s.before s.behind s.tag s.none_before s.none_behind (ap (powered_in x) (sym s.so) ∙ u))

    kept : Kept x row r → (steps : ℕ) × ((read_call x row r).1 ≡ answered (row_in (bytes_of s.tag) row) steps)
    kept k = (
      (run 0 (reading x row) r).steps,
      ap (λ t. (call_at x row r t).1) aligned
          ∙ ap (λ g. report_of g (run 0 (reading x row) r).steps) ((kept_free x 0 (reading x row) r.line r.fuse k.1).got ∙ freely k.0),
    )

    said : (g : Got (Said (List ℕ))) (n steps : ℕ) (found : List ℕ) → report_of g n ≡ answered found steps → GotGood IsGood g
    said (done (good a)) n steps found q = tt
    said (done (bad k f)) n steps found q = let z : ◌≡◌ {A = ℕ} 0 1 = cc in absurd (omega arith)
    said line_busy n steps found q = let z : ◌≡◌ {A = ℕ} 0 1 = cc in absurd (omega arith)

    lacked : (Kept x row r → ⊥) → (found : List ℕ) (steps : ℕ) → (read_call x row r).1 ≡ answered found steps → ⊥
    lacked never row' steps q = go (powered_in x r.line) refl
      where
        is_good : GotGood IsGood (run 0 (reading x row) r).got
        is_good = said (run 0 (reading x row) r).got (run 0 (reading x row) r).steps steps row' (sym (ap (λ t. (call_at x row r t).1) aligned) ∙ q)

        go : (t : Bool) → powered_in x r.line ≡ t → ⊥
        go true u = never (u, good_kept IsGood x 0 (reading x row) r.line r.fuse (reading_wary x row) u is_good)
        go false u =
            let gone = absent x row hx hr r.line (sound_wide r.line sounds) e u in
            subst (GotGood IsGood) ((good_free IsGood 0 (reading x row) r.line r.fuse (reading_wary x row) is_good).got ∙ gone.2) is_good

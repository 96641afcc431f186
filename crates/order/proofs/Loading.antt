-- A row sent to a tag: what its scratchpad holds then.
use Rattle.std.proofs.Common.{◌≡◌, ℕ, zero, suc, ◌+◌, ◌-◌, ◌*◌, ◌/◌, ◌%◌, ◌<◌, Bool, true, false, not, ◌&&◌, eqb, leb, List, [], ◌∷◌, ◌++◌, length, take, drop, sym, refl, ap, ◌∙◌, subst, ap₂, append_assoc, append-nil, arith, length-set, eq-eqb}
use Rattle.std.proofs.lemmas.List.{take_more_set, take_all}
use Rattle.std.proofs.lemmas.Bool.Decides.{nat_tests}
use Rattle.base.specs.Bits.{bits_of, bits_all}
use Rattle.base.specs.Crc.{poly16, crc16, inverted}
use Rattle.base.proofs.CrcRegister.{crc_append}
use Rattle.kinds.specs.Kinds.{Rules, Lawful, at, Bytes}
use Rattle.memory.specs.Scratchpads.{Regs, set_ta1, set_ta2, set_pf, set_aa, set_pad, flag, status, offset_of, row_of, report, load_low, load_high, load_data, command, Work, on, await, sending}
use Rattle.chip.specs.ChipStates.{ChipState}
use Rattle.wire.specs.Jobs.{Job, send_bits, send_bytes}
use Rattle.wire.proofs.Leading.{Leads, leads_then}
use Rattle.wire.proofs.Alone.{QuietAll, put, talking, one_byte}

-- sums go on
pub sum_more : (c d : ℕ) (ds : List ℕ) → crc16 (crc16 c (d ∷ [])) ds ≡ crc16 c (d ∷ ds)
sum_more c d ds = sym (crc_append poly16 c (bits_of 8 d) (bits_all ds))

module _ (K : Rules) (m : List ℕ) where
  -- what the load rule makes of bytes for the addresses from a on
  abbrev pub loads_at : ℕ → List ℕ → List ℕ
  loads_at a [] = []
  loads_at a (d ∷ ds) = K.load m a d ∷ loads_at (a + 1) ds

  pub writes_scratchpad-length : (a : ℕ) (ds : List ℕ) → length (loads_at a ds) ≡ length ds
  writes_scratchpad-length a [] = refl
  writes_scratchpad-length a (d ∷ ds) = ap suc (writes_scratchpad-length (a + 1) ds)

  pub loads_bytes : Lawful K → Bytes m → (a : ℕ) (ds : List ℕ) → Bytes ds → Bytes (loads_at a ds)
  loads_bytes law small a [] h i = h i
  loads_bytes law small a (d ∷ ds) h zero = law.load_byte m a d (h 0) small
  loads_bytes law small a (d ∷ ds) h (suc i) = loads_bytes law small (a + 1) ds (λ j. h (suc j)) i

  -- bytes that are held already load as they are
  pub writes_scratchpad-held : Lawful K → length m ≡ K.n → (a : ℕ) (ds : List ℕ) → ((i : ℕ) → i < length ds → at ds i ≡ at m (a + i)) → loads_at a ds ≡ ds
  writes_scratchpad-held law whole a [] h = refl
  writes_scratchpad-held law whole a (d ∷ ds) h = ap₂ (λ x xs. x ∷ xs) first (writes_scratchpad-held law whole (a + 1) ds rest)
    where
      first : K.load m a d ≡ d
      first =
          let e : a + 0 ≡ a = omega arith in
          let here : d ≡ at m a = h 0 (omega arith) ∙ ap (at m) e in
          ap (K.load m a) here ∙ law.load_held m a whole ∙ sym here

      rest : (i : ℕ) → i < length ds → at ds i ≡ at m (a + 1 + i)
      rest i l = let e : a + suc i ≡ a + 1 + i = omega arith in h (suc i) (omega arith) ∙ ap (at m) e

  -- the registers once bytes were loaded from offset k on
  abbrev pub filled : ℕ → List ℕ → Regs → Regs
  filled k [] r = r
  filled k (d ∷ ds) r = filled (k + 1) ds (set_pad k (K.load m (row_of r + k) d) r)

  -- and once the last offset was reached
  abbrev pub ready : Regs → Regs
  ready r = set_pf (r.pf && not (eqb (offset_of r) 0)) r

  filled_low : (k : ℕ) (ds : List ℕ) (r : Regs) → (filled k ds r).ta1 ≡ r.ta1
  filled_low k [] r = refl
  filled_low k (d ∷ ds) r = filled_low (k + 1) ds (set_pad k (K.load m (row_of r + k) d) r)

  filled_high : (k : ℕ) (ds : List ℕ) (r : Regs) → (filled k ds r).ta2 ≡ r.ta2
  filled_high k [] r = refl
  filled_high k (d ∷ ds) r = filled_high (k + 1) ds (set_pad k (K.load m (row_of r + k) d) r)

  filled_pf : (k : ℕ) (ds : List ℕ) (r : Regs) → (filled k ds r).pf ≡ r.pf
  filled_pf k [] r = refl
  filled_pf k (d ∷ ds) r = filled_pf (k + 1) ds (set_pad k (K.load m (row_of r + k) d) r)

  filled_aa : (k : ℕ) (ds : List ℕ) (r : Regs) → (filled k ds r).aa ≡ r.aa
  filled_aa k [] r = refl
  filled_aa k (d ∷ ds) r = filled_aa (k + 1) ds (set_pad k (K.load m (row_of r + k) d) r)

  filled_e : (k d : ℕ) (ds : List ℕ) (r : Regs) → (filled k (d ∷ ds) r).e ≡ k + length ds
  filled_e k d [] r = omega arith
  filled_e k d (d' ∷ ds) r =
      let e : k + 1 + length ds ≡ k + suc (length ds) = omega arith in
      filled_e (k + 1) d' ds (set_pad k (K.load m (row_of r + k) d) r) ∙ e

  filled_pad : (k : ℕ) (ds : List ℕ) (r : Regs) → length r.pad ≡ k + length ds → (filled k ds r).pad ≡ take k r.pad ++ loads_at (row_of r + k) ds
  filled_pad k [] r h = sym (append-nil (take k r.pad) ∙ take_all k r.pad (omega arith))
  filled_pad k (d ∷ ds) r h =
      let v = K.load m (row_of r + k) d in
      let e : row_of r + (k + 1) ≡ row_of r + k + 1 = omega arith in
      filled_pad (k + 1) ds (set_pad k v r) (length-set r.pad k v ∙ h ∙ (let f : k + suc (length ds) ≡ k + 1 + length ds = omega arith in f))
      ∙ ap₂ (λ p a. p ++ loads_at a ds) (take_more_set r.pad k v (omega arith)) e
      ∙ append_assoc (take k r.pad) (v ∷ []) (loads_at (row_of r + k + 1) ds)

  -- the registers of a scratchpad that took the row's bytes whole
  pub record Took (row : ℕ) (new : List ℕ) (r : Regs) : Type 0 where
    pub low : r.ta1 ≡ row % 256
    pub high : r.ta2 ≡ row / 256
    pub ending : r.e ≡ 7
    pub clear : r.pf ≡ false
    pub unset : r.aa ≡ false
    pub pad : r.pad ≡ loads_at row new

  -- the registers when the data begin
  abbrev pub begun : ℕ → Regs → Regs
  begun row r = set_ta2 (row / 256) (set_ta1 (row % 256) (set_pf true (set_aa false r)))

  pub took : (row : ℕ) (new : List ℕ) (r : Regs) → row % 8 ≡ 0 → row < 65536 → length new ≡ 8 → length r.pad ≡ 8 → Took row new (ready (filled 0 new (begun row r)))
  took row [] r al hr len h = absurd (omega arith)
  took row (d ∷ ds) r al hr len h = record {
    low = low';
    high = filled_high 0 new s;
    ending = filled_e 0 d ds s ∙ (let e : 0 + length ds ≡ 7 = omega arith in e);
    clear = ap₂ (λ p t. p && not t) (filled_pf 0 new s) (ap (λ a. eqb (a % 8) 0) low' ∙ eq-eqb (row % 256 % 8) 0 (omega arith));
    unset = filled_aa 0 new s;
    pad = filled_pad 0 new s (h ∙ (let e : 8 ≡ 0 + length (d ∷ ds) = omega arith in e)) ∙ ap (λ a. loads_at a new) (let e : row % 256 + 256 * (row / 256) - row % 256 % 8 + 0 ≡ row = omega arith in e);
  }
    where
      new : List ℕ
      new = d ∷ ds

      s : Regs
      s = begun row r

      low' : (filled 0 (d ∷ ds) (begun row r)).ta1 ≡ row % 256
      low' = filled_low 0 (d ∷ ds) (begun row r)

  -- the status of such registers is 07h
  pub status_whole : (row : ℕ) (new : List ℕ) (r : Regs) → Took row new r → status r ≡ 7
  status_whole row new r t =
      ap₂ (λ p a. r.e + p + a) (ap (λ b. flag b 0x20) t.clear) (ap (λ b. flag b 0x80) t.unset) ∙ (let h = t.ending in let e : r.e + 0 + 0 ≡ 7 = omega (arith, h) in e)

  -- they report address, status and the loaded bytes
  pub reports : (row : ℕ) (new : List ℕ) (r : Regs) → row % 8 ≡ 0 → Took row new r → report r ≡ row % 256 ∷ row / 256 ∷ 7 ∷ loads_at row new
  reports row new r al t = λ i. t.low i ∷ t.high i ∷ status_whole row new r t i ∷ rest i
    where
      none : offset_of r ≡ 0
      none = ap (λ a. a % 8) t.low ∙ (let e : row % 256 % 8 ≡ 0 = omega arith in e)

      rest : drop (offset_of r) r.pad ≡ loads_at row new
      rest = ap₂ (λ k p. drop k p) none t.pad

module _ (us vs : List ChipState) (qa : QuietAll us) (qb : QuietAll vs) (K : Rules) (x : ℕ) (m : List ℕ) (rc : Bool) where
  abbrev pub with : Work → List ChipState
  with w = put us vs qa qb (talking us vs qa qb K x m rc w)

  -- data bytes up to the last offset
  loading : {A : Type 0} (k d : ℕ) (ds : List ℕ) (j : Job A) (r : Regs) (sum : ℕ) → k + length (d ∷ ds) ≡ 8 → Bytes (d ∷ ds)
      → Leads (send_bits (bits_all (d ∷ ds)) j) (with (on r (await (load_data k sum)))) j (with (on (ready K m (filled K m k (d ∷ ds) r)) (sending (bits_all (inverted (crc16 sum (d ∷ ds)))))))
  loading k d [] j r sum h small =
      let last : leb 7 k ≡ true = grind (arith, nat_tests) in
      subst (λ t. Leads (send_bits (bits_all (d ∷ [])) j) (with (on r (await (load_data k sum)))) j (with (elim t as (λ _. Work) [ true ↦ on (ready K m s) (sending (bits_all (inverted (crc16 sum (d ∷ []))))) | false ↦ on s (await (load_data (k + 1) (crc16 sum (d ∷ [])))) ]))) last
      (one_byte us vs qa qb K x m rc d [] j r (load_data k sum) (small 0))
    where
      s : Regs
      s = set_pad k (K.load m (row_of r + k) d) r
  loading k d (d' ∷ ds) j r sum h small =
      let more : leb 7 k ≡ false = grind (arith, nat_tests) in
      leads_then
      (subst (λ t. Leads (send_bits (bits_all (d ∷ d' ∷ ds)) j) (with (on r (await (load_data k sum)))) (send_bits (bits_all (d' ∷ ds)) j) (with (elim t as (λ _. Work) [ true ↦ on (ready K m s) (sending (bits_all (inverted (crc16 sum (d ∷ []))))) | false ↦ on s (await (load_data (k + 1) (crc16 sum (d ∷ [])))) ]))) more
      (one_byte us vs qa qb K x m rc d (bits_all (d' ∷ ds)) j r (load_data k sum) (small 0)))
      (subst (λ c. Leads (send_bits (bits_all (d' ∷ ds)) j) (with (on s (await (load_data (k + 1) (crc16 sum (d ∷ [])))))) j (with (on (ready K m (filled K m (k + 1) (d' ∷ ds) s)) (sending (bits_all (inverted c)))))) (sum_more sum d (d' ∷ ds))
      (loading (k + 1) d' ds j s (crc16 sum (d ∷ [])) (omega arith) (λ a. small (suc a))))
    where
      s : Regs
      s = set_pad k (K.load m (row_of r + k) d) r

  -- 0Fh, an address and a row
  pub sent : {A : Type 0} (row : ℕ) (new : List ℕ) (j : Job A) (r : Regs) → row % 8 ≡ 0 → row < 65536 → length new ≡ 8 → Bytes new
      → Leads (send_bytes (0x0F ∷ row % 256 ∷ row / 256 ∷ []) (send_bytes new j)) (with (on r (await command))) j
      (with (on (ready K m (filled K m 0 new (begun K m row r))) (sending (bits_all (inverted (crc16 (crc16 0 (0x0F ∷ row % 256 ∷ row / 256 ∷ [])) new))))))
  sent row [] j r al hr len small = absurd (omega arith)
  sent row (d ∷ ds) j r al hr len small =
      leads_then (one_byte us vs qa qb K x m rc 0x0F (bits_all (row % 256 ∷ row / 256 ∷ [])) (send_bytes (d ∷ ds) j) r command (omega arith))
      (leads_then (one_byte us vs qa qb K x m rc (row % 256) (bits_all (row / 256 ∷ [])) (send_bytes (d ∷ ds) j) (set_pf true (set_aa false r)) load_low (omega arith))
      (leads_then (one_byte us vs qa qb K x m rc (row / 256) [] (send_bytes (d ∷ ds) j) (set_ta1 (row % 256) (set_pf true (set_aa false r))) load_high (omega arith))
      (subst (λ o. Leads (send_bytes (d ∷ ds) j) (with (on (begun K m row r) (await (load_data o sum)))) j (with (on (ready K m (filled K m 0 (d ∷ ds) (begun K m row r))) (sending (bits_all (inverted (crc16 sum (d ∷ ds)))))))) (let e : 0 ≡ row % 256 % 8 = omega arith in e)
      (loading 0 d ds j (begun K m row r) sum (omega arith) small))))
    where
      sum : ℕ
      sum = crc16 0 (0x0F ∷ row % 256 ∷ row / 256 ∷ [])

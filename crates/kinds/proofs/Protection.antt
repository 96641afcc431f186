-- What may be programmed into a sealed tag, and what every programming of it keeps.
use Rattle.std.proofs.Common.{◌≡◌, ℕ, ◌+◌, ◌/◌, ◌<◌, ◌≤◌, Bool, true, false, ◌&&◌, ◌||◌, eqb, ltb, leb, ◌≢◌, ◌⊎◌, List, length, sym, refl, ap, ◌∙◌, subst, inl, inr, true≢false, arith}
use lib.Bits.{bit_and}
use Rattle.std.proofs.lemmas.Bool.Decides.{nat_tests}
use Rattle.std.proofs.lemmas.Bool.{cases_lt, cases_eq, eqb-true}
use Rattle.base.specs.Bits.{byte_of}
use Rattle.base.proofs.Queues.{bits_and}
use Rattle.kinds.specs.Kinds.{at, Bytes, whole_row, blend, program}
use Rattle.kinds.proofs.Blending.{blend-same, blend_falls}
use Rattle.kinds.proofs.Programming.{program_each, program_whole}
use Rattle.kinds.specs.SealedTag.{locked, control, protected, eprom, load}
use Rattle.kinds.specs.Protection.{bit_at, Keeps}

-- each 0 bit of the old byte is 0 in the new one
abbrev pub NoRise : ℕ → ℕ → Type 0
NoRise old new = (j : ℕ) → bit_at j old ≡ false → bit_at j new ≡ false

-- the byte x may stand at a after the bytes m
pub record Suits (m : List ℕ) (a x : ℕ) : Type 0 where
  pub kept : protected m a ≡ true → x ≡ at m a
  pub falls : eprom m a ≡ true → NoRise (at m a) x

pub suits_held : (m : List ℕ) (a : ℕ) → Suits m a (at m a)
suits_held m a = record { kept = λ _. refl; falls = λ _ j h. h }

pub suits_load : (m : List ℕ) (a x : ℕ) → Suits m a (load m a x)
suits_load m a x = record { kept = kept; falls = λ q. by (protected m a) (eprom m a) q }
  where
    kept : protected m a ≡ true → load m a x ≡ at m a
    kept p = rw (p, load)

    by : (p e : Bool) → e ≡ true → NoRise (at m a) (elim p [ true ↦ at m a | false ↦ elim e [ true ↦ bit_and x (at m a) | false ↦ x ] ])
    by true e q = λ j h. h
    by false true q = bits_and 8 x (at m a)
    by false false q = absurd (true≢false (sym q))

-- through any mask
pub suits_blend : (m : List ℕ) (a x mask : ℕ) → at m a < 256 → Suits m a x → Suits m a (blend mask x (at m a))
suits_blend m a x mask small s = record {
  kept = λ p. ap (λ v. blend mask v (at m a)) (s.kept p) ∙ blend-same mask (at m a) small;
  falls = λ q. blend_falls mask x (at m a) (s.falls q);
}

-- eight bytes that may stand in a row
abbrev pub RowSuits : List ℕ → ℕ → List ℕ → Type 0
RowSuits m row new = (i : ℕ) → i < 8 → Suits m (row + i) (at new i)

pub keeps_program : (m : List ℕ) (w row : ℕ) (new : List ℕ) (mask : ℕ) → Bytes m → RowSuits m row new → Keeps m (program w row new mask m)
keeps_program m w row new mask small fit = record { kept = λ a. (each a).kept; falls = λ a j q h. (each a).falls q j h }
  where
    each : (a : ℕ) → Suits m a (at (program w row new mask m) a)
    each = program_each (Suits m) w row new mask m (suits_held m)
        (λ i h. suits_blend m (row + i) (at new i) (byte_of mask i) (small (row + i)) (fit i h))

-- the four ways to be write-protected
pub data Protected (m : List ℕ) (a : ℕ) : Type 0 where
  page : a < 0x80 → control m a ≡ 0x55 → Protected m a
  lock : 0x80 ≤ a → a ≤ 0x84 → (at m a ≡ 0x55) ⊎ (at m a ≡ 0xAA) → Protected m a
  factory : a ≡ 0x85 → Protected m a
  user : 0x86 ≤ a → a ≤ 0x87 → at m 0x85 ≡ 0xAA → Protected m a

pub to_protected : (m : List ℕ) (a : ℕ) → Protected m a → protected m a ≡ true
to_protected m a (page h e) = grind (arith, nat_tests)
to_protected m a (lock h g (inl e)) = grind (arith, nat_tests)
to_protected m a (lock h g (inr e)) = grind (arith, nat_tests)
to_protected m a (factory e) = grind (arith, nat_tests)
to_protected m a (user h g e) = grind (arith, nat_tests)

one_of_four : (a b c d : Bool) → (a || b || c || d) ≡ true → (a ≡ true) ⊎ ((b ≡ true) ⊎ ((c ≡ true) ⊎ (d ≡ true)))
one_of_four true b c d p = inl refl
one_of_four false true c d p = inr (inl refl)
one_of_four false false true d p = inr (inr (inl refl))
one_of_four false false false d p = inr (inr (inr p))

pub from_protected : (m : List ℕ) (a : ℕ) → protected m a ≡ true → Protected m a
from_protected m a p = go (one_of_four _ _ _ _ p)
  where
    go : ((ltb a 0x80 && eqb (control m a) 0x55) ≡ true) ⊎ (((leb 0x80 a && leb a 0x84 && locked (at m a)) ≡ true)
        ⊎ ((eqb a 0x85 ≡ true) ⊎ ((leb 0x86 a && leb a 0x87 && eqb (at m 0x85) 0xAA) ≡ true))) → Protected m a
    go (inl h) = page (grind (arith, nat_tests)) (grind (arith, nat_tests))
    go (inr (inl h)) =
        let other : (at m a ≢ 0x55) → at m a ≡ 0xAA = grind (arith, nat_tests) in
        lock (grind (arith, nat_tests)) (grind (arith, nat_tests)) (elim (cases_eq (at m a) 0x55) [ inl e ↦ inl e | inr e ↦ inr (other e) ])
    go (inr (inr (inl h))) = factory (eqb-true _ _ h)
    go (inr (inr (inr h))) = user (grind (arith, nat_tests)) (grind (arith, nat_tests)) (grind (arith, nat_tests))

-- protection persists, since the bytes that set it are protected themselves
pub protected_stays : (m m' : List ℕ) → Keeps m m' → (a : ℕ) → protected m a ≡ true → protected m' a ≡ true
protected_stays m m' k a p = to_protected m' a (go (from_protected m a p))
  where
    same : (b : ℕ) → Protected m b → at m' b ≡ at m b
    same b q = k.kept b (to_protected m b q)

    go : Protected m a → Protected m' a
    go (page h e) = page h (same (0x80 + a / 32) (lock (omega arith) (omega arith) (inl e)) ∙ e)
    go (lock h g (inl e)) = lock h g (inl (same a (lock h g (inl e)) ∙ e))
    go (lock h g (inr e)) = lock h g (inr (same a (lock h g (inr e)) ∙ e))
    go (factory e) = factory e
    go (user h g e) = user h g (same 0x85 (factory refl) ∙ e)

pub eprom_stays : (m m' : List ℕ) → Keeps m m' → (a : ℕ) → eprom m a ≡ true → eprom m' a ≡ true
eprom_stays m m' k a p =
    let h : (a < 0x80) × (control m a ≡ 0xAA) = grind (arith, nat_tests) in
    let low : a < 0x80 = h.0 in
    let set : protected m (0x80 + a / 32) ≡ true = to_protected m (0x80 + a / 32) (lock (omega arith) (omega arith) (inr h.1)) in
    let e : control m' a ≡ 0xAA = k.kept (0x80 + a / 32) set ∙ h.1 in
    grind (arith, nat_tests)

pub keeps_self : (m : List ℕ) → Keeps m m
keeps_self m = record { kept = λ a _. refl; falls = λ a j _ h. h }

pub keeps_trans : (m m' m'' : List ℕ) → Keeps m m' → Keeps m' m'' → Keeps m m''
keeps_trans m m' m'' f g = record {
  kept = λ a p. g.kept a (protected_stays m m' f a p) ∙ f.kept a p;
  falls = λ a j q h. g.falls a j (eprom_stays m m' f a q) (f.falls a j q h);
}

-- from 88h on nothing is protected
pub suits_past : (m : List ℕ) (a x : ℕ) → 136 ≤ a → Suits m a x
suits_past m a x h = record { kept = λ p. go (from_protected m a p); falls = λ q. absurd (let low : a < 0x80 = grind (arith, nat_tests) in omega arith) }
  where
    go : Protected m a → x ≡ at m a
    go (page l e) = absurd (omega arith)
    go (lock l g e) = absurd (omega arith)
    go (factory e) = absurd (omega arith)
    go (user l g e) = absurd (omega arith)

-- after a whole programming the same bytes may be programmed again
pub again : (row : ℕ) (new m : List ℕ) → length m ≡ 144 → Bytes new → RowSuits (program 136 row new whole_row m) row new
again row new m len small i h = go (cases_lt (row + i) 136)
  where
    after : List ℕ
    after = program 136 row new whole_row m

    go : (row + i < 136) ⊎ (136 ≤ row + i) → Suits after (row + i) (at new i)
    go (inl l) = subst (Suits after (row + i)) (program_whole 136 row new m i h l (omega arith) small) (suits_held after (row + i))
    go (inr l) = suits_past after (row + i) (at new i) l

-- What holds of a memory from its making on: figures, bytes and registers lie within their bounds.
use Rattle.std.proofs.Common.{◌≡◌, ℕ, zero, suc, ◌+◌, ◌^◌, ◌<◌, ◌≤◌, Bool, true, false, not, ◌&&◌, eqb, leb, List, [], ◌∷◌, ◌++◌, length, replicate, sym, refl, ap, ◌∙◌, subst, arith, length-append, length-set}
use Rattle.std.proofs.lemmas.Bool.Decides.{nat_tests}
use Rattle.base.specs.Bits.{bit, value, bits_all, full}
use Rattle.base.proofs.Choice.{pick}
use Rattle.base.proofs.Queues.{double}
use Rattle.base.specs.Crc.{crc16, inverted}
use Rattle.kinds.specs.Kinds.{Rules, Lawful, Bytes, at, whole_row}
use Rattle.kinds.proofs.Programming.{program-length, program_bytes, bytes_set}
use Rattle.memory.specs.Scratchpads.{Regs, fresh, set_pf, set_aa, set_pad, offset_of, row_of, Awaited, command, load_low, load_high, load_data, copy_low, copy_high, copy_status, read_low, read_high, Doing, idle, programming, taking, sending, alternating, Work, on, await, Command, write_scratchpad, read_scratchpad, copy_scratchpad, read_memory, unknown, command_of, run_command, after_data, copy_begins, began_copy, stopped_copy, take_byte, collect_bit, take_doing, is_programming, Padded, programmed_bytes, take_pad, ended}
use Rattle.memory.specs.Memories.{Memory, padded, FreshMemory, power_up_memory, select_memory, take_memory, dwell_memory, cut_memory, bytes_in, kind_in}

pub record SoundRegs (r : Regs) : Type 0 where
  pub low : r.ta1 < 256
  pub high : r.ta2 < 256
  pub ending : r.e < 8
  pub whole : length r.pad ≡ 8
  pub small : Bytes r.pad

abbrev pub SoundAwaited : Awaited → Type 0
SoundAwaited command = Unit {0}
SoundAwaited load_low = Unit {0}
SoundAwaited load_high = Unit {0}
SoundAwaited (load_data k sum) = k < 8
SoundAwaited copy_low = Unit {0}
SoundAwaited (copy_high x) = Unit {0}
SoundAwaited (copy_status x y) = Unit {0}
SoundAwaited read_low = Unit {0}
SoundAwaited (read_high x) = Unit {0}

abbrev pub SoundDoing : Doing → Type 0
SoundDoing idle = Unit {0}
SoundDoing programming = Unit {0}
SoundDoing (taking w bs) = (length bs < 8) × SoundAwaited w
SoundDoing (sending bs) = Unit {0}
SoundDoing (alternating x) = Unit {0}

pub record SoundWork (w : Work) : Type 0 where
  pub regs : SoundRegs w.regs
  pub doing : SoundDoing w.doing

pub record SoundPad (p : Padded) : Type 0 where
  pub lawful : Lawful p.rules
  pub whole : length p.bytes ≡ p.rules.n
  pub small : Bytes p.bytes
  pub work : SoundWork p.work

abbrev pub SoundMemory : Memory → Type 0
SoundMemory (padded p) = SoundPad p

-- it has as many bytes as its kind says, and each is a byte
pub sound_length : (m : Memory) → SoundMemory m → length (bytes_in m) ≡ (kind_in m).n
sound_length (padded p) s = s.whole

pub sound_bytes : (m : Memory) → SoundMemory m → Bytes (bytes_in m)
sound_bytes (padded p) s = s.small

pub fresh_regs : SoundRegs fresh
fresh_regs = record { low = omega arith; high = omega arith; ending = omega arith; whole = refl; small = ones 8 }
  where
    ones : (n a : ℕ) → at (replicate n 255) a < 256
    ones zero a = omega arith
    ones (suc n) zero = omega arith
    ones (suc n) (suc a) = ones n a

flags : (r : Regs) (p a : Bool) → SoundRegs r → SoundRegs (set_pf p (set_aa a r))
flags r p a s = record { low = s.low; high = s.high; ending = s.ending; whole = s.whole; small = s.small }

pf_set : (r : Regs) (p : Bool) → SoundRegs r → SoundRegs (set_pf p r)
pf_set r p s = record { low = s.low; high = s.high; ending = s.ending; whole = s.whole; small = s.small }

module _ (K : Rules) (law : Lawful K) (m : List ℕ) (small : Bytes m) where
  command_sound : (c : Command) (r : Regs) → SoundRegs r → SoundWork (run_command K m c r)
  command_sound write_scratchpad r s = record { regs = flags r true false s; doing = (omega arith, tt) }
  command_sound read_scratchpad r s = record { regs = s; doing = tt }
  command_sound copy_scratchpad r s = record { regs = s; doing = (omega arith, tt) }
  command_sound read_memory r s = record { regs = s; doing = (omega arith, tt) }
  command_sound unknown r s = record { regs = s; doing = tt }

  loaded_sound : (k sum : ℕ) (r : Regs) → k < 8 → SoundRegs r → SoundWork (after_data K m k sum r)
  loaded_sound k sum r h s = go (leb 7 k) refl
    where
      go : (t : Bool) → leb 7 k ≡ t → SoundWork (elim t as (λ _. Work) [
        | true ↦ on (set_pf (r.pf && not (eqb (offset_of r) 0)) r) (sending (bits_all (inverted sum)))
        | false ↦ on r (await (load_data (k + 1) sum))
      ])
      go true e = record { regs = pf_set r (r.pf && not (eqb (offset_of r) 0)) s; doing = tt }
      go false e = record { regs = s; doing = (omega arith, grind (arith, nat_tests)) }

  began_sound : (r : Regs) → SoundRegs r → SoundRegs (began_copy K m r)
  began_sound r s = record { low = s.low; high = s.high; ending = s.ending; whole = s.whole; small = s.small }

  stopped_sound : (x y z : ℕ) (r : Regs) → SoundRegs r → SoundRegs (stopped_copy K m x y z r)
  stopped_sound x y z r s = record { low = s.low; high = s.high; ending = s.ending; whole = s.whole; small = s.small }

  got_sound : (w : Awaited) (b : ℕ) (r : Regs) → b < 256 → SoundAwaited w → SoundRegs r → SoundWork (take_byte K m w b r)
  got_sound command b r h a s = command_sound (command_of b) r s
  got_sound load_low b r h a s =
      record { regs = record { low = h; high = s.high; ending = omega arith; whole = s.whole; small = s.small }; doing = (omega arith, tt) }
  got_sound load_high b r h a s =
      record { regs = record { low = s.low; high = h; ending = s.ending; whole = s.whole; small = s.small }; doing = (omega arith, omega arith) }
  got_sound (load_data k sum) b r h a s =
      loaded_sound k (crc16 sum (b ∷ [])) (set_pad k (K.load m (row_of r + k) b) r) a
      (record {
        low = s.low;
        high = s.high;
        ending = a;
        whole = length-set r.pad k (K.load m (row_of r + k) b) ∙ s.whole;
        small = bytes_set r.pad k (K.load m (row_of r + k) b) s.small (law.load_byte m (row_of r + k) b h small);
      })
  got_sound copy_low b r h a s = record { regs = s; doing = (omega arith, tt) }
  got_sound (copy_high x) b r h a s = record { regs = s; doing = (omega arith, tt) }
  got_sound (copy_status x y) b r h a s =
      pick (copy_begins K m x y b r) SoundWork (record { regs = began_sound r s; doing = tt }) (record { regs = stopped_sound x y b r s; doing = tt })
  got_sound read_low b r h a s = record { regs = s; doing = (omega arith, tt) }
  got_sound (read_high x) b r h a s = record { regs = s; doing = tt }

  bit_small : (b : Bool) → bit b < 2
  bit_small true = omega arith
  bit_small false = omega arith

  value_small : (bs : List Bool) → value bs < 2 ^ length bs
  value_small [] = omega arith
  value_small (b ∷ bs) = omega (arith, bit_small b, value_small bs, double (length bs))

  came_sound : (w : Awaited) (bs : List Bool) (r : Regs) → length bs ≤ 8 → SoundAwaited w → SoundRegs r → SoundWork (collect_bit K m w bs r)
  came_sound w bs r h a s = go (full bs) refl
    where
      go : (t : Bool) → full bs ≡ t → SoundWork (elim t as (λ _. Work) [ true ↦ take_byte K m w (value bs) r | false ↦ on r (taking w bs) ])
      go true e =
          let eight : length bs ≡ 8 = grind (arith, nat_tests) in
          let small8 : value bs < 256 = subst (λ n. value bs < 2 ^ n) eight (value_small bs) in
          got_sound w (value bs) r small8 a s
      go false e = record { regs = s; doing = (grind (arith, nat_tests), a) }

  take_sound : (b : Bool) (r : Regs) (d : Doing) → SoundRegs r → SoundDoing d → SoundWork (take_doing K m b r d)
  take_sound b r idle s h = record { regs = s; doing = tt }
  take_sound b r programming s h = record { regs = s; doing = tt }
  take_sound b r (taking w bs) s h =
      came_sound w (bs ++ (b ∷ [])) r (let one = length-append bs (b ∷ []) in omega (arith, one, h.0)) h.1 s
  take_sound b r (sending bs) s h = record { regs = s; doing = tt }
  take_sound b r (alternating x) s h = record { regs = s; doing = tt }

pad_taken : (p : Padded) (b : Bool) → SoundPad p → SoundPad (take_pad p b)
pad_taken p b s = record {
  lawful = s.lawful;
  whole = s.whole;
  small = s.small;
  work = take_sound p.rules s.lawful p.bytes s.small b p.work.regs p.work.doing s.work.regs s.work.doing;
}

abbrev Within : Rules → List ℕ → Type 0
Within K m = (length m ≡ K.n) × Bytes m

programmed_bytes-within : (p : Padded) (mask : ℕ) → SoundPad p → Within p.rules (programmed_bytes p mask)
programmed_bytes-within p mask s =
    pick (is_programming p.work.doing) (Within p.rules) (
      program-length p.rules.w (row_of p.work.regs) p.work.regs.pad mask p.bytes ∙ s.whole,
      program_bytes p.rules.w (row_of p.work.regs) p.work.regs.pad mask p.bytes s.small,
    )
    (s.whole, s.small)

ended_sound : (d : Doing) → SoundDoing d → SoundDoing (ended d)
ended_sound d h = pick (is_programming d) SoundDoing tt h

-- each step keeps it
pub taken_sound : (m : Memory) (b : Bool) → SoundMemory m → SoundMemory (take_memory m b)
taken_sound (padded p) b s = pad_taken p b s

pub begun_sound : (m : Memory) → SoundMemory m → SoundMemory (select_memory m)
begun_sound (padded p) s = record { lawful = s.lawful; whole = s.whole; small = s.small; work = record { regs = s.work.regs; doing = (omega arith, tt) } }

pub woken_sound : (m : Memory) → SoundMemory m → SoundMemory (power_up_memory m)
woken_sound (padded p) s = record { lawful = s.lawful; whole = s.whole; small = s.small; work = record { regs = fresh_regs; doing = tt } }

pub dwelt_sound : (m : Memory) → SoundMemory m → SoundMemory (dwell_memory m)
dwelt_sound (padded p) s =
    let w = programmed_bytes-within p whole_row s in
    record { lawful = s.lawful; whole = w.0; small = w.1; work = record { regs = s.work.regs; doing = ended_sound p.work.doing s.work.doing } }

pub burnt_sound : (m : Memory) (mask : ℕ) → SoundMemory m → SoundMemory (cut_memory m mask)
burnt_sound (padded p) mask s =
    let w = programmed_bytes-within p mask s in record { lawful = s.lawful; whole = w.0; small = w.1; work = s.work }

pub made_sound : (m : Memory) → FreshMemory m → SoundMemory m
made_sound (padded p) f =
    record {
      lawful = f.lawful;
      whole = ap length f.so ∙ f.lawful.made_whole f.image f.length_is;
      small = subst Bytes (sym f.so) (f.lawful.made_bytes f.image f.bytes);
      work = subst SoundWork (sym f.work) (record { regs = fresh_regs; doing = tt });
    }

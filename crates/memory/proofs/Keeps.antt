-- What the steps of a memory leave of its bytes and its kind.
use Rattle.std.proofs.Common.{◌≡◌, ℕ, Bool, sym, refl, ap, ◌∙◌}
use Rattle.kinds.specs.Kinds.{whole_row}
use Rattle.memory.specs.Scratchpads.{on, fresh, idle, power_up_pad, select_pad, take_pad, dwell_pad, cut_pad}
use Rattle.memory.specs.Memories.{Memory, padded, power_up_memory, select_memory, take_memory, dwell_memory, cut_memory, bytes_in, kind_in, HasScratchpad}

pub begin_bytes : (m : Memory) → bytes_in (select_memory m) ≡ bytes_in m
begin_bytes (padded p) = refl

pub take_bytes : (m : Memory) (b : Bool) → bytes_in (take_memory m b) ≡ bytes_in m
take_bytes (padded p) b = refl

pub wake_bytes : (m : Memory) → bytes_in (power_up_memory m) ≡ bytes_in m
wake_bytes (padded p) = refl

-- no step changes the kind
pub begin_kind : (m : Memory) → kind_in (select_memory m) ≡ kind_in m
begin_kind (padded p) = refl

pub take_kind : (m : Memory) (b : Bool) → kind_in (take_memory m b) ≡ kind_in m
take_kind (padded p) b = refl

pub wake_kind : (m : Memory) → kind_in (power_up_memory m) ≡ kind_in m
wake_kind (padded p) = refl

pub dwell_kind : (m : Memory) → kind_in (dwell_memory m) ≡ kind_in m
dwell_kind (padded p) = refl

pub burn_kind : (m : Memory) (mask : ℕ) → kind_in (cut_memory m mask) ≡ kind_in m
burn_kind (padded p) mask = refl

-- a dwell leaves the bytes that a power failure with a mask of ones would leave
pub dwell_bytes : (m : Memory) → bytes_in (dwell_memory m) ≡ bytes_in (cut_memory m whole_row)
dwell_bytes (padded p) = refl

-- a scratchpad memory after power-up is given by its kind and its bytes
pub power_up_same : (m n : Memory) → HasScratchpad m → HasScratchpad n → kind_in m ≡ kind_in n → bytes_in m ≡ bytes_in n → power_up_memory m ≡ power_up_memory n
power_up_same m n (p, e) (q, f) k b = ap power_up_memory e ∙ (λ i. padded (record { rules = rules i; bytes = bytes i; work = on fresh idle })) ∙ sym (ap power_up_memory f)
  where
    rules : p.rules ≡ q.rules
    rules = sym (ap kind_in e) ∙ k ∙ ap kind_in f

    bytes : p.bytes ≡ q.bytes
    bytes = sym (ap bytes_in e) ∙ b ∙ ap bytes_in f

-- a step leaves a scratchpad memory one
pub power_up_pads : (m : Memory) → HasScratchpad m → HasScratchpad (power_up_memory m)
power_up_pads m (p, e) = (power_up_pad p, ap power_up_memory e)

pub select_pads : (m : Memory) → HasScratchpad m → HasScratchpad (select_memory m)
select_pads m (p, e) = (select_pad p, ap select_memory e)

pub take_pads : (m : Memory) (b : Bool) → HasScratchpad m → HasScratchpad (take_memory m b)
take_pads m b (p, e) = (take_pad p b, ap (λ n. take_memory n b) e)

pub dwell_pads : (m : Memory) → HasScratchpad m → HasScratchpad (dwell_memory m)
dwell_pads m (p, e) = (dwell_pad p, ap dwell_memory e)

pub cut_pads : (m : Memory) (mask : ℕ) → HasScratchpad m → HasScratchpad (cut_memory m mask)
cut_pads m mask (p, e) = (cut_pad p mask, ap (λ n. cut_memory n mask) e)

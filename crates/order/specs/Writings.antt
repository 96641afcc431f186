-- The exchanges that write a row: into the scratchpad, back from it, and the copy.
use Rattle.std.specs.Prelude.{◌≡◌, ℕ, ◌+◌, ◌/◌, ◌%◌, Bool, List, [], ◌∷◌, take, drop, Some, None, Option, Ok, Err, Result, ◌==◌, slice_index}
use Rattle.base.specs.Crc.{crc16, inverted}
use Rattle.kinds.specs.Kinds.{row_length}
use Rattle.wire.specs.Exchanges.{Exchange, answer, refuse, opening, dwelling, send, read}
use Rattle.wire.specs.declared.exchange_fault.ExchangeError.TheVariants.{Garbled}
use Rattle.wire.specs.declared.exchange_fault.ExchangeFault.{ExchangeFault}
use Rattle.wire.specs.declared.exchange_fault.ExchangeFault.TheVariants.{Failed}
use Rattle.order.specs.Differences.{first_difference}

-- the status of a scratchpad that took a whole row, and what a tag says once it has programmed
abbrev pub whole_status : ℕ
whole_status = 0x07

abbrev pub programmed_byte : ℕ
programmed_byte = 0xAA

-- bytes that were to be others differ from them in this place, or in none: garbled, in an exchange and after some steps
abbrev pub Expected : Option ℕ → ℕ → ℕ → Result (Unit {0}) ExchangeFault → Type 0
Expected o e s (Ok u) = o ≡ None
Expected o e s (Err f) = (i : ℕ) × (o ≡ Some i) × (f ≡ Failed Garbled e s)

-- (1) 0Fh, address, data, read the sum
abbrev pub writes_scratchpad : ℕ → ℕ → List ℕ → Exchange (Unit {0})
writes_scratchpad x row new =
    opening x 1 (send (0x0F ∷ row % 256 ∷ row / 256 ∷ []) (send new (read 2 (λ sum.
    elim (first_difference sum (inverted (crc16 (crc16 0 (0x0F ∷ row % 256 ∷ row / 256 ∷ [])) new))) [ None ↦ answer tt | Some i ↦ refuse Garbled 1 ]))))

-- (2) AAh, read address, status, data and sum; the scratchpad's bytes are the answer
abbrev pub verifies_scratchpad : ℕ → ℕ → Exchange (List ℕ)
verifies_scratchpad x row =
    opening x 2 (send (0xAA ∷ []) (read (3 + row_length + 2) (λ got.
    elim (first_difference (take 3 got) (row % 256 ∷ row / 256 ∷ whole_status ∷ [])) [
      | Some i ↦ refuse Garbled 2
      | None ↦ elim (first_difference (take 2 (drop (3 + row_length) got)) (inverted (crc16 (crc16 0 (0xAA ∷ [])) (take (3 + row_length) got)))) [
        | Some i ↦ refuse Garbled 2
        | None ↦ answer (take row_length (drop 3 got))
      ]
    ])))

-- (3) 55h, address, status, dwell, read one byte
abbrev pub copies_scratchpad : ℕ → ℕ → Exchange Bool
copies_scratchpad x row =
    opening x 3 (send (0x55 ∷ row % 256 ∷ row / 256 ∷ whole_status ∷ []) (dwelling (read 1 (λ got. answer (slice_index got 0 == programmed_byte)))))

-- A relation along two lines.
use Rattle.std.proofs.Common.{List, [], ◌∷◌}
use Rattle.chip.specs.ChipStates.{ChipState}
use Rattle.wire.specs.Laws.{Along}

module _ (R : ChipState → ChipState → Type 0) where
  pub along_self : ((c : ChipState) → R c c) → (l : List ChipState) → Along R l l
  along_self self [] = tt
  along_self self (c ∷ cs) = (self c, along_self self cs)

  pub along_trans : ((c d e : ChipState) → R c d → R d e → R c e) → (l m n : List ChipState) → Along R l m → Along R m n → Along R l n
  along_trans trans [] [] [] h g = tt
  along_trans trans [] [] (e ∷ es) h g = g
  along_trans trans [] (d ∷ ds) n h g = absurd h
  along_trans trans (c ∷ cs) [] n h g = absurd h
  along_trans trans (c ∷ cs) (d ∷ ds) [] h g = g
  along_trans trans (c ∷ cs) (d ∷ ds) (e ∷ es) h g = (trans c d e h.0 g.0, along_trans trans cs ds es h.1 g.1)

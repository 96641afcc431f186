-- A tag just made.
use Rattle.std.proofs.Common.{[], refl}
use Rattle.memory.specs.Scratchpads.{on, fresh, idle}
use Rattle.line.specs.TagMaking.{made_tag, MadeMet}

pub made_met : MadeMet
made_met K number image k w c e b = (
  record {
    made = made_tag K number image;
    fresh = record { wide = w; checked = c; unpowered = refl; memory = record { lawful = k; image = image; length_is = e; bytes = b; so = refl; work = refl } };
    history = [];
    so = refl;
  },
  (record { rules = K; bytes = K.made image; work = on fresh idle }, refl),
)

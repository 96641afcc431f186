-- The runs at the edges of the rules, by computation.
use Rattle.std.proofs.Common.{refl}
use Rattle.base.specs.Crc.{crc8}
use Rattle.order.specs.Differences.{first_difference}
use Rattle.history.specs.Edges.{EdgeRuns}

pub edge_runs : EdgeRuns
unfolding crc8 first_difference
edge_runs = record {
  order_held = refl;
  order_held_row = refl;
  cut_at_dwell = refl;
  cut_at_dwell_row = refl;
  cut_at_close = λ mask. refl;
  cut_at_close_row = λ mask. refl;
  eprom_rises = refl;
  eprom_rises_row = refl;
  eprom_falls = refl;
  eprom_falls_row = refl;
  protected_same = refl;
  protected_and_locked = refl;
  past_same = refl;
  past_other = refl;
  no_row = refl;
  zero_lawful = refl;
  second_lawful = refl;
  second_broken = refl;
  two_listed = refl;
  row_read = refl;
}

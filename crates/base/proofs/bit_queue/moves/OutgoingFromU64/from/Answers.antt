use Rattle.std.proofs.Common.{refl}
use Rattle.base.specs.BitQueues.{queue}
use Rattle.base.proofs.bit_queue.moves.OutgoingFromU64.from.Goals as goal

pub returns : goal.returns
unfolding queue
returns c = refl

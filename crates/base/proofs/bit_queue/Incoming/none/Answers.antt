use Rattle.std.proofs.Common.{refl}
use Rattle.base.specs.BitQueues.{arrived}
use Rattle.base.proofs.bit_queue.Incoming.none.Goals as goal

pub returns : goal.returns
unfolding arrived
returns c = refl

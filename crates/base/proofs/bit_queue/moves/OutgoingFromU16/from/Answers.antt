use Rattle.base.specs.BitQueues.{queue}
use Rattle.base.proofs.Queues.{two_bytes}
use Rattle.base.proofs.bit_queue.moves.OutgoingFromU16.from.Goals as goal

pub returns : goal.returns
unfolding queue
returns c = two_bytes c.args.pair

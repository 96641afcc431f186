use Rattle.std.proofs.Common.{sym, ◌∙◌}
use Rattle.base.specs.Bits.{bits_of}
use Rattle.base.specs.BitQueues.{queue}
use Rattle.base.proofs.Queues.{bits_front, bits_left, front_ahead}
use Rattle.base.proofs.bit_queue.Outgoing.bit.Goals as goal

pub returns : goal.returns
unfolding queue
returns c =
    let l = c.args.self.now.left in let w = c.args.self.now.word in
    let e = sym (bits_front l w c.args.self.now.some) in
    record { first = e; ahead = λ ys. e ∙ sym (front_ahead (bits_of l w) ys (bits_left l w c.args.self.now.some)) }

use Rattle.std.proofs.Common.{◌≡◌, ◌-◌, ◌/◌, [], ◌++◌, refl, ap, ◌∙◌, arith}
use Rattle.base.specs.Bits.{bits_of, rest_bits}
use Rattle.base.specs.BitQueues.{queue}
use Rattle.base.proofs.Queues.{bits_rest, bits_left, rest_ahead}
use Rattle.base.proofs.bit_queue.Outgoing.advance.Goals as goal

pub returns-then-self-gt1 : goal.returns-then-self-gt1
unfolding queue
returns-then-self-gt1 c =
    let l = c.args.self.now.left in let w = c.args.self.now.word in
    let gone = bits_rest l w in
    (gone, bits_left _ _ (omega arith), λ ys. rest_ahead (bits_of l w) ys (bits_left l w c.args.self.now.some) ∙ ap (λ q. q ++ ys) gone)

pub returns-else-self-gt1 : goal.returns-else-self-gt1
unfolding queue
returns-else-self-gt1 c =
    let l = c.args.self.now.left in let w = c.args.self.now.word in
    let e : l - 1 ≡ 0 = omega arith in
    let gone : rest_bits (bits_of l w) ≡ [] = bits_rest l w ∙ ap (λ k. bits_of k (w / 2)) e in
    (refl, gone, λ ys. rest_ahead (bits_of l w) ys (bits_left l w c.args.self.now.some) ∙ ap (λ q. q ++ ys) gone)

use Rattle.std.proofs.Common.{◌≡◌, ◌+◌, sym, ap, ◌∙◌, arith}
use Rattle.std.proofs.lemmas.Bool.{eq-eqb, ne_eqb}
use Rattle.base.specs.Bits.{value}
use Rattle.base.specs.BitQueues.{arrived}
use Rattle.base.specs.Widths.{value_bits}
use Rattle.base.proofs.Queues.{grown_small, grown_bits, grown_full}
use Rattle.base.proofs.bit_queue.Incoming.push.Goals as goal

pub invariant_of-self : goal.invariant_of-self
invariant_of-self c = record { few = omega arith; small = grown_small c.args.self.now.count c.args.self.now.bits c.args.bit c.args.self.now.few c.args.self.now.small }

pub returns-then-self-lt7 : goal.returns-then-self-lt7
unfolding arrived
returns-then-self-lt7 c = (
  grown_bits c.args.self.now.count c.args.self.now.bits c.args.bit c.args.self.now.few c.args.self.now.small,
  grown_full c.args.self.now.count c.args.self.now.bits c.args.bit ∙ ne_eqb _ _ (omega arith),
)

pub returns-else-self-lt7 : goal.returns-else-self-lt7
unfolding arrived
returns-else-self-lt7 c =
    let seven : c.args.self.now.count + 1 ≡ 8 = omega arith in
    let small = grown_small c.args.self.now.count c.args.self.now.bits c.args.bit c.args.self.now.few c.args.self.now.small in (
      c.none.ensures,
      sym (ap value (sym (grown_bits c.args.self.now.count c.args.self.now.bits c.args.bit c.args.self.now.few c.args.self.now.small)) ∙ value_bits _ _ small),
      grown_full c.args.self.now.count c.args.self.now.bits c.args.bit ∙ eq-eqb _ _ seven,
    )

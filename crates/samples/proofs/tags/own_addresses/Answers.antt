use Rattle.std.proofs.Common.{◌≡◌, ◌<◌, slice_index, arith, ◌%◌, ◌∙◌, rules}
use Rattle.samples.proofs.tags.own_addresses.Goals as goal

pub returns : goal.returns
returns c = λ i h.
    let e = c.from_fn.ensures.items.long in
    let below : i < 136 = omega arith in
    let small : i % 256 ≡ i = omega arith in
    let call = c.from_fn.ensures.items.at i 0 below in
    let made : slice_index c.from_fn.result i ≡ i % 256 = search (rules, call) in made ∙ small

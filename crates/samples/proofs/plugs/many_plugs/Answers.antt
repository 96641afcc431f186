use Rattle.std.proofs.Common.{◌≡◌, ◌%◌, map, get_or, ap, ◌∙◌, rules, arith}
use Rattle.samples.specs.Plugs.{plug_chip, chip_of}
use Rattle.samples.proofs.Made.{all_made}
use Rattle.samples.proofs.plugs.many_plugs.Goals as goal

pub returns : goal.returns
returns c =
    let made = c.in_ok-plugs.ensures.ok in
    ap (map chip_of) c.new.ensures
    ∙ all_made chip_of plug_chip c.in_ok-plugs.plugs 65 made.long
    (λ i e h. let call = made.at i e h in
    let one : chip_of (get_or c.in_ok-plugs.plugs i e) ≡ plug_chip (i % 256) = search (rules, call) in
    let small : i % 256 ≡ i = omega arith in one ∙ ap (λ n. plug_chip n) small)

use Rattle.std.proofs.Common.{◌∙◌, rules, tests}
use Rattle.std.proofs.lemmas.Iterator.{YieldsList-from_slice}
use Rattle.std.proofs.lemmas.Iterator.Search.{all_from_yields_List}
use Rattle.chip.specs.ChipStates.{pull_of}
use Rattle.line.specs.Lines.{every}
use Rattle.line.proofs.Lines.{every_over}
use Rattle.line.proofs.line_array.LineArrayLine.pull.Goals as goal

pub returns : goal.returns
returns g c =
    all_from_yields_List (λ x. every pull_of (g.L.Line.chips x)) _ _ c.all.result c.all.ensures.ran (YieldsList-from_slice c.args.self.now.lines (cc))
    (λ x b q k. search (rules, tests))
    ∙ every_over g.L.Line.chips pull_of c.args.self.now.lines

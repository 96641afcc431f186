use Rattle.std.proofs.Common.{◌∙◌, rules, tests}
use Rattle.std.proofs.lemmas.Iterator.{YieldsList-from_slice}
use Rattle.std.proofs.lemmas.Iterator.Search.{any_from_yields_List}
use Rattle.chip.specs.ChipStates.{is_busy}
use Rattle.line.specs.Lines.{some}
use Rattle.line.proofs.Lines.{some_over}
use Rattle.line.proofs.line_array.LineArrayLine.is_busy.Goals as goal

pub returns : goal.returns
returns g c =
    any_from_yields_List (λ x. some is_busy (g.L.Line.chips x)) _ _ c.any.result c.any.ensures.ran (YieldsList-from_slice c.args.self.now.lines (cc))
    (λ x b q k. search (rules, tests))
    ∙ some_over g.L.Line.chips is_busy c.args.self.now.lines

use Rattle.std.proofs.Common.{List, [], ◌∷◌, ◌++◌, ap, ◌∙◌}
use Rattle.chart_model.proofs.PageBlocks.{page_of_entries, entry-alone}
use Rattle.chart_model.proofs.page.Page.of.Goals as goal

pub returns : goal.returns
returns g c =
    ap page_of_entries (c.in_ok-push.ensures.items ∙ ap (λ (l : List _). l ++ (c.args.name, c.args.value) ∷ []) c.in_ok-entries.ensures.items)
    ∙ entry-alone c.args.name c.args.value

use Rattle.std.proofs.Common.{All}
use Rattle.chart_model.specs.Record.{IsPlainText}
use Rattle.sample_rows.proofs.lists.attr_list.Given as goal

abbrev pub invariant-loop-code : goal.invariant-loop-code
invariant-loop-code l = All (λ attr. IsPlainText attr.value) l.attrs

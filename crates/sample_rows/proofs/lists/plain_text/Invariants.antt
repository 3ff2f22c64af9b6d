use Rattle.chart_model.specs.Record.{IsPlainText}
use Rattle.sample_rows.proofs.lists.plain_text.Given as goal

abbrev pub invariant-loop-byte : goal.invariant-loop-byte
invariant-loop-byte l = IsPlainText l.plain.items

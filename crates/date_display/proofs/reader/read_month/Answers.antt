use Rattle.std.proofs.Common.{sym, arith}
use Rattle.date_display.proofs.Spelled.{month_short}
use Rattle.date_display.proofs.reader.read_month.Goals as goal

pub returns-then-text-ne6 : goal.returns-then-text-ne6
returns-then-text-ne6 c = sym (month_short c.args.text.now (λ long. omega (arith, long)))

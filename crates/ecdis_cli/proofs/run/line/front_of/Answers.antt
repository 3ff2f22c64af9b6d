-- A line of at most so many bytes is looked at whole.
use Rattle.std.proofs.Common.{arith, length-take-le, sym}
use Rattle.ecdis_cli.proofs.Lines.{take_short}
use Rattle.ecdis_cli.proofs.run.line.front_of.Goals as goal

pub slice_bounds-result-end : goal.slice_bounds-result-end
slice_bounds-result-end c = sym (length-take-le 1025 c.args.line.now (omega arith))

pub returns-else-line-gt-LOOKED_AT : goal.returns-else-line-gt-LOOKED_AT
returns-else-line-gt-LOOKED_AT c = take_short 1025 c.args.line.now (omega arith)

use Rattle.std.proofs.Common.{arith}
use Rattle.script_reader.proofs.WordTests.{short_below}
use Rattle.script_reader.proofs.words.read_short.Goals as goal

pub overflow_cast-result : goal.overflow_cast-result
overflow_cast-result c =
    let exact = c.in-Some.ensures.exact in
    omega (arith, short_below c.args.word.now (exact.0.0, c.if-word-gt-MOST_DIGITS.false), exact.1)

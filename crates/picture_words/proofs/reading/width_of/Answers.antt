use Rattle.std.proofs.Common.{arith, sym}
use Rattle.picture_words.proofs.reading.width_of.Goals as goal

pub overflow_cast-result : goal.overflow_cast-result
overflow_cast-result c =
    let found = (c.numbers_are_spelled.ensures 1 65535 c.args.text.now c.in-Some.width).0 (sym c.in-Some.ensures) in
    omega (arith, found.2)

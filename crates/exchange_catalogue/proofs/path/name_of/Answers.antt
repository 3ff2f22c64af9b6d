use Rattle.std.proofs.Common.{arith}
use Rattle.exchange_catalogue.proofs.Names.{name-is}
use Rattle.exchange_catalogue.proofs.path.name_of.Goals as goal

pub returns : goal.returns
returns c =
    let kept = c.loop-at.invariant in
    name-is c.args.path.now c.loop-at.start (omega (arith, kept.0, c.loop-at.auto.at-end))
    (λ k low high. kept.1 k low (omega (arith, high, c.loop-at-test.false))) kept.2

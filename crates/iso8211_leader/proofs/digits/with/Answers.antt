use Rattle.std.proofs.Common.{◌≡◌, ◌∙◌, arith}
use Rattle.iso8211_leader.specs.Digits.{weight}
use Rattle.iso8211_leader.proofs.DigitsLemmas.{weights-are, weight-le}
use Rattle.iso8211_leader.proofs.digits.with.Goals as goal

pub returns : goal.returns
returns c =
    let value : c.from.result ≡ weight c.args.byte = c.from.ensures ∙ weights-are c.args.byte (omega arith) in
    record { sum = rw value; most = omega (arith, weight-le c.args.byte) }

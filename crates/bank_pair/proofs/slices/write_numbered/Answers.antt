use Rattle.std.proofs.Common.{◌≡◌, ◌+◌, ◌*◌, ℕ, take, subst, arith}
use Rattle.std.specs.Prelude.{OnOk}
use Rattle.bank_pair.specs.Saving.{with_header}
use Rattle.bank_pair.proofs.slices.write_numbered.Goals as goal

pub returns-then-number-eq0-clause-written : goal.returns-then-number-eq0-clause-written
returns-then-number-eq0-clause-written g c = λ tells.
    let places : 65536 ≡ (c.args.number + 1) * 65536 = omega arith in
    subst (λ (n : ℕ). OnOk c.write_first.result (g.D.Desk.contents c.write_first.new.desk c.args.file
    ≡ take n (with_header c.args.checkpoint.now))) places (c.write_first.ensures.written tells)

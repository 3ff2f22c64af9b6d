use Rattle.std.proofs.Common.{◌≡◌, ℕ, List, subst}
use Rattle.std.specs.Prelude.{OnOk}
use Rattle.bank_pair.proofs.Written.{first_slice}
use Rattle.bank_pair.proofs.slices.write_first.Goals as goal

pub returns-clause-written : goal.returns-clause-written
returns-clause-written g c = λ tells.
    subst (λ (bytes : List ℕ). OnOk c.write_at.result (g.D.Desk.contents c.write_at.new.self c.args.file ≡ bytes))
    (first_slice c.args.checkpoint.now (g.D.Desk.contents c.write_header.new.desk c.args.file) c.min-end.result
    (c.in_ok-write_header.ensures.header tells) c.min-end.ensures)
    (c.write_at.ensures.written tells)

use Rattle.std.proofs.Common.{◌≡◌, ◌+◌, ◌*◌, ℕ, List, take, ap, ◌∙◌, subst, arith}
use Rattle.std.specs.Prelude.{OnOk}
use Rattle.bank_pair.specs.Saving.{with_header}
use Rattle.bank_pair.proofs.Written.{next_slice, slices_reach}
use Rattle.bank_pair.proofs.slices.write_behind.Goals as goal

pub returns-clause-written : goal.returns-clause-written
returns-clause-written g c = λ tells.
    let checkpoint = c.args.checkpoint.now in
    let at = c.args.slices * 65536 in
    let places : at + 65536 ≡ (c.args.slices + 1) * 65536 = omega arith in
    subst (λ (bytes : List ℕ). OnOk c.write_at.result (g.D.Desk.contents c.write_at.new.self c.args.file ≡ bytes))
    (next_slice checkpoint (g.D.Desk.contents c.args.desk.now c.args.file) at c.min-end.result (omega arith)
    (omega arith) (c.requires.before tells) c.min-end.ensures
    ∙ ap (λ (n : ℕ). take n (with_header checkpoint)) places)
    (c.write_at.ensures.written tells)

pub write_at-requires-clause-within : goal.write_at-requires-clause-within
write_at-requires-clause-within g c = λ tells.
    omega (
      arith,
      slices_reach c.args.checkpoint.now (g.D.Desk.contents c.args.desk.now c.args.file) (c.args.slices * 65536)
          (omega arith) (c.requires.before tells),
    )

use Rattle.bank_pair.specs.Handle.{value_of}
use Rattle.bank_pair.proofs.Named.{current_says}
use Rattle.bank_pair.proofs.pair.Pair.write_slice.Goals as goal

pub returns-clause-moments : goal.returns-clause-moments
returns-clause-moments g c = λ tells content step.
    let desk = c.args.desk.now in
    current_says (g.D.Desk.contents desk) (g.D.Desk.may_leave desk) (value_of c.args.self.now) content step
    c.other_file-file.result c.other_file-file.ensures g.D.Desk.clock g.D.Desk.might desk c.write_next.new.desk
    (g.D.Desk.said desk) (c.write_next.ensures.moments tells)

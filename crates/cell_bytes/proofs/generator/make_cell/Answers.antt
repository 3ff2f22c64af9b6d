use Rattle.cell_bytes.proofs.MadeCells.{made_are}
use Rattle.cell_bytes.proofs.generator.make_cell.Goals as goal

pub invariant_of-result : goal.invariant_of-result
invariant_of-result c =
    made_are c.args.n c.made_header.result c.in_ok-vectors.vectors c.add_edges.new.vectors c.in_ok-features.features
    c.made_header.ensures c.in_ok-vectors.ensures c.in_ok-add_edges.ensures c.in_ok-features.ensures c.requires.1

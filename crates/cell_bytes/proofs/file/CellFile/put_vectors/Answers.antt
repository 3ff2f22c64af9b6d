use Rattle.std.proofs.Common.{◌≡◌, [], sym, subst, arith}
use Rattle.std.specs.List.{AllByRecursion}
use Rattle.std.proofs.lemmas.Grind.{common_steps}
use Rattle.chart_model.specs.declared.name.Name.{Name}
use Rattle.chart_model.specs.declared.cell.Vector.{Vector}
use Rattle.chart_model.specs.Cell.{IsCell, IsVector}
use Rattle.cell_bytes.specs.RecordsRead.{IsVectorInRange}
use Rattle.cell_bytes.proofs.Ranges.{vectors_in_range}
use Rattle.cell_bytes.proofs.file.CellFile.put_vectors.Goals as goal

pub returns-clause-in_range : goal.returns-clause-in_range
returns-clause-in_range c =
    let P : Name × Vector → Type 0 = λ (entry : Name × Vector). IsVector entry.0 entry.1 → IsVectorInRange entry in
    let done : c.loop-name.name-iterator ≡ [] = grind (arith, common_steps) in
    vectors_in_range c.args.cell.now (subst IsCell c.cell.view_is c.cell.invariant)
    (c.loop-name.invariant.in_range (subst (AllByRecursion P) (sym done) tt))

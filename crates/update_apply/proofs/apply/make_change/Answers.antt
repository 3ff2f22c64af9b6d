use Rattle.std.proofs.Common.{◌≡◌, ◌≢◌, ap, subst, ◌∙◌}
use Rattle.chart_model.specs.Cell.{CellValue}
use Rattle.chart_model.specs.Change.{IsChange}
use Rattle.update_apply.specs.Fault.{fault_of}
use Rattle.update_apply.proofs.CellsKept.{features-after, vectors-after}
use Rattle.update_apply.proofs.apply.make_change.Goals as goal

pub invariant_of-cell : goal.invariant_of-cell
invariant_of-cell c =
    let seen = c.cell.inside in
    let cell : CellValue = record { header = seen.header; vectors = seen.vectors; features = seen.features } in
    features-after cell c.args.change c.change_features.new.features c.change_features.result
    (subst (λ change. change.target.rcnm ≡ 100) c.change.view_is c.if-change-eq-FEATURE.true)
    c.cell.invariant
    (subst IsChange c.change.view_is c.change.invariant)
    (ap (λ cell. fault_of cell c.args.change) c.cell.view_is ∙ c.requires)
    c.change_features.ensures.ok
    c.change_features.ensures.err

pub invariant_of-cell-else-change-eq-FEATURE : goal.invariant_of-cell-else-change-eq-FEATURE
invariant_of-cell-else-change-eq-FEATURE c =
    let seen = c.cell.inside in
    let cell : CellValue = record { header = seen.header; vectors = seen.vectors; features = seen.features } in
    vectors-after cell c.args.change c.change_vectors.new.vectors c.change_vectors.result
    (subst (λ change. change.target.rcnm ≢ 100) c.change.view_is c.if-change-eq-FEATURE.false)
    c.cell.invariant
    (subst IsChange c.change.view_is c.change.invariant)
    (ap (λ cell. fault_of cell c.args.change) c.cell.view_is ∙ c.requires)
    c.change_vectors.ensures.ok
    c.change_vectors.ensures.err

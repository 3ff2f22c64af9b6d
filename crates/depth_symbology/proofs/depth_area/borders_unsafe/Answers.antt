use Rattle.std.proofs.Common.{rules, ap, ◌∙◌, List}
use Rattle.std.specs.List.{list_any}
use Rattle.chart_model.specs.declared.name.Name.{Name}
use Rattle.depth_symbology.specs.DepthArea.{is_unsafe_at}
use Rattle.depth_symbology.proofs.Unsafe.{unsafe_users}
use Rattle.depth_symbology.proofs.depth_area.borders_unsafe.Goals as goal

pub returns-then-names-le-FEW_USERS-clause-borders : goal.returns-then-names-le-FEW_USERS-clause-borders
returns-then-names-le-FEW_USERS-clause-borders c =
    let among =
    ap (λ (names : List Name). list_any (is_unsafe_at c.args.cell.now c.args.contour) names) c.edge_users-names.ensures
    ∙ unsafe_users c.args.cell.now c.args.users.now c.args.contour c.args.edge c.requires.users in
    search rules

pub known_answer-requires-clause-names : goal.known_answer-requires-clause-names
known_answer-requires-clause-names c =
    let among =
    ap (λ (names : List Name). list_any (is_unsafe_at c.args.cell.now c.args.contour) names) c.edge_users-names.ensures
    ∙ unsafe_users c.args.cell.now c.args.users.now c.args.contour c.args.edge c.requires.users in
    search rules

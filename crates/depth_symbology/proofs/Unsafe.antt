-- Unsafe areas among the users of an edge.
use Rattle.std.proofs.Common.{◌≡◌, List, ℤ, ap, ◌∙◌}
use Rattle.std.specs.List.{list_any}
use Rattle.chart_model.specs.Cell.{CellValue}
use Rattle.chart_model.specs.declared.name.Name.{Name}
use Rattle.chart_model.proofs.Names.{name_cmp-total}
use Rattle.topology_cache.specs.Users.{UsersValue, AreUsersOf, users_at, points_to_any}
use Rattle.depth_symbology.specs.DepthArea.{borders_unsafe, is_unsafe_at, is_unsafe_in}
use Rattle.depth_symbology.proofs.Found.{any_found}

pub unsafe_users : (cell : CellValue) (users : UsersValue) (contour : ℤ) (edge : Name) → AreUsersOf cell users
    → list_any (is_unsafe_at cell contour) (users_at users edge) ≡ borders_unsafe cell contour edge
unsafe_users cell users contour edge are =
    ap (λ (names : List Name). list_any (is_unsafe_at cell contour) names) (are edge)
    ∙ any_found name_cmp-total cell.features (is_unsafe_in contour) (λ entry. points_to_any edge entry.1.pointers)

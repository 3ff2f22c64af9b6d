use Rattle.std.proofs.Common.{sym, ◌∙◌, arith}
use Rattle.area_rings.proofs.Shapes.{point_shape, line_shape, area_shape, bare_shape}
use Rattle.area_rings.proofs.presence.has_shape.Goals as goal

pub returns-in-1 : goal.returns-in-1
returns-in-1 c =
    let nodes = rw c.as_slice-pointers.ensures at c.all_nodes.ensures in
    let shape = point_shape c.args.cell.now c.args.feature.now c.in-1.is in
    (λ h. shape.0 (nodes.0 h), λ h. nodes.1 (shape.1 h))

pub returns-in-2 : goal.returns-in-2
returns-in-2 c =
    let lines = rw c.as_slice-pointers.ensures at c.all_lines.ensures in
    let shape = line_shape c.args.cell.now c.args.feature.now c.in-2.is in
    (λ h. shape.0 (lines.0 h), λ h. lines.1 (shape.1 h))

pub returns-in-3 : goal.returns-in-3
returns-in-3 c =
    let rings = rw c.as_slice-pointers.ensures at c.all_rings.ensures in
    let shape = area_shape c.args.cell.now c.args.feature.now c.in-3.is in
    (λ h. sym shape ∙ rings.0 h, λ h. rings.1 (shape ∙ h))

pub returns-in_default : goal.returns-in_default
returns-in_default c =
    let bare = bare_shape c.args.cell.now c.args.feature.now (record { no_point = omega arith; no_line = omega arith; no_area = omega arith }) in
    (λ h. sym bare ∙ h, λ h. bare ∙ h)

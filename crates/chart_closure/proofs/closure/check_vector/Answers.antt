use Rattle.std.proofs.Common.{sym, ◌∙◌, ap}
use Rattle.chart_closure.specs.Closed.{absent_target}
use Rattle.chart_closure.proofs.Faults.{vector_dangling, vector_wrong, vector_nodes, vector_faultless}
use Rattle.chart_closure.proofs.closure.check_vector.Goals as goal

pub returns-in-Some : goal.returns-in-Some
returns-in-Some c =
    let absent = ap (absent_target c.args.cell.now) (sym c.as_slice-pointers.ensures) ∙ sym c.in-Some.ensures in
    sym (vector_dangling c.args.cell.now c.args.name c.in-Some.target c.args.vector.now absent)

pub returns-then-not-vector_pointers_fit : goal.returns-then-not-vector_pointers_fit
returns-then-not-vector_pointers_fit c =
    let present = ap (absent_target c.args.cell.now) (sym c.as_slice-pointers.ensures) ∙ sym c.in_default.ensures in
    let wrong = rw c.as_slice-pointers.ensures at (sym c.vector_pointers_fit.ensures ∙ c.if-not-vector_pointers_fit.true) in
    sym (vector_wrong c.args.cell.now c.args.name c.args.vector.now present wrong)

pub returns-then-lacks_line : goal.returns-then-lacks_line
returns-then-lacks_line c =
    let present = ap (absent_target c.args.cell.now) (sym c.as_slice-pointers.ensures) ∙ sym c.in_default.ensures in
    let right = rw c.as_slice-pointers.ensures at (sym c.vector_pointers_fit.ensures ∙ c.if-not-vector_pointers_fit.false) in
    let bare = sym c.lacks_line.ensures ∙ c.if-lacks_line.true in
    sym (vector_nodes c.args.cell.now c.args.name c.args.vector.now present right bare)

pub returns : goal.returns
returns c =
    let present = ap (absent_target c.args.cell.now) (sym c.as_slice-pointers.ensures) ∙ sym c.in_default.ensures in
    let right = rw c.as_slice-pointers.ensures at (sym c.vector_pointers_fit.ensures ∙ c.if-not-vector_pointers_fit.false) in
    let drawn = sym c.lacks_line.ensures ∙ c.if-lacks_line.false in
    sym (vector_faultless c.args.cell.now c.args.name c.args.vector.now present right drawn)

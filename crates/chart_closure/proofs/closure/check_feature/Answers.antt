use Rattle.std.proofs.Common.{sym, ◌∙◌, ap}
use Rattle.chart_closure.specs.Closed.{absent_target}
use Rattle.chart_closure.proofs.Faults.{feature_dangling, feature_wrong, feature_open, feature_faultless}
use Rattle.chart_closure.proofs.closure.check_feature.Goals as goal

pub returns-in-Some : goal.returns-in-Some
returns-in-Some c =
    let absent = ap (absent_target c.args.cell.now) (sym c.as_slice-pointers.ensures) ∙ sym c.in-Some.ensures in
    sym (feature_dangling c.args.cell.now c.args.name c.in-Some.target c.args.feature.now absent)

pub returns-then-not-feature_pointers_fit : goal.returns-then-not-feature_pointers_fit
returns-then-not-feature_pointers_fit c =
    let present = ap (absent_target c.args.cell.now) (sym c.as_slice-pointers.ensures) ∙ sym c.in_default.ensures in
    let wrong = rw c.as_slice-pointers.ensures at (sym c.feature_pointers_fit.ensures ∙ c.if-not-feature_pointers_fit.true) in
    sym (feature_wrong c.args.cell.now c.args.name c.args.feature.now present wrong)

pub returns-then-lacks_rings : goal.returns-then-lacks_rings
returns-then-lacks_rings c =
    let present = ap (absent_target c.args.cell.now) (sym c.as_slice-pointers.ensures) ∙ sym c.in_default.ensures in
    let right = rw c.as_slice-pointers.ensures at (sym c.feature_pointers_fit.ensures ∙ c.if-not-feature_pointers_fit.false) in
    let bare = sym c.lacks_rings.ensures ∙ c.if-lacks_rings.true in
    sym (feature_open c.args.cell.now c.args.name c.args.feature.now present right bare)

pub returns : goal.returns
returns c =
    let present = ap (absent_target c.args.cell.now) (sym c.as_slice-pointers.ensures) ∙ sym c.in_default.ensures in
    let right = rw c.as_slice-pointers.ensures at (sym c.feature_pointers_fit.ensures ∙ c.if-not-feature_pointers_fit.false) in
    let drawn = sym c.lacks_rings.ensures ∙ c.if-lacks_rings.false in
    sym (feature_faultless c.args.cell.now c.args.name c.args.feature.now present right drawn)

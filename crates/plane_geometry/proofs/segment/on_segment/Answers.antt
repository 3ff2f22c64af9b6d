use Rattle.std.proofs.Common.{sym, ◌∙◌}
use Rattle.std.proofs.lemmas.Bool.{false≢true}
use Rattle.plane_geometry.proofs.Places.{lies_on_segment, is_in_box, in_line, sign_zero, zero_sign}
use Rattle.plane_geometry.proofs.segment.on_segment.Goals as goal

pub returns-then-is_in_box : goal.returns-then-is_in_box
returns-then-is_in_box c =
    let p = c.args.p in
    let a = c.args.a in
    let b = c.args.b in
    let box = c.is_in_box.ensures.0 c.if-is_in_box.true in (
      λ h. lies_on_segment p a b box (sign_zero _ _ c.orient.ensures h),
      λ q. zero_sign _ _ c.orient.ensures (in_line p a b q),
    )

pub returns-else-is_in_box : goal.returns-else-is_in_box
returns-else-is_in_box c = (
  λ h. absurd (false≢true (sym c.if-is_in_box.false ∙ h)),
  λ q. c.is_in_box.ensures.1 (is_in_box c.args.p c.args.a c.args.b q),
)

use Rattle.std.proofs.Common.{◌≡◌, ℕ, List, length, take, refl, ap, ◌∙◌, subst, arith}
use Rattle.std.specs.List.{All}
use Rattle.std.proofs.Math.Seq.{take-length}
use Rattle.std.proofs.lemmas.Bool.{false≢true}
use Rattle.std.proofs.lemmas.List.Elements.{All-more}
use Rattle.chart_model.specs.declared.name.Name.{Name}
use Rattle.spatial_grid.specs.Kept.{KeepsBox}
use Rattle.spatial_grid.proofs.kept.keeps_boxes.Goals as goal

-- what stands where no name is
abbrev none : Name
none = record { rcnm = 0; rcid = 0 }

pub returns-then-not-keeps_box : goal.returns-then-not-keeps_box
returns-then-not-keeps_box c = (
  λ e. absurd (false≢true e),
  λ all. c.if-not-keeps_box.ensures.1 (all c.loop-name.name-index none c.loop-name-test.true),
)

pub loop-name-preserved : goal.loop-name-preserved
loop-name-preserved c =
    All-more (KeepsBox c.args.old.now c.args.new.now) c.args.names.now c.loop-name.name-index none c.loop-name-test.true c.loop-name.invariant (c.if-not-keeps_box.ensures.0 refl)

pub returns : goal.returns
returns c =
    let names = c.args.names.now in
    let end : c.loop-name.name-index ≡ length names = omega arith in
    let kept =
    subst (λ (l : List Name). All (KeepsBox c.args.old.now c.args.new.now) l) (ap (λ (n : ℕ). take n names) end ∙ take-length names) c.loop-name.invariant in
    (λ so. kept, λ all. refl)

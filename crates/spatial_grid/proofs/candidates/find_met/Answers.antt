use Rattle.std.proofs.Common.{◌≡◌, ◌||◌, min, length, w64, rules, List, ap, subst, ◌∙◌, arith}
use Rattle.std.specs.Prelude.{◌==◌}
use Rattle.std.specs.List.{filter}
use mir.Val.{SFits}
use Rattle.std.proofs.lemmas.Int.{to_z-of_z}
use Rattle.chart_model.specs.declared.name.Name.{Name}
use Rattle.spatial_grid.specs.declared.entry.Entry.{Entry}
use Rattle.spatial_grid.specs.Looked.{stands_within}
use Rattle.spatial_grid.specs.Met.{AreToldBetween}
use Rattle.spatial_grid.proofs.Counts.{vec_small, no_more_added}
use Rattle.spatial_grid.proofs.Looking.{counted_all}
use Rattle.spatial_grid.proofs.Meeting.{all_met}
use Rattle.spatial_grid.proofs.candidates.find_met.Goals as goal

pub returns-clause-met : goal.returns-clause-met
returns-clause-met c =
    let x0 : SFits w64 c.args.area.x0 = search rules in
    let y0 : SFits w64 c.args.area.y0 = search rules in
    let x1 : SFits w64 c.args.area.x1 = search rules in
    let y1 : SFits w64 c.args.area.y1 = search rules in
    let south = simp to_z-of_z at c.span-rows.ensures.first in
    let north = simp to_z-of_z at c.span-rows.ensures.last in
    let west = simp to_z-of_z at c.span-columns.ensures.first in
    let east = simp to_z-of_z at c.span-columns.ensures.last in
    let beside = c.push_between.new.names.items in
    let first =
    subst (λ (l : List Name). AreToldBetween c.args.boxes.now c.args.area c.args.entries.now 4096 4096 l beside) c.clear.ensures.items c.in_ok-beside.ensures.told in
    all_met c.args.boxes.now c.args.area c.args.entries.now c.args.rows c.args.columns c.requires.entered c.span-rows.result.first c.span-rows.result.last c.span-columns.result.first
    c.span-columns.result.last south north west east beside c.push_rows.new.names.items first c.in_ok-within.ensures.told

pub returns-clause-counted : goal.returns-clause-counted
returns-clause-counted c =
    let x0 : SFits w64 c.args.area.x0 = search rules in
    let y0 : SFits w64 c.args.area.y0 = search rules in
    let x1 : SFits w64 c.args.area.x1 = search rules in
    let y1 : SFits w64 c.args.area.y1 = search rules in
    let south = simp to_z-of_z at c.span-rows.ensures.first in
    let north = simp to_z-of_z at c.span-rows.ensures.last in
    let west = simp to_z-of_z at c.span-columns.ensures.first in
    let east = simp to_z-of_z at c.span-columns.ensures.last in
    let entries = c.args.entries.now in
    counted_all entries c.span-rows.result.first c.span-rows.result.last c.span-columns.result.first c.span-columns.result.last _ _ _ c.span-rows.result.last_in
    c.in_ok-beside.ensures.counted c.in_ok-within.ensures.counted c.saturating_add.ensures
    ∙ (λ i. min (length (filter (λ (entry : Entry). entry.bucket == 4096 || stands_within (south i) (north i) (west i) (east i) entry) entries)) 18446744073709551615)

pub returns-clause-no_more : goal.returns-clause-no_more
returns-clause-no_more c =
    let none : length c.clear.new.self.items ≡ 0 = ap length c.clear.ensures.items in
    let added =
    no_more_added 0 (length c.push_between.new.names.items) (length c.push_rows.new.names.items) _ _ _ c.saturating_add.ensures
    (omega (arith, c.in_ok-beside.ensures.no_more, none)) c.in_ok-within.ensures.no_more (vec_small c.push_rows.new.names) in
    omega (arith, added)

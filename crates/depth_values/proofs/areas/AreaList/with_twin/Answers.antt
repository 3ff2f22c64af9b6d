use Rattle.std.proofs.Common.{w32, to_z, of_z, rules, ◌≡◌, ℕ, [], ◌∷◌, ◌++◌, length, refl, ap, ◌∙◌}
use mir.Val.{SFits}
use Rattle.std.proofs.lemmas.Int.{to_z-of_z}
use Rattle.depth_values.specs.DepthArea.{ExtentValue}
use Rattle.depth_values.specs.declared.depth_area.DepthArea.{DepthArea}
use Rattle.depth_values.proofs.Covering.{twin_told, twin_covering, place_within, extent_within}
use Rattle.depth_values.proofs.areas.AreaList.with_twin.Goals as goal

pub invariant_of-result : goal.invariant_of-result
invariant_of-result c =
    let place : c.len.result ≡ length c.self.inside.areas.items = search rules in
    let other = c.index.result.now in
    let area : DepthArea = record { name = c.args.name; d1 = to_z w32 (of_z w32 c.least_depth.result); extent = other.extent } in
    let old = c.index_mut-extent.result.now in
    let there = place_within c.self.inside.extents.items c.self.inside.areas.items c.args.self c.args.place c.self.view_is c.requires in
    let lt = extent_within c.self.inside.extents.items c.self.inside.areas.items c.args.place other c.self.invariant.within there c.index.ensures in
    twin_covering c.self.inside.extents.items _ old c.add.new.self c.self.inside.areas.items c.push.new.self.items area refl c.in_ok-push.ensures.items lt c.index_mut-extent.ensures.value
    (ap (λ (e : ExtentValue). e.rings) c.in_ok-add.ensures.ok)
    (ap (λ (e : ExtentValue). e.places) c.in_ok-add.ensures.ok ∙ ap (λ (n : ℕ). old.places ++ n ∷ []) place) c.self.invariant

pub returns : goal.returns
returns c =
    let fits : SFits w32 c.least_depth.result = search rules in
    let kept : to_z w32 (of_z w32 c.least_depth.result) ≡ c.least_depth.result = simp to_z-of_z in
    let other = c.index.result.now in
    let area : DepthArea = record { name = c.args.name; d1 = to_z w32 (of_z w32 c.least_depth.result); extent = other.extent } in
    let old = c.index_mut-extent.result.now in
    let there = place_within c.self.inside.extents.items c.self.inside.areas.items c.args.self c.args.place c.self.view_is c.requires in
    let lt = extent_within c.self.inside.extents.items c.self.inside.areas.items c.args.place other c.self.invariant.within there c.index.ensures in
    twin_told c.self.inside.extents.items _ old c.add.new.self c.self.inside.areas.items c.push.new.self.items area refl c.in_ok-push.ensures.items lt c.index_mut-extent.ensures.value
    (ap (λ (e : ExtentValue). e.rings) c.in_ok-add.ensures.ok) c.args.self c.args.place other _ c.self.view_is there c.index.ensures refl (kept ∙ c.least_depth.ensures.depth)

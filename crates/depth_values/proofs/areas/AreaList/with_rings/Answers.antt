use Rattle.std.proofs.Common.{w32, to_z, of_z, rules, ◌≡◌, ℕ, [], ◌∷◌, length, ap, ◌∙◌}
use mir.Val.{SFits}
use Rattle.std.proofs.lemmas.Int.{to_z-of_z}
use Rattle.depth_values.specs.DepthArea.{ExtentValue}
use Rattle.depth_values.specs.declared.depth_area.DepthArea.{DepthArea}
use Rattle.depth_values.proofs.Covering.{own_told, own_covering}
use Rattle.depth_values.proofs.areas.AreaList.with_rings.Goals as goal

pub invariant_of-result : goal.invariant_of-result
invariant_of-result c =
    let place : c.len-place.result ≡ length c.self.inside.areas.items = search rules in
    let last : c.len.result ≡ length c.self.inside.extents.items = search rules in
    let area : DepthArea = record { name = c.args.name; d1 = to_z w32 (of_z w32 c.least_depth.result); extent = c.len.result } in
    own_covering c.self.inside.extents.items c.push-2.new.self.items c.in_ok-extent.extent c.self.inside.areas.items c.push.new.self.items area c.in_ok-push-2.ensures.items c.in_ok-push.ensures.items
    last c.self.invariant (ap (λ (e : ExtentValue). e.places) c.in_ok-extent.ensures ∙ ap (λ (n : ℕ). n ∷ []) place)

pub returns : goal.returns
returns c =
    let fits : SFits w32 c.least_depth.result = search rules in
    let kept : to_z w32 (of_z w32 c.least_depth.result) ≡ c.least_depth.result = simp to_z-of_z in
    let last : c.len.result ≡ length c.self.inside.extents.items = search rules in
    let area : DepthArea = record { name = c.args.name; d1 = to_z w32 (of_z w32 c.least_depth.result); extent = c.len.result } in
    own_told c.self.inside.extents.items c.push-2.new.self.items c.in_ok-extent.extent c.self.inside.areas.items c.push.new.self.items area c.in_ok-push-2.ensures.items c.in_ok-push.ensures.items
    last c.self.invariant c.args.self _ c.args.rings c.self.view_is (kept ∙ c.least_depth.ensures.depth) (ap (λ (e : ExtentValue). e.rings) c.in_ok-extent.ensures)

-- A box that meets an area stands in a bucket that the area covers, or beside the buckets.
use Rattle.std.proofs.Common.{◌≡◌, inl, inr, ℕ, List, [], Some, ap, ◌∙◌, arith}
use Rattle.std.specs.Prelude.{◌↔◌}
use Rattle.std.specs.List.{Contains, slice_get}
use Rattle.std.proofs.lemmas.Option.{slice_get-get_or}
use Rattle.chart_model.specs.declared.name.Name.{Name}
use Rattle.plane_bounds.specs.declared.bounds.Bounds.{Bounds}
use Rattle.spatial_grid.specs.declared.axis.Axis.{Axis}
use Rattle.spatial_grid.specs.declared.entry.Entry.{Entry}
use Rattle.spatial_grid.specs.Buckets.{index_on, AreEntered}
use Rattle.spatial_grid.specs.Met.{IsMet, AreToldBetween, AreToldIn}
use Rattle.spatial_grid.proofs.Axes.{index_rises}

module _ (boxes : List (Name × Bounds)) (area : Bounds) (entries : List Entry) (rows columns : Axis) (entered : AreEntered boxes rows columns entries) where
  module _ (low high left right : ℕ) (south : low ≡ index_on rows area.y0) (north : high ≡ index_on rows area.y1) (west : left ≡ index_on columns area.x0) (east : right ≡ index_on columns area.x1)
      (beside all : List Name) (first : AreToldBetween boxes area entries 4096 4096 [] beside) (rest : AreToldIn boxes area entries low high left right beside all) where
    nothing : (name : Name) → Contains {X = Name} [] name → ⊥
    nothing name (k, lt, e) = omega (arith, lt)

    met : (name : Name) → Contains all name → IsMet boxes area name
    met name h =
        elim (rest.adds.sound name h) [
          | inr q ↦ q
          | inl q ↦ elim (first.adds.sound name q) [ inr r ↦ r | inl r ↦ absurd (nothing name r) ]
        ]

    told : (name : Name) → IsMet boxes area name → Contains all name
    told name m =
        let place = m.there.0 in
        let here : slice_get boxes place ≡ Some (name, m.box) =
        slice_get-get_or boxes place (name, m.box) m.there.1 ∙ ap Some m.there.2 in
        let p = m.meets.p in
        elim (entered place (name, m.box) here) [
          | inl stands ↦
              rest.adds.kept name (first.told (record { bucket = 4096; place = place }) stands (omega arith) (omega arith) (name, m.box) here m.meets)
          | inr stands ↦
              rest.told (index_on rows p.y) (index_on columns p.x) place
              (omega (arith, south, index_rises rows area.y0 p.y m.meets.in_other.south)) (omega (arith, north, index_rises rows p.y area.y1 m.meets.in_other.north))
              (omega (arith, west, index_rises columns area.x0 p.x m.meets.in_other.west)) (omega (arith, east, index_rises columns p.x area.x1 m.meets.in_other.east))
              (stands (index_on rows p.y) (index_rises rows m.box.y0 p.y m.meets.in_one.south) (index_rises rows p.y m.box.y1 m.meets.in_one.north)
              (index_on columns p.x) (index_rises columns m.box.x0 p.x m.meets.in_one.west) (index_rises columns p.x m.box.x1 m.meets.in_one.east))
              (name, m.box) here m.meets
        ]

    pub all_met : (name : Name) → Contains all name ↔ IsMet boxes area name
    all_met name = (met name, told name)

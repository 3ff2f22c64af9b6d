-- The boxes of vector records by the places of nodes are those of all their points.
use Rattle.std.proofs.Common.{◌≡◌, inl, inr, T, Bool, true, false, List, [], ◌∷◌, ◌++◌, map, Option, Some, None, option_map, refl, sym, ap, ◌∙◌}
use Rattle.std.specs.Prelude.{◌==◌, if◌then◌else◌, slice_get}
use Rattle.std.specs.Option.{option_and_then}
use Rattle.std.specs.List.{cons_option, filter_map}
use Rattle.std.specs.FinMap as finite
use Rattle.std.specs.FinMap.{is_sorted}
use Rattle.chart_model.specs.declared.name.Name.{Name}
use Rattle.chart_model.specs.declared.record.Coord.{Coord}
use Rattle.chart_model.specs.declared.cell.Vector.{Vector}
use Rattle.chart_model.specs.Names.{name_cmp}
use Rattle.chart_model.specs.Cell.{CellValue}
use Rattle.chart_model.proofs.Names.{name_cmp-total, name_cmp-IsAntisymmetric}
use Rattle.plane_geometry.specs.declared.point.Pt.{Pt}
use Rattle.area_rings.specs.Choice.{◌>>=◌}
use Rattle.area_rings.specs.Edge.{EdgeValue, edge_of, ends_of, is_node, line_of, place_of, point_of, way_along}
use Rattle.plane_bounds.specs.declared.bounds.Bounds.{Bounds}
use Rattle.spatial_grid.specs.declared.edges.Ends.{Ends}
use Rattle.spatial_grid.specs.Boxes.{box_of, points_along, points_under, record_at, record_boxes, under_name}
use Rattle.spatial_grid.specs.Edges.{ends_at, line_between, node_place, node_table, record_box, record_table}
use Rattle.common_lemmas.proofs.Members.{Has}
use Rattle.spatial_grid.proofs.Found.{there_found}
use Rattle.spatial_grid.proofs.Named.{sorted_kept, find_kept}

-- what two functions give of each item, where they give the same of each
same_each : {A B : Type 0} (f g : A → Option B) (xs : List A) → ((x : A) → Has x xs → f x ≡ g x)
    → filter_map f xs ≡ filter_map g xs
same_each f g [] same = refl
same_each f g (x ∷ xs) same =
    λ i. cons_option (same x (inl refl) i) (same_each f g xs (λ y h. same y (inr h)) i)

mapped : (o : Option Coord) → option_map point_of o ≡ (o >>= (λ coord. Some (point_of coord)))
mapped None = refl
mapped (Some coord) = refl

module _ (cell : CellValue) where
  pub nodes_sorted : T (is_sorted name_cmp (node_table cell))
  nodes_sorted =
      sorted_kept (λ (e : Name × Vector). node_place e.0 e.1) (finite.entries cell.vectors)
      (finite.entries_sorted cell.vectors)

  -- ---- nodes

  placed : (name : Name) (b : Bool) (o : Option Vector) → is_node name ≡ b → finite.get cell.vectors name ≡ o
      → option_and_then (λ (v : Vector). node_place name v) o ≡ place_of cell name
  unfolding place_of
  placed name true None is e = rw (is, e) refl
  placed name true (Some v) is e = rw (is, e) (mapped (slice_get v.coords 0))
  placed name false None is e = rw is refl
  placed name false (Some v) is e = rw is refl

  node_found : (name : Name) → finite.find name_cmp name (node_table cell) ≡ place_of cell name
  node_found name =
      find_kept (λ (e : Name × Vector). node_place e.0 e.1) name (finite.entries cell.vectors)
      (finite.entries_sorted cell.vectors)
      ∙ ap (option_and_then (λ (v : Vector). node_place name v)) (sym (finite.get-entries cell.vectors name))
      ∙ placed name (is_node name) (finite.get cell.vectors name) refl refl

  -- ---- edges

  -- the points of an edge from its begin node to its end node
  abbrev points_on : EdgeValue → List Pt
  points_on edge = (way_along false edge).points

  ended : (names : Name × Name) (vector : Vector) (p q : Option Pt)
      → option_map points_on (p >>= (λ begin. q >>= (λ end. Some (record { from = names.0; to = names.1; points = begin ∷ map point_of vector.coords ++ end ∷ [] }))))
      ≡ option_map (λ (ends : Ends). line_between ends vector.coords) (p >>= (λ start. q >>= (λ end. Some (record { start = start; end = end }))))
  ended names vector None q = refl
  ended names vector (Some p) None = refl
  ended names vector (Some p) (Some q) = refl

  joined : (b : Bool) (o : Option (Name × Name)) (vector : Vector)
      → option_map points_on (if b then (o >>= (λ names. place_of cell names.0 >>= (λ begin. place_of cell names.1 >>= (λ end. Some (record { from = names.0; to = names.1; points = begin ∷ map point_of vector.coords ++ end ∷ [] }))))) else None)
      ≡ option_map (λ (ends : Ends). line_between ends vector.coords) (if b then (o >>= (λ names. finite.find name_cmp names.0 (node_table cell) >>= (λ start. finite.find name_cmp names.1 (node_table cell) >>= (λ end. Some (record { start = start; end = end }))))) else None)
  joined false o vector = refl
  joined true None vector = refl
  joined true (Some names) vector =
      ended names vector (place_of cell names.0) (place_of cell names.1)
      ∙ (λ i. option_map (λ (ends : Ends). line_between ends vector.coords) (sym (node_found names.0) i >>= (λ start. sym (node_found names.1) i >>= (λ end. Some (record { start = start; end = end })))))

  -- the line of an edge, by its ends
  line_there : (name : Name) (vector : Vector) → finite.get cell.vectors name ≡ Some vector
      → line_of cell name false ≡ option_map (λ (ends : Ends). line_between ends vector.coords) (ends_at (node_table cell) name vector)
  unfolding edge_of
  line_there name vector e = rw e (joined (name.rcnm == 130) (ends_of vector.pointers) vector)

  -- ---- boxes

  lined : (vector : Vector) (o : Option Ends)
      → option_and_then (λ (ends : Ends). box_of (line_between ends vector.coords)) o
      ≡ box_of (points_along (option_map (λ (ends : Ends). line_between ends vector.coords) o))
  lined vector None = refl
  lined vector (Some ends) = refl

  chosen : (b : Bool) (xs ys : List Pt) (o : Option Bounds) → o ≡ box_of ys
      → (if b then box_of xs else o) ≡ box_of (if b then xs else ys)
  chosen true xs ys o e = refl
  chosen false xs ys o e = e

  box_same : (name : Name) (vector : Vector) → finite.get cell.vectors name ≡ Some vector
      → record_box (node_table cell) name vector ≡ box_of (points_under cell name vector)
  box_same name vector e =
      chosen (is_node name) (map point_of vector.coords) (points_along (line_of cell name false)) _
      (lined vector (ends_at (node_table cell) name vector)
      ∙ ap (λ (o : Option (List Pt)). box_of (points_along o)) (sym (line_there name vector e)))

  -- the boxes by the places of nodes are those of all points
  pub records_same : record_table (node_table cell) cell ≡ record_boxes cell
  records_same =
      same_each (λ (e : Name × Vector). under_name e.0 (record_box (node_table cell) e.0 e.1)) (record_at cell)
      (finite.entries cell.vectors)
      (λ e h. ap (under_name e.0) (box_same e.0 e.1 (finite.get-entries cell.vectors e.0
      ∙ there_found name_cmp-total name_cmp-IsAntisymmetric e.0 e.1 (finite.entries cell.vectors)
      (finite.entries_sorted cell.vectors) h)))

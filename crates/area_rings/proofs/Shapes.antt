-- Whether there is a shape, by the kind of the feature.
use Rattle.std.proofs.Common.{◌≡◌, ◌≢◌, ◌↔◌, suc, zero, Bool, true, false, List, [], ◌∷◌, get_or, All, Option, Some, None, is_some, IsSome, IsSomeAnd, MatchOption, option_map, eqb, if◌then◌else◌, refl, sym, ap, ◌∙◌, arith}
use Rattle.std.specs.List.{flat_map}
use Rattle.std.proofs.lemmas.Bool.{false≢true, ne_eqb}
use Rattle.chart_model.specs.declared.record.Pointer.{Pointer}
use Rattle.chart_model.specs.declared.cell.Feature.{Feature}
use Rattle.chart_model.specs.Cell.{CellValue}
use Rattle.area_rings.specs.declared.shape.Shape.TheVariants.{Points, Lines, Rings, Bare}
use Rattle.area_rings.specs.Choice.{◌>>=◌, each}
use Rattle.area_rings.specs.Edge.{node_of, edge_of, way_along}
use Rattle.area_rings.specs.Shape.{points_of, lines_of, rings_of, shape_of}
use Rattle.area_rings.proofs.Traces.{is_some-option_map}

both : {A : Type 0} (o : Option A) (os : Option (List A)) → IsSome o → IsSome os → IsSome (o >>= (λ y. os >>= (λ ys. Some (y ∷ ys))))
both None os h k = absurd (false≢true h)
both (Some y) None h k = absurd (false≢true k)
both (Some y) (Some ys) h k = refl

parts : {A : Type 0} (o : Option A) (os : Option (List A)) → IsSome (o >>= (λ y. os >>= (λ ys. Some (y ∷ ys)))) → IsSome o × IsSome os
parts None os h = absurd (false≢true h)
parts (Some y) None h = absurd (false≢true h)
parts (Some y) (Some ys) h = (refl, refl)

-- there is something of each item
pub each_some : {A B : Type 0} (f : A → Option B) (xs : List A) → All (λ x. IsSome (f x)) xs → IsSome (each f xs)
each_some f [] h = refl
each_some f (x ∷ xs) h =
    both (f x) (each f xs) (h 0 x (omega arith)) (each_some f xs (λ k d lt. h (suc k) d (omega arith)))

pub some_each : {A B : Type 0} (f : A → Option B) (xs : List A) → IsSome (each f xs) → All (λ x. IsSome (f x)) xs
some_each f [] h k d lt = absurd (omega arith)
some_each f (x ∷ xs) h zero d lt = (parts (f x) (each f xs) h).0
some_each f (x ∷ xs) h (suc k) d lt = some_each f xs (parts (f x) (each f xs) h).1 k d (omega arith)

points_some : (cell : CellValue) (pointers : List Pointer) → All (λ pointer. IsSome (node_of cell pointer.target)) pointers ↔ IsSome (points_of cell pointers)
points_some cell pointers =
    let node = λ (pointer : Pointer). node_of cell pointer.target in
    let e = is_some-option_map (flat_map (λ node. node.coords)) (each node pointers) in
    (λ h. e ∙ each_some node pointers h, λ h. some_each node pointers (sym e ∙ h))

lines_some : (cell : CellValue) (pointers : List Pointer) → All (λ pointer. IsSome (edge_of cell pointer.target)) pointers ↔ IsSome (lines_of cell pointers)
lines_some cell pointers =
    let line = λ (pointer : Pointer). option_map (λ edge. (way_along (eqb pointer.ornt 2) edge).points) (edge_of cell pointer.target) in
    let e = λ (pointer : Pointer). is_some-option_map (λ edge. (way_along (eqb pointer.ornt 2) edge).points) (edge_of cell pointer.target) in
    (λ h. each_some line pointers (λ k d lt. e (get_or pointers k d) ∙ h k d lt), λ h k d lt. sym (e (get_or pointers k d)) ∙ some_each line pointers h k d lt)

pub point_shape : (cell : CellValue) (feature : Feature) → feature.prim ≡ 1 → All (λ pointer. IsSome (node_of cell pointer.target)) feature.pointers ↔ IsSome (shape_of cell feature)
unfolding shape_of
point_shape cell feature e =
    let same = is_some-option_map _ (points_of cell feature.pointers) in
    let q = points_some cell feature.pointers in
    rw e (λ h. same ∙ q.0 h, λ h. q.1 (sym same ∙ h))

pub line_shape : (cell : CellValue) (feature : Feature) → feature.prim ≡ 2 → All (λ pointer. IsSome (edge_of cell pointer.target)) feature.pointers ↔ IsSome (shape_of cell feature)
unfolding shape_of
line_shape cell feature e =
    let same = is_some-option_map _ (lines_of cell feature.pointers) in
    let q = lines_some cell feature.pointers in
    rw e (λ h. same ∙ q.0 h, λ h. q.1 (sym same ∙ h))

pub area_shape : (cell : CellValue) (feature : Feature) → feature.prim ≡ 3 → is_some (rings_of cell feature.pointers) ≡ is_some (shape_of cell feature)
unfolding shape_of
area_shape cell feature e = rw e (sym (is_some-option_map _ (rings_of cell feature.pointers)))

-- a feature is no point, no line and no area
pub record IsNoPlace (feature : Feature) : Type 0 where
  pub no_point : feature.prim ≢ 1
  pub no_line : feature.prim ≢ 2
  pub no_area : feature.prim ≢ 3

pub bare_shape : (cell : CellValue) (feature : Feature) → IsNoPlace feature → eqb feature.prim 255 ≡ is_some (shape_of cell feature)
unfolding shape_of
bare_shape cell feature h = rw (ne_eqb feature.prim 1 h.no_point, ne_eqb feature.prim 2 h.no_line, ne_eqb feature.prim 3 h.no_area) (some_where (eqb feature.prim 255))
  where
    some_where : (b : Bool) → b ≡ is_some (if b then Some Bare else None)
    some_where true = refl
    some_where false = refl

-- what `map` makes of a value that may be absent
pub mapped : {X Y : Type 0} (f : X → Y) (o : Option X) (r : Option Y) → MatchOption o (r ≡ None) (λ x. IsSomeAnd r (λ y. y ≡ f x)) → r ≡ option_map f o
mapped f None r h = h
mapped f (Some x) None h = absurd h
mapped f (Some x) (Some y) h = ap Some h

pub point_shape_is : (cell : CellValue) (feature : Feature) → feature.prim ≡ 1 → shape_of cell feature ≡ option_map Points (points_of cell feature.pointers)
unfolding shape_of
point_shape_is cell feature e = rw e refl

pub line_shape_is : (cell : CellValue) (feature : Feature) → feature.prim ≡ 2 → shape_of cell feature ≡ option_map Lines (lines_of cell feature.pointers)
unfolding shape_of
line_shape_is cell feature e = rw e refl

pub area_shape_is : (cell : CellValue) (feature : Feature) → feature.prim ≡ 3 → shape_of cell feature ≡ option_map Rings (rings_of cell feature.pointers)
unfolding shape_of
area_shape_is cell feature e = rw e refl

pub bare_shape_is : (cell : CellValue) (feature : Feature) → feature.prim ≡ 255 → shape_of cell feature ≡ Some Bare
unfolding shape_of
bare_shape_is cell feature e = rw e refl

pub no_shape : (cell : CellValue) (feature : Feature) → IsNoPlace feature → feature.prim ≢ 255 → shape_of cell feature ≡ None
unfolding shape_of
no_shape cell feature h i = rw (ne_eqb feature.prim 1 h.no_point, ne_eqb feature.prim 2 h.no_line, ne_eqb feature.prim 3 h.no_area, ne_eqb feature.prim 255 i) refl

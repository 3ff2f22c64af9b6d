-- Whether two records are the same, part by part.
use Rattle.std.specs.Prelude.{ℕ, Bool, true, false, ◌&&◌, ◌||◌, not, nat_eq, List, Option, Some, None}
use Rattle.std.specs.Ordering.{int_eq}
use Rattle.std.specs.Cmp.Lexicographic.{pointwise}
use Rattle.std.specs.FinMap as map
use Rattle.chart_model.specs.Attrs.{Attrs}
use Rattle.chart_model.specs.declared.name.Name.{Name}
use Rattle.chart_model.specs.declared.name.Foid.{Foid}
use Rattle.chart_model.specs.declared.record.Attr.{Attr}
use Rattle.chart_model.specs.declared.record.Pointer.{Pointer}
use Rattle.chart_model.specs.declared.record.Coord.{Coord}
use Rattle.chart_model.specs.declared.record.Related.{Related}
use Rattle.chart_model.specs.declared.cell.Vector.{Vector}
use Rattle.chart_model.specs.declared.cell.Feature.{Feature}
use Rattle.chart_model.specs.Cell.{CellValue}
use Rattle.chart_difference.specs.Difference.{vector_in, feature_in}

abbrev pub same_name : Name → Name → Bool
same_name x y = nat_eq x.rcnm y.rcnm && nat_eq x.rcid y.rcid

abbrev pub same_foid : Foid → Foid → Bool
same_foid x y = nat_eq x.agen y.agen && (nat_eq x.fidn y.fidn && nat_eq x.fids y.fids)

abbrev pub same_pointer : Pointer → Pointer → Bool
same_pointer x y =
    same_name x.target y.target
    && (nat_eq x.ornt y.ornt
    && (nat_eq x.usag y.usag && (nat_eq x.topi y.topi && nat_eq x.mask y.mask)))

-- two values that are the same, or none
abbrev pub same_if_any : {X : Type 0} → (X → X → Bool) → Option X → Option X → Bool
same_if_any same (Some x) (Some y) = same x y
same_if_any same None None = true
same_if_any same (Some x) None = false
same_if_any same None (Some y) = false

abbrev pub same_coord : Coord → Coord → Bool
same_coord a b = int_eq a.x b.x && (int_eq a.y b.y && same_if_any int_eq a.z b.z)

abbrev pub same_related : Related → Related → Bool
same_related x y = same_foid x.foid y.foid && nat_eq x.rind y.rind

abbrev pub same_attr : Attr → Attr → Bool
same_attr x y = nat_eq x.code y.code && pointwise nat_eq x.value y.value

abbrev pub same_text : ℕ × List ℕ → ℕ × List ℕ → Bool
same_text x y = nat_eq x.0 y.0 && pointwise nat_eq x.1 y.1

abbrev pub same_attrs : Attrs → Attrs → Bool
same_attrs x y = pointwise same_text (map.entries x) (map.entries y)

abbrev pub same_vector : Vector → Vector → Bool
same_vector x y =
    nat_eq x.version y.version
    && (same_attrs x.attrs y.attrs
    && (pointwise same_pointer x.pointers y.pointers && pointwise same_coord x.coords y.coords))

abbrev pub same_head : Feature → Feature → Bool
same_head x y =
    nat_eq x.prim y.prim
    && (nat_eq x.grup y.grup && (nat_eq x.class y.class && (nat_eq x.version y.version && same_foid x.foid y.foid)))

abbrev pub same_feature : Feature → Feature → Bool
same_feature x y =
    same_head x y
    && (same_attrs x.attrs y.attrs
    && (pointwise same_related x.related y.related && pointwise same_pointer x.pointers y.pointers))

-- whether the records under a name differ
abbrev pub differ : Option CellValue → Option CellValue → Name → Bool
differ old new name =
    not (same_if_any same_vector (vector_in old name) (vector_in new name))
    || not (same_if_any same_feature (feature_in old name) (feature_in new name))

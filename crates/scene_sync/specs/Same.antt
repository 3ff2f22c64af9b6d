-- Whether two blocks are the same, part by part.
use Rattle.std.specs.Prelude.{Bool, true, false, ◌&&◌, nat_eq, List, Option, Some, None}
use Rattle.std.specs.Ordering.{int_eq}
use Rattle.std.specs.Cmp.Lexicographic.{pointwise}
use Rattle.chart_model.specs.declared.drawing.Geom.{Geom}
use Rattle.chart_model.specs.declared.drawing.Geom.TheVariants.{Area, Line, Point}
use Rattle.chart_model.specs.declared.drawing.Target.{Target}
use Rattle.chart_model.specs.declared.drawing.Target.TheVariants.{Whole, Edge, At}
use Rattle.chart_model.specs.declared.drawing.Item.{Item}
use Rattle.chart_model.specs.declared.drawing.Block.{Block}

abbrev pub same_geom : Geom → Geom → Bool
same_geom Area Area = true
same_geom Line Line = true
same_geom Point Point = true
same_geom _ _ = false

abbrev pub same_target : Target → Target → Bool
same_target Whole Whole = true
same_target (Edge a) (Edge b) = nat_eq a b
same_target (At a b) (At c d) = int_eq a c && int_eq b d
same_target _ _ = false

abbrev pub same_item : Item → Item → Bool
same_item x y = same_target x.target y.target && pointwise nat_eq x.text y.text

abbrev pub same_items : List Item → List Item → Bool
same_items = pointwise same_item

abbrev pub same_block : Block → Block → Bool
same_block x y = nat_eq x.priority y.priority && (same_geom x.geom y.geom && same_items x.items y.items)

-- two blocks that are the same, or none
abbrev pub same_blocks : Option Block → Option Block → Bool
same_blocks (Some x) (Some y) = same_block x y
same_blocks None None = true
same_blocks (Some x) None = false
same_blocks None (Some y) = false

-- The edge that the code keeps in parts.
use Rattle.std.specs.Prelude.{if◌then◌else◌, [], ◌∷◌, ◌++◌, map, reverse}
use Rattle.area_rings.specs.declared.edge.DirectedEdge.{DirectedEdge}
use Rattle.area_rings.specs.Edge.{EdgeValue, point_of}

abbrev pub value_of : DirectedEdge → EdgeValue
value_of edge = record {
  from = edge.from;
  to = edge.to;
  points =
      edge.start
      ∷ map point_of (if edge.reversed then reverse edge.inner.now else edge.inner.now)
      ++ edge.end ∷ [];
}

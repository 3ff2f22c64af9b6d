use Rattle.std.proofs.Common.{◌≡◌, ◌+◌, ◌≤◌}
use Rattle.std.specs.Vec.{vec_len, vec_capacity}
use Rattle.std.specs.VecDeque.{deque_len}
use Rattle.chart_model.specs.Attrs.{AreRising, attrs_of, attrs_after}
use Rattle.chart_model.proofs.attr_map.merge.Given as goal

abbrev pub invariant-loop-given : goal.invariant-loop-given
invariant-loop-given l = record {
  same : attrs_after (attrs_of l.attrs.items) l.kept.items l.given.items
      ≡ attrs_after (attrs_of l.initial.attrs.items) l.initial.kept.items l.initial.given.items;
  rising : AreRising l.attrs.items;
  kept : AreRising l.kept.items;
  room : vec_len l.attrs + deque_len l.kept + deque_len l.given ≤ vec_capacity l.attrs;
}

abbrev pub decreases-loop-given : goal.decreases-loop-given
decreases-loop-given l = deque_len l.kept + deque_len l.given

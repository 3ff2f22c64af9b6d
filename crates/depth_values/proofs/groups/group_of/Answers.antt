use Rattle.std.proofs.Common.{ℕ, List, subst}
use Rattle.std.specs.List.{Contains}
use Rattle.depth_values.proofs.groups.group_of.Goals as goal

pub returns : goal.returns
returns c = record {
  those = c.in_ok-places.ensures.items;
  round = λ place there.
      c.bounds_round-bounds.ensures place (subst (λ (l : List ℕ). Contains l place) c.in_ok-places.ensures.items there);
}

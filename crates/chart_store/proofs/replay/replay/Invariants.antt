-- the records that are left, from what is held now, give what all of them give
use Rattle.std.proofs.Common.{◌≡◌, ◌+◌, ◌<◌, ◌≤◌, length, drop, sum_by}
use Rattle.chart_store.specs.Images.{most_steps_by, state_after_records}
use Rattle.chart_store.proofs.replay.replay.Given as goal

abbrev pub invariant-loop-number : goal.invariant-loop-number
invariant-loop-number g l = record {
  state : state_after_records l.fn.live l.fn.gate l.content.bodies
      ≡ state_after_records l.live l.gate (drop l.number l.content.bodies);
  steps : l.steps + most_steps_by l.live (drop l.number l.content.bodies)
      ≤ l.fn.steps + most_steps_by l.fn.live l.content.bodies;
  fits : l.gate + sum_by (λ body. 5 + length body) (drop l.number l.content.bodies) < 9223372036854775808;
}

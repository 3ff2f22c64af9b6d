use Rattle.std.proofs.Common.{◌≡◌, ℕ, ◌+◌, ◌&&◌, ◌||◌, List, length, sym, ap, subst, ◌∙◌, arith, rules}
use Rattle.std.specs.FinMap as finite
use Rattle.chart_model.specs.declared.record.Pointer.{Pointer}
use Rattle.chart_model.specs.declared.name.Name.{Name}
use Rattle.chart_model.specs.declared.cell.Feature.{Feature}
use Rattle.topology_cache.specs.declared.usage.Use.{Use}
use Rattle.topology_cache.specs.Users.{same_name, points_to_any}
use Rattle.topology_cache.specs.Sets.{is_use}
use Rattle.topology_cache.proofs.Walks.{Walked, walk-begins, walk-goes, walk-ends}
use Rattle.topology_cache.proofs.usage.uses_of.Goals as goal

pub loop-name-init : goal.loop-name-init
loop-name-init g c =
    let all : c.into_iter-name-iterator.result ≡ finite.entries c.args.cell.now.features = search rules in
    record {
      walked = walk-begins c.args.cell.now _ _
          (λ edge name. ap (λ (l : List Use). is_use l edge name) c.new-uses.ensures.items) all;
      counted = ap (λ (n : ℕ). c.args.steps.now + n) (ap length all
          ∙ sym (finite.len-entries c.args.cell.now.features));
    }

pub loop-name-preserved : goal.loop-name-preserved
loop-name-preserved g c =
    record {
      walked = walk-goes c.args.cell.now _ _ c.in-Some.name.now c.in-Some.feature.now _ _
          c.loop-name.invariant.walked c.in-Some.ensures.steps
          (λ edge other.
          c.in_ok-push_uses.ensures edge other
          ∙ ap (λ (ps : List Pointer). (points_to_any edge ps && same_name c.in-Some.name.now other)
          || is_use c.loop-name.uses.items edge other) c.as_slice.ensures);
      counted = omega (arith, c.loop-name.invariant.counted, ap length c.in-Some.ensures.steps, c.tick.ensures);
    }

pub returns-clause-uses : goal.returns-clause-uses
returns-clause-uses g c =
    walk-ends c.args.cell.now (is_use c.loop-name.uses.items)
    (subst (λ (left : List (Name × Feature)). Walked c.args.cell.now (is_use c.loop-name.uses.items) left)
    c.in-None.ensures.steps.0 c.loop-name.invariant.walked)

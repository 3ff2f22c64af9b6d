use Rattle.std.proofs.Common.{ℕ, arith}
use Rattle.spatial_grid.specs.Buckets.{StandsAt}
use Rattle.spatial_grid.proofs.Standing.{keeps_itself, keeps_then, keeps_pushed, pushed_there, up_to_next}
use Rattle.spatial_grid.proofs.entries.push_row.Goals as goal

pub loop-column-init : goal.loop-column-init
loop-column-init c = record { kept = keeps_itself _; there = λ k a b. absurd (omega (arith, a, b)) }

pub loop-column-preserved : goal.loop-column-preserved
loop-column-preserved c =
    let pushed = keeps_pushed _ _ _ c.in_ok-push.ensures.items in
    record {
      kept = keeps_then _ _ _ c.loop-column.invariant.kept pushed;
      there =
          up_to_next (λ (k : ℕ). StandsAt c.args.place c.args.row k c.push.new.self.items) c.args.columns.first c.loop-column.column
          (λ k a b. pushed _ (c.loop-column.invariant.there k a b))
          (pushed_there _ _ _ c.in_ok-push.ensures.items);
    }

pub returns-clause-kept : goal.returns-clause-kept
returns-clause-kept c = c.loop-column.invariant.kept

pub returns-clause-there : goal.returns-clause-there
returns-clause-there c = λ k a b. c.loop-column.invariant.there k a (omega (arith, b, c.loop-column-test.false))

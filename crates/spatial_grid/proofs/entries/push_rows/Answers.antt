use Rattle.std.proofs.Common.{ℕ}
use Rattle.spatial_grid.specs.Buckets.{StandsAcross}
use Rattle.spatial_grid.proofs.Standing.{keeps_then, up_to_next}
use Rattle.spatial_grid.proofs.entries.push_rows.Goals as goal

pub loop-row-preserved : goal.loop-row-preserved
loop-row-preserved c =
    let more = c.in_ok-push_row.ensures in
    let new = c.push_row.new.entries.items in
    record {
      kept = keeps_then c.args.entries.now.items c.loop-row.entries.items new c.loop-row.invariant.kept more.kept;
      there =
          up_to_next (λ (k : ℕ). StandsAcross c.args.place k c.args.columns.first c.args.columns.last new) c.args.rows.first c.loop-row.row
          (λ k a b column d e. more.kept _ (c.loop-row.invariant.there k a b column d e)) more.there;
    }

use Rattle.std.proofs.Common.{sym, subst, arith}
use Rattle.std.specs.List.{All}
use Rattle.plane_bounds.specs.Bounds.{IsIn}
use Rattle.plane_bounds.proofs.Growth.{rings_more}
use Rattle.plane_bounds.proofs.bounds.bounds_of.Goals as goal

pub loop-ring-init : goal.loop-ring-init
loop-ring-init c = record {
  there = λ k d lt. absurd (omega (arith, lt));
  least = λ other box all. record { west = box.west; east = box.east; south = box.south; north = box.north };
}

pub loop-ring-preserved : goal.loop-ring-preserved
loop-ring-preserved c =
    let grown = rw c.as_slice.ensures at c.with_ring-bounds.ensures in record {
      there =
          rings_more c.loop-ring.bounds c.with_ring-bounds.result c.args.rings.now c.ring-item.result c.loop-ring.ring-index c.loop-ring-test.true c.ring-item.is
          c.loop-ring.invariant.there grown;
      least = λ other box all.
          grown.least other (c.loop-ring.invariant.least other box all)
          (subst (All (IsIn other)) (sym c.ring-item.is) (all c.loop-ring.ring-index _ c.loop-ring-test.true));
    }

pub returns-clause-all : goal.returns-clause-all
returns-clause-all c = λ k d lt. c.loop-ring.invariant.there k d (omega (arith, lt))

pub returns-clause-least : goal.returns-clause-least
returns-clause-least c = c.loop-ring.invariant.least

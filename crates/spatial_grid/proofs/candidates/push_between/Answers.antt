use Rattle.std.proofs.Common.{List, length, sym, ap, subst}
use Rattle.std.specs.List.{Contains}
use Rattle.spatial_grid.specs.declared.entry.Entry.{Entry}
use Rattle.spatial_grid.proofs.Looking.{stands_there}
use Rattle.spatial_grid.proofs.candidates.push_between.Goals as goal

pub returns-clause-told : goal.returns-clause-told
returns-clause-told c = record {
  adds = c.in_ok-push_entries.ensures.told.adds;
  told = λ entry h a b.
      c.in_ok-push_entries.ensures.told.told entry
      (subst (λ (l : List Entry). Contains l entry) (sym c.between-those.ensures) (stands_there c.args.entries.now c.args.first c.args.last entry h a b));
}

pub returns-clause-counted : goal.returns-clause-counted
returns-clause-counted c = ap length c.between-those.ensures

pub returns-clause-no_more : goal.returns-clause-no_more
returns-clause-no_more c = c.in_ok-push_entries.ensures.no_more

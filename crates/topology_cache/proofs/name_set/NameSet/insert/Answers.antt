use Rattle.std.proofs.Common.{sym, ap, ◌∙◌}
use Rattle.std.specs.FinMap as finite
use Rattle.topology_cache.specs.Rows.{names_of}
use Rattle.topology_cache.proofs.NameSets.{put-again, rising-put, set-put}
use Rattle.topology_cache.proofs.name_set.NameSet.insert.Goals as goal

pub invariant_of-self : goal.invariant_of-self
invariant_of-self c =
    rising-put c.insert.result (names_of c.self.inside.row) _ c.args.name c.in-Err.place c.self.invariant
    (rw (← c.as_slice.ensures) c.in-Err.ensures.bound) (rw (← c.as_slice.ensures) c.in-Err.ensures.parted)
    c.insert.ensures.ok c.insert.ensures.err

pub returns-in-Ok-clause-ok : goal.returns-in-Ok-clause-ok
returns-in-Ok-clause-ok c =
    sym c.self.view_is
    ∙ put-again (names_of c.self.inside.row) c.args.name c.self.invariant c.in-Ok.field-0
    (rw (← c.as_slice.ensures) c.in-Ok.ensures.bound) (rw (← c.as_slice.ensures) c.in-Ok.ensures.found)
    ∙ ap (λ names. finite.insert names c.args.name tt) c.self.view_is

pub returns-in-Err-clause-ok : goal.returns-in-Err-clause-ok
returns-in-Err-clause-ok c =
    set-put c.insert.result (names_of c.self.inside.row) _ c.args.self.now c.args.name c.in-Err.place c.self.invariant
    c.self.view_is
    (rw (← c.as_slice.ensures) c.in-Err.ensures.bound) (rw (← c.as_slice.ensures) c.in-Err.ensures.parted)
    c.insert.ensures.ok

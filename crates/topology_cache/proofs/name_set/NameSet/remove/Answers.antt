use Rattle.std.proofs.Common.{sym, ap, subst, ◌∙◌}
use Rattle.std.specs.FinMap as finite
use Rattle.topology_cache.specs.Rows.{names_of}
use Rattle.topology_cache.specs.Sets.{AreRising, set_of}
use Rattle.topology_cache.proofs.NameSets.{take-out, none-there}
use Rattle.topology_cache.proofs.name_set.NameSet.remove.Goals as goal

pub invariant_of-self : goal.invariant_of-self
invariant_of-self c =
    subst AreRising (sym c.remove.ensures)
    (take-out (names_of c.self.inside.row) c.args.name c.self.invariant c.in-Ok.place
    (rw (← c.as_slice.ensures) c.in-Ok.ensures.bound) (rw (← c.as_slice.ensures) c.in-Ok.ensures.found)).1

pub returns-in-Ok : goal.returns-in-Ok
returns-in-Ok c =
    ap set_of c.remove.ensures
    ∙ (take-out (names_of c.self.inside.row) c.args.name c.self.invariant c.in-Ok.place
    (rw (← c.as_slice.ensures) c.in-Ok.ensures.bound) (rw (← c.as_slice.ensures) c.in-Ok.ensures.found)).0
    ∙ ap (λ names. finite.remove names c.args.name) c.self.view_is

pub returns-in_default : goal.returns-in_default
returns-in_default c =
    sym c.self.view_is
    ∙ none-there (names_of c.self.inside.row) c.args.name c.self.invariant c.in_default.field-0
    (rw (← c.as_slice.ensures) c.in_default.ensures.bound) (rw (← c.as_slice.ensures) c.in_default.ensures.parted)
    ∙ ap (λ names. finite.remove names c.args.name) c.self.view_is

use Rattle.std.proofs.Common.{T, ◌+◌, ◌∷◌, drop, ap, subst, sym, ◌∙◌}
use Rattle.std.specs.FinMap.Entries.{below_all}
use Rattle.panel_port.specs.PanelKey.{panel_key_cmp}
use Rattle.scene_sync.specs.Walk.{IsLeast, left_of}
use Rattle.scene_sync.proofs.Walks.{below-left, below-passed, first-left, told-alike, told-apart}
use Rattle.scene_sync.proofs.walk.Walk.pass.Goals as goal

pub returns-then-ne-clause-below : goal.returns-then-ne-clause-below
returns-then-ne-clause-below c =
    let found = c.in_ok-first.ensures.lookup in
    let walk = c.self.inside in
    subst (λ w. T (below_all panel_key_cmp c.args.key.now (left_of w))) c.self.view_is
    (below-left c.args.key.now walk.entries.now walk.place c.in_ok-first.field-0.now found.3.0 found.1 c.self.invariant
    (subst (λ w. IsLeast c.args.key.now (left_of w)) (sym c.self.view_is) c.requires)
    (told-apart c.args.key.now c.in_ok-first.field-0.now.0 c.if-ne.ensures))

pub returns-clause-passed : goal.returns-clause-passed
returns-clause-passed c =
    let found = c.in_ok-first.ensures.lookup in
    let walk = c.self.inside in
    ap left_of (sym c.self.view_is)
    ∙ first-left walk.entries.now walk.place c.in_ok-first.field-0.now found.3.0 found.1
    ∙ ap (λ key. (key, c.in_ok-first.field-0.now.1) ∷ drop (walk.place + 1) walk.entries.now)
    (told-alike c.args.key.now c.in_ok-first.field-0.now.0 (sym c.if-ne.false ∙ c.ne.ensures))

pub returns-clause-below : goal.returns-clause-below
returns-clause-below c =
    let found = c.in_ok-first.ensures.lookup in
    let walk = c.self.inside in
    below-passed c.args.key.now walk.entries.now walk.place c.in_ok-first.field-0.now found.3.0 found.1 c.self.invariant
    (told-alike c.args.key.now c.in_ok-first.field-0.now.0 (sym c.if-ne.false ∙ c.ne.ensures))

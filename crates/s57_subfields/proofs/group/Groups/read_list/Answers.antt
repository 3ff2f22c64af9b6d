use Rattle.std.proofs.Common.{◌≡◌, ◌∙◌, [], map, Ok, sym, ap}
use Rattle.std.specs.Prelude.{◌==◌}
use Rattle.std.proofs.lemmas.Bool.{false≢true}
use Rattle.s57_subfields.specs.Lists.{groups_in_fields}
use Rattle.s57_subfields.proofs.Lists.{fails-with, list-absent, list-faulty, list-whole, list-without_groups, nothing-read, unread-fault}
use Rattle.s57_subfields.proofs.group.Groups.read_list.Goals as goal
use Rattle.s57_subfields.proofs.group.Groups.read_list.Goals.{in_default-via-in-Some+else-not-is_empty, in_default-via-in_default}

pub returns-then-is_empty-clause-found : goal.returns-then-is_empty-clause-found
returns-then-is_empty-clause-found g c =
    list-absent (g.G.Group.reads c.args.row.now) (g.G.Group.columns c.args.row.now) c.args.self.now c.args.values.now
    (sym c.is_empty.ensures ∙ c.if-is_empty.true)
    ∙ ap (λ items. Ok items) (sym c.new.ensures.items)

pub returns-in-Some-clause-found : goal.returns-in-Some-clause-found
returns-in-Some-clause-found g c =
    list-whole (g.G.Group.reads c.args.row.now) (g.G.Group.columns c.args.row.now) c.args.self.now c.args.values.now
    c.in-Some.items.items (g.met.G.Group.unread c.args.row.now) (sym c.is_empty.ensures ∙ c.if-is_empty.false)
    (rw c.in-Some.is at c.in_ok-items.ensures.found)
    (λ none. false≢true (c.if-not-is_empty.ensures ∙ ap (λ n. n == 0) (c.in-Some.items.ok.0 ∙ none)))

pub returns-in-Some-first_fault-clause-found : goal.returns-in-Some-first_fault-clause-found
returns-in-Some-first_fault-clause-found g c =
    fails-with c.in-Some-first_fault.fault _
    (list-faulty (g.G.Group.reads c.args.row.now) (g.G.Group.columns c.args.row.now) c.args.self.now c.args.values.now
    c.in-Some-first_fault.fault (sym c.is_empty.ensures ∙ c.if-is_empty.false)
    (sym c.first_fault.ensures ∙ c.in-Some-first_fault.is))

-- without a fault there is no group
pub returns-clause-found : goal.returns-clause-found
returns-clause-found g c =
    let reads = g.G.Group.reads c.args.row.now in
    let columns = g.G.Group.columns c.args.row.now in
    let groups = groups_in_fields c.args.self.now c.args.values.now in
    let calm = sym c.first_fault.ensures ∙ c.in-None.is in
    let none : map reads groups ≡ [] = elim c.in_default.branch [
      | in_default-via-in-Some+else-not-is_empty w ↦
          nothing-read w.in-Some.items.items (w.in-Some.items.ok.0) (sym w.if-not-is_empty.ensures)
          (rw w.in-Some.is at c.in_ok-items.ensures.found)
      | in_default-via-in_default w ↦
          absurd (unread-fault reads columns c.args.values.now groups (g.met.G.Group.unread c.args.row.now)
          (rw w.in_default.is at c.in_ok-items.ensures.none) calm)
    ] in
    list-without_groups reads columns c.args.self.now c.args.values.now
    (sym c.is_empty.ensures ∙ c.if-is_empty.false) calm none
    ∙ ap (λ items. Ok items) (sym c.new-in-None.ensures.items)

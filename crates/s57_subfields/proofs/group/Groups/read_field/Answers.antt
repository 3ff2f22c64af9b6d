use Rattle.std.proofs.Common.{◌∙◌, ◌+◌, ◌++◌, Some, drop, map, sym, ap, subst}
use Rattle.std.specs.Prelude.{All}
use Rattle.std.proofs.lemmas.List.Elements.{All-push}
use Rattle.s57_subfields.specs.Tails.{tails}
use Rattle.s57_subfields.proofs.Tails.{any, tails-drop, group-read, rest-is}
use Rattle.s57_subfields.proofs.Unread.{group-unread}
use Rattle.s57_subfields.proofs.group.Groups.read_field.Goals as goal

pub loop-at-init : goal.loop-at-init
loop-at-init g c =
    let groups = c.args.self.now in
    record {
      good = c.requires;
      goes_on = ap (λ rest. map (λ item. Some item) c.args.read.items ++ map (g.G.Group.reads c.args.group.now) rest)
          (sym (tails-drop groups.between groups.at c.args.values.now));
    }

pub loop-at-preserved : goal.loop-at-preserved
loop-at-preserved g c =
    let groups = c.args.self.now in
    let l = c.loop-at in
    let reads = g.G.Group.reads c.args.group.now in
    let holds = g.G.Group.holds c.args.group.now in
    let item = c.in-Ok-Some.item in
    record {
      good = subst (All holds) (sym c.in_ok-push-in-Ok-Some.ensures.items)
          (All-push holds l.read.items item l.invariant.good
          (rw c.in-Ok-Some.field-0-is at c.in-Ok-Some.ensures.holds));
      goes_on = ap (λ items. map (λ item. Some item) items
          ++ map reads (tails groups.between 0 (drop (l.at + (groups.between + 1)) c.args.values.now)))
          c.in_ok-push-in-Ok-Some.ensures.items
          ∙ group-read reads l.read.items groups.between l.at c.args.values.now item any c.loop-at-test.true
          (ap reads (sym (rest-is c.args.values.now l.at)) ∙ sym c.in-Ok-Some.ensures.found ∙ c.in-Ok-Some.field-0-is)
          ∙ l.invariant.goes_on;
    }

pub returns-in-Ok-None-clause-none : goal.returns-in-Ok-None-clause-none
returns-in-Ok-None-clause-none g c =
    let groups = c.args.self.now in
    let l = c.loop-at in
    let reads = g.G.Group.reads c.args.group.now in
    group-unread reads c.args.read.items l.read.items groups.between groups.at l.at c.args.values.now any
    c.loop-at-test.true
    (ap reads (sym (rest-is c.args.values.now l.at)) ∙ sym c.in-Ok-None.ensures.found ∙ c.in-Ok-None.field-0-is)
    l.invariant.goes_on

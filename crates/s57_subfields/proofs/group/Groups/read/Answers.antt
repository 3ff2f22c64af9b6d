use Rattle.std.proofs.Common.{◌≡◌, ◌∙◌, ◌++◌, Some, append-nil, arith, ap, filter, map, rules, subst, sym, true, false}
use Rattle.std.specs.Str.{bytes_eq}
use Rattle.s57_subfields.specs.Tails.{HasNone, tails_of}
use Rattle.s57_subfields.proofs.Tails.{groups_under-other, groups_under-end}
use Rattle.s57_subfields.proofs.Unread.{groups-go_on, groups-have_none}
use Rattle.s57_subfields.proofs.group.Groups.read.Goals as goal

pub loop-field-preserved-then-ne : goal.loop-field-preserved-then-ne
loop-field-preserved-then-ne g c =
    let groups = c.args.self.now in
    let l = c.loop-field in
    let field = c.field-item.result in
    let reads = g.G.Group.reads c.args.group.now in
    let other : bytes_eq field.tag c.tag-tag.result ≡ false = search rules in
    record {
      good = l.invariant.good;
      goes_on = ap (λ rest. map (λ item. Some item) l.read.items ++ map reads rest)
          (sym (groups_under-other c.tag-tag.result groups.at groups.between c.record-field-items.result.now
          l.field-index field (omega arith) c.field-item.is other))
          ∙ l.invariant.goes_on;
    }

pub loop-field-preserved : goal.loop-field-preserved
loop-field-preserved g c =
    let groups = c.args.self.now in
    let l = c.loop-field in
    let same : bytes_eq c.field-item.result.tag c.tag-tag.result ≡ true = search rules in
    record {
      good = rw c.in-Ok-Some.field-0-is at c.in-Ok-Some.ensures.holds;
      goes_on = groups-go_on _ l.read.items c.tag-tag.result groups.at groups.between c.record-field-items.result.now
          l.field-index (omega arith) c.field-item.is same c.as_slice.ensures l.invariant.goes_on
          c.in-Ok-Some.all.items (rw c.in-Ok-Some.field-0-is at c.in-Ok-Some.ensures.found);
    }

pub returns-clause-found : goal.returns-clause-found
returns-clause-found g c =
    let groups = c.args.self.now in
    let l = c.loop-field in
    let reads = g.G.Group.reads c.args.group.now in
    let fields = ap (λ row. row.fields) c.record-field-items.ensures
    ∙ ap (λ tag. map (λ field. field.values)
    (filter (λ field. bytes_eq field.tag tag) c.record-field-items.result.now)) (sym c.tag-tag.ensures) in
    sym (append-nil (map (λ item. Some item) l.read.items))
    ∙ ap (λ rest. map (λ item. Some item) l.read.items ++ map reads rest)
    (sym (groups_under-end c.tag-tag.result groups.at groups.between c.record-field-items.result.now
    l.field-index (omega arith)))
    ∙ l.invariant.goes_on
    ∙ ap (λ values. map reads (tails_of groups.at groups.between values)) (sym fields)

pub returns-in-Ok-None-clause-none : goal.returns-in-Ok-None-clause-none
returns-in-Ok-None-clause-none g c =
    let groups = c.args.self.now in
    let l = c.loop-field in
    let same : bytes_eq c.field-item.result.tag c.tag-tag.result ≡ true = search rules in
    let fields = ap (λ row. row.fields) c.record-field-items.ensures
    ∙ ap (λ tag. map (λ field. field.values)
    (filter (λ field. bytes_eq field.tag tag) c.record-field-items.result.now)) (sym c.tag-tag.ensures) in
    subst (λ values. HasNone (map (g.G.Group.reads c.args.group.now) (tails_of groups.at groups.between values)))
    (sym fields)
    (groups-have_none _ l.read.items c.tag-tag.result groups.at groups.between c.record-field-items.result.now
    l.field-index (omega arith) c.field-item.is same c.as_slice.ensures l.invariant.goes_on
    (rw c.in-Ok-None.field-0-is at c.in-Ok-None.ensures.none))

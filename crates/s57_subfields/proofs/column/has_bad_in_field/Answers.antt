use Rattle.std.proofs.Common.{◌∙◌, List, sym, ap}
use Rattle.std.specs.Prelude.{is_none}
use Rattle.std.specs.List.{list_any}
use Rattle.iso8211_records.specs.declared.value.Value.{Value}
use Rattle.s57_subfields.specs.Tails.{behind}
use Rattle.s57_subfields.proofs.Tails.{any-end, any-there, any-past, tails-drop, rest-is}
use Rattle.s57_subfields.proofs.column.has_bad_in_field.Goals as goal

pub loop-at-init : goal.loop-at-init
loop-at-init g c =
    let groups = c.args.groups.now in
    ap (list_any (λ group. is_none (behind (g.K.Kind.reads c.args.kind.now) c.args.distance group)))
    (sym (tails-drop groups.between groups.at c.args.values.now))

pub returns-then-is_bad : goal.returns-then-is_bad
returns-then-is_bad g c =
    let test = λ (group : List Value). is_none (behind (g.K.Kind.reads c.args.kind.now) c.args.distance group) in
    let l = c.loop-at in
    sym (any-there test c.args.groups.now.between l.at c.args.values.now c.loop-at-test.true
    (ap test (sym (rest-is c.args.values.now l.at)) ∙ sym c.is_bad.ensures ∙ c.if-is_bad.true))
    ∙ l.invariant

pub loop-at-preserved : goal.loop-at-preserved
loop-at-preserved g c =
    let test = λ (group : List Value). is_none (behind (g.K.Kind.reads c.args.kind.now) c.args.distance group) in
    let l = c.loop-at in
    any-past test c.args.groups.now.between l.at c.args.values.now c.loop-at-test.true
    (ap test (sym (rest-is c.args.values.now l.at)) ∙ sym c.is_bad.ensures ∙ c.if-is_bad.false)
    ∙ l.invariant

pub returns : goal.returns
returns g c =
    let test = λ (group : List Value). is_none (behind (g.K.Kind.reads c.args.kind.now) c.args.distance group) in
    let l = c.loop-at in
    sym (any-end test c.args.groups.now.between l.at c.args.values.now c.loop-at-test.false) ∙ l.invariant

use Rattle.std.proofs.Common.{Some, ap, sym, ◌∙◌}
use Rattle.chart_model.specs.Attrs.{attrs_of}
use Rattle.chart_model.proofs.AttrMaps.{text-present, text-absent, remove-present, remove-absent-text}
use Rattle.chart_model.proofs.attr_map.take_text.Goals as goal

pub returns-in-Ok-clause-value : goal.returns-in-Ok-clause-value
returns-in-Ok-clause-value c =
    ap (λ attr. Some attr.value) c.remove.ensures.value
    ∙ sym (text-present c.args.attrs.now.items c.args.code c.requires c.in-Ok.place c.remove.result (rw (← c.as_slice.ensures.value) c.in-Ok.ensures.bound) (rw (← c.as_slice.ensures.value) c.in-Ok.ensures.found))

pub returns-in-Ok-clause-map : goal.returns-in-Ok-clause-map
returns-in-Ok-clause-map c =
    ap attrs_of c.remove.ensures.items
    ∙ (remove-present c.args.attrs.now.items c.args.code c.requires c.in-Ok.place (rw (← c.as_slice.ensures.value) c.in-Ok.ensures.bound) (rw (← c.as_slice.ensures.value) c.in-Ok.ensures.found)).0

pub returns-in-Ok-clause-rising : goal.returns-in-Ok-clause-rising
returns-in-Ok-clause-rising c =
    rw c.remove.ensures.items
    (remove-present c.args.attrs.now.items c.args.code c.requires c.in-Ok.place (rw (← c.as_slice.ensures.value) c.in-Ok.ensures.bound) (rw (← c.as_slice.ensures.value) c.in-Ok.ensures.found)).1

pub returns-in-Err-clause-value : goal.returns-in-Err-clause-value
returns-in-Err-clause-value c =
    sym (text-absent c.args.attrs.now.items c.args.code c.requires c.in-Err.field-0 (rw (← c.as_slice.ensures.value) c.in-Err.ensures.bound) (rw (← c.as_slice.ensures.value) c.in-Err.ensures.parted))

pub returns-in-Err-clause-map : goal.returns-in-Err-clause-map
returns-in-Err-clause-map c =
    remove-absent-text c.args.attrs.now.items c.args.code c.requires c.in-Err.field-0 (rw (← c.as_slice.ensures.value) c.in-Err.ensures.bound) (rw (← c.as_slice.ensures.value) c.in-Err.ensures.parted)

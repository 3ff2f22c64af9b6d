use Rattle.std.proofs.Common.{ap, ◌∙◌}
use Rattle.chart_model.specs.Attrs.{attrs_of}
use Rattle.chart_model.proofs.AttrMaps.{put-present, put-absent}
use Rattle.chart_model.proofs.attr_map.put_text.Goals as goal

pub returns-in-Ok-clause-map : goal.returns-in-Ok-clause-map
returns-in-Ok-clause-map c =
    (put-present c.args.attrs.now.items c.args.code c.requires.rising c.args.value c.in-Ok.place (rw (← c.as_slice.ensures.value) c.in-Ok.ensures.bound) (rw (← c.as_slice.ensures.value) c.in-Ok.ensures.found)).0

pub returns-in-Ok-clause-rising : goal.returns-in-Ok-clause-rising
returns-in-Ok-clause-rising c =
    (put-present c.args.attrs.now.items c.args.code c.requires.rising c.args.value c.in-Ok.place (rw (← c.as_slice.ensures.value) c.in-Ok.ensures.bound) (rw (← c.as_slice.ensures.value) c.in-Ok.ensures.found)).1

pub returns-in-Ok-insert-clause-map : goal.returns-in-Ok-insert-clause-map
returns-in-Ok-insert-clause-map c =
    ap attrs_of c.in-Ok-insert.ensures.items
    ∙ (put-absent c.args.attrs.now.items c.args.code c.requires.rising c.args.value c.in-Err.place (rw (← c.as_slice.ensures.value) c.in-Err.ensures.bound) (rw (← c.as_slice.ensures.value) c.in-Err.ensures.parted)).0

pub returns-in-Ok-insert-clause-rising : goal.returns-in-Ok-insert-clause-rising
returns-in-Ok-insert-clause-rising c =
    rw c.in-Ok-insert.ensures.items
    (put-absent c.args.attrs.now.items c.args.code c.requires.rising c.args.value c.in-Err.place (rw (← c.as_slice.ensures.value) c.in-Err.ensures.bound) (rw (← c.as_slice.ensures.value) c.in-Err.ensures.parted)).1

use Rattle.std.proofs.Common.{◌≡◌, ◌+◌, ◌≤◌}
use Rattle.std.specs.Vec.{vec_len, vec_capacity}
use Rattle.std.specs.Vec.Iter.{into_iter_items, into_iter_len}
use Rattle.chart_model.specs.Attrs.{AreRising, attrs_of, set_attrs}
use Rattle.chart_model.proofs.attr_map.set_each.Given as goal

abbrev pub invariant-loop-setting : goal.invariant-loop-setting
invariant-loop-setting l =
    (set_attrs (attrs_of l.attrs.items) (into_iter_items l.setting-iterator) ≡ set_attrs (attrs_of l.fn.attrs.items) l.fn.settings.items)
    × AreRising l.attrs.items
    × (vec_len l.attrs + into_iter_len l.setting-iterator ≤ vec_capacity l.attrs)

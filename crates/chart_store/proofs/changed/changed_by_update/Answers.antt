-- A record that differs is one that a change names, and where none is deleted each of these differs.
use Rattle.std.proofs.Common.{refl, sym, ◌∙◌}
use Rattle.chart_store.proofs.Differing.{names-differing, all-differ}
use Rattle.chart_store.proofs.changed.changed_by_update.Goals as goal

pub returns-then-targets : goal.returns-then-targets
returns-then-targets c =
    let own = c.requires in
    rw (own.before_is, own.after_is)
    (all-differ own.chart own.now own.dataset _ _ _ _ c.other_records_stay.ensures c.named_records_differ.ensures own.builds
    refl refl own.named.names (sym c.if-targets.true ∙ own.named.kept) c.in_order_once.ensures.rising
    c.in_order_once.ensures.same)

pub changed_among-requires : goal.changed_among-requires
changed_among-requires c =
    let own = c.requires in
    rw (own.before_is, own.after_is)
    (names-differing own.chart own.now own.dataset _ _ _ c.other_records_stay.ensures own.builds refl refl
    own.named.names)

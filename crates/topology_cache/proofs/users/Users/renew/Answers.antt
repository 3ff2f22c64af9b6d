use Rattle.std.proofs.Common.{◌&&◌, ◌||◌, not, List, ap, ◌∙◌}
use Rattle.chart_model.specs.declared.record.Pointer.{Pointer}
use Rattle.topology_cache.specs.Users.{same_name, points_to_any}
use Rattle.topology_cache.specs.Sets.{is_user}
use Rattle.topology_cache.proofs.Changes.{between-goes, on-ok}
use Rattle.topology_cache.proofs.users.Users.renew.Goals as goal

pub returns : goal.returns
returns c =
    on-ok c.insert_all.result (λ put done so.
    between-goes c.args.old.now c.args.new.now done c.args.name c.args.self.now c.remove_all.new.self
    c.insert_all.new.self so
    (λ edge other.
    c.remove_all.ensures edge other
    ∙ ap (λ (ps : List Pointer). not (points_to_any edge ps && same_name c.args.name other)
    && is_user c.args.self.now edge other) c.pointers_at.ensures)
    (λ edge other.
    put edge other
    ∙ ap (λ (ps : List Pointer). (points_to_any edge ps && same_name c.args.name other)
    || is_user c.remove_all.new.self edge other) c.pointers_at-2.ensures))
    c.insert_all.ensures

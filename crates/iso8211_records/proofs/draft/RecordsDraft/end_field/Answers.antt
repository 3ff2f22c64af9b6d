use Rattle.std.proofs.Common.{rules, ◌++◌, ◌∷◌, [], List, map, ◌∙◌, ap, drop}
use Rattle.iso8211_records.specs.declared.record.RawField.{RawField}
use Rattle.iso8211_records.specs.Draft.{DraftValue, part}
use Rattle.iso8211_records.proofs.Extents.{begun-more, fields-more, records-stay}
use Rattle.iso8211_records.proofs.draft.RecordsDraft.end_field.Goals as goal

pub returns-clause-records : goal.returns-clause-records
returns-clause-records c =
    ap (λ (fields : List RawField). map (part fields) c.self.inside.records.items) (fields-more _ _ _ _ _ _ c.in_ok-push.ensures.items (search rules))
    ∙ records-stay _ _ _ _ c.self.invariant.1
    ∙ ap (λ (draft : DraftValue). draft.records) c.self.view_is

pub returns-clause-begun : goal.returns-clause-begun
returns-clause-begun c =
    ap (drop c.self.inside.fields_from) (fields-more _ _ _ _ _ _ c.in_ok-push.ensures.items (search rules))
    ∙ begun-more _ _ _ _ c.self.invariant.2
    ∙ ap (λ (draft : DraftValue). draft.begun ++ record { tag = c.args.tag; values = draft.values } ∷ []) c.self.view_is

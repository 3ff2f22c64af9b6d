use Rattle.std.proofs.Common.{List, map, drop, subst, ap, ◌∙◌}
use Rattle.std.proofs.lemmas.Result.{on_ok_weaker}
use Rattle.iso8211_records.specs.declared.record.RawField.{RawField}
use Rattle.iso8211_records.specs.Draft.{DraftValue, part}
use Rattle.iso8211_records.specs.Values.{Finds, before_all, values_of}
use Rattle.iso8211_records.proofs.Extents.{fields-stay, values-more}
use Rattle.iso8211_records.proofs.draft.RecordsDraft.read_values.Goals as goal

pub returns-clause-read : goal.returns-clause-read
returns-clause-read c =
    subst (λ (draft : DraftValue). Finds (λ _. drop c.self.inside.values_from c.read_values.new.values.items) c.read_values.result
    (before_all draft.values (values_of (record { once = c.args.once.now; group = c.args.group.now }) c.args.text.now)))
    c.self.view_is
    (values-more c.read_values.result _ _ _ _ c.self.invariant.3 c.read_values.ensures.read)

pub returns-clause-records : goal.returns-clause-records
returns-clause-records c =
    on_ok_weaker c.read_values.result
    (λ same. ap (λ (fields : List RawField). map (part fields) c.self.inside.records.items) same ∙ ap (λ (draft : DraftValue). draft.records) c.self.view_is)
    (fields-stay c.read_values.result c.self.inside.fields.items _ _ _ c.self.invariant.0 c.read_values.ensures.read)

pub returns-clause-begun : goal.returns-clause-begun
returns-clause-begun c =
    on_ok_weaker c.read_values.result
    (λ same. ap (drop c.self.inside.fields_from) same ∙ ap (λ (draft : DraftValue). draft.begun) c.self.view_is)
    (fields-stay c.read_values.result c.self.inside.fields.items _ _ _ c.self.invariant.0 c.read_values.ensures.read)

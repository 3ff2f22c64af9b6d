use Rattle.std.proofs.Common.{sym, ◌∙◌}
use Rattle.std.specs.BTreeMap.{get}
use Rattle.chart_model.specs.Keys.{key_cmp}
use Rattle.exchange_catalogue.proofs.Noted.{listed-as, absent, noted-new}
use Rattle.exchange_catalogue.proofs.firsts.note_entry.Goals as goal

pub returns-in_ok-insert-clause-noted : goal.returns-in_ok-insert-clause-noted
returns-in_ok-insert-clause-noted c =
    let file = c.in-Some.file in
    let listed = listed-as c.args.place c.args.entry.now file (sym c.in_ok-file.ensures ∙ c.in-Some.is) in
    let missed = absent (get key_cmp c.args.files.now file.path)
    (sym c.contains_key.ensures ∙ c.if-not-contains_key.true) in
    λ path. noted-new (get key_cmp c.args.files.now) (get key_cmp c.insert.new.self) c.args.place c.args.entry.now file
    path
    listed.0 listed.1 (c.in_ok-insert.ensures.updates.0 path) missed

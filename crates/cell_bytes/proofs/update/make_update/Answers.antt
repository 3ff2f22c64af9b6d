use Rattle.std.proofs.Common.{List, ℕ, ◌++◌, ◌∙◌, ap}
use Rattle.chart_model.specs.declared.dataset.Header.{Header}
use Rattle.cell_bytes.specs.Descriptive.{descriptive_record}
use Rattle.cell_bytes.specs.Record.{of_data, record_of}
use Rattle.cell_bytes.specs.DataSet.{revision_fields}
use Rattle.cell_bytes.proofs.Updates.{update_of}
use Rattle.cell_bytes.proofs.update.make_update.Goals as goal

pub returns : goal.returns
returns c =
    let b0 : List ℕ = c.put_descriptive_record.new.out in
    let n0 : ℕ = c.new-file.result.number in
    update_of c.args.n c.args.u b0 c.put_general.new.file.bytes c.into_bytes.result n0 c.put_general.new.file.number
    (c.in_ok-put_descriptive_record.ensures ∙ ap (λ (l : List ℕ). l ++ descriptive_record) c.new-file.ensures.bytes)
    c.new-file.ensures.number
    (c.in_ok-put_general.ensures.bytes
    ∙ ap (λ (h : Header). b0 ++ record_of of_data (revision_fields n0 h)) c.made_header.ensures)
    c.in_ok-put_general.ensures.number
    (c.into_bytes.ensures ∙ c.in_ok-put_areas.ensures)

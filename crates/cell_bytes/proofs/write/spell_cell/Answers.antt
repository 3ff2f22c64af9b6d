use Rattle.std.proofs.Common.{ℕ, List, ◌++◌, Result, ◌∙◌, ap, subst}
use Rattle.cell_bytes.specs.declared.fault.WriteFault.{WriteFault}
use Rattle.cell_bytes.specs.Answers.{GivesWritten}
use Rattle.cell_bytes.specs.Descriptive.{descriptive_record}
use Rattle.cell_bytes.specs.RecordsRead.{IsCellInRange}
use Rattle.cell_bytes.proofs.Files.{written_by}
use Rattle.cell_bytes.proofs.Ranges.{IfOk-always}
use Rattle.cell_bytes.proofs.write.spell_cell.Goals as goal

pub returns-clause-exact : goal.returns-clause-exact
returns-clause-exact c =
    let P : Result (List ℕ) WriteFault → Type 0 = λ w. GivesWritten c.finish.result w in
    subst P
    (written_by c.args.cell.now c.put_descriptive_record.new.out c.put_general.new.self.bytes c.put_parameters.new.self.bytes
    c.put_vectors.new.self.bytes c.into_bytes.result c.new-file.result.number c.put_general.new.self.number
    c.put_parameters.new.self.number c.put_vectors.new.self.number c.in_ok-of_vectors.of_vectors
    c.in_ok-of_features.of_features c.or.result
    record {
      begun = c.in_ok-put_descriptive_record.ensures ∙ ap (λ (l : List ℕ). l ++ descriptive_record) c.new-file.ensures.bytes;
      first = c.new-file.ensures.number;
      general = c.in_ok-put_general.ensures.bytes;
      second = c.in_ok-put_general.ensures.number;
      parameters = c.in_ok-put_parameters.ensures.bytes;
      third = c.in_ok-put_parameters.ensures.number;
      vectors = c.in_ok-of_vectors.ensures.bytes;
      last = c.in_ok-of_vectors.ensures.number;
      features = c.into_bytes.ensures ∙ c.in_ok-of_features.ensures.bytes;
    }
    c.in_ok-of_vectors.ensures.fault c.in_ok-of_features.ensures.fault c.or.ensures)
    c.finish.ensures

pub returns-clause-in_range : goal.returns-clause-in_range
returns-clause-in_range c =
    let range : IsCellInRange c.args.cell.now = record {
      header = c.in_ok-put_general.ensures.header c.in_ok-put_parameters.ensures.scale;
      counts = c.in_ok-put_general.ensures.counts;
      vectors = c.in_ok-of_vectors.ensures.in_range;
      features = c.in_ok-of_features.ensures.in_range;
    } in
    IfOk-always c.finish.result range

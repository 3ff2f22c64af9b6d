use Rattle.std.proofs.Common.{◌≡◌, [], ◌∷◌, ◌++◌, Some, None, Ok, sym, ◌∙◌, ap}
use Rattle.std.specs.Result.{is_ok, result_ok}
use Rattle.chart_model.specs.Dataset.{DatasetValue}
use Rattle.update_sequence.specs.declared.effect.Effect.TheVariants.{Replace}
use Rattle.update_sequence.specs.Judged.{judged}
use Rattle.update_sequence.specs.Built.{built}
use Rattle.update_sequence.specs.Rebuilt.{numbers_of}
use Rattle.update_sequence.proofs.Accepted.{leaves-as}
use Rattle.sample_datasets.proofs.Files.{is_file}
use Rattle.sample_datasets.proofs.tests.sequences.lists.first.Goals as goal

pub returns-in-Replace : goal.returns-in-Replace
returns-in-Replace g c =
    let bytes = c.args.bytes.items in
    let dataset = c.in_ok-dataset.dataset in
    let is = is_file c.args.key bytes _ _ dataset c.as_slice.ensures.value c.as_slice-2.ensures.value
    c.in_ok-dataset.ensures.exact (c.is_of.ensures c.if-not-is_of.false) in
    let effect : judged None dataset ≡ Ok Replace = sym c.in_ok-effect.ensures ∙ ap Ok c.in-Replace.is in
    let made : built None dataset ≡ Ok c.in_ok-cell.cell = c.in_ok-cell.ensures.built in
    let files : c.push.new.self ≡ bytes ∷ [] = c.in_ok-push.ensures.ok ∙ (λ i. c.new-files.ensures i ++ (c.in_ok-of.ensures ∙ c.from_vec.ensures) i ∷ []) in
    leaves-as c.args.key (bytes ∷ []) _ _ _ _ _ (c.accepted_files_follow.ensures.replaces c.args.key bytes dataset None is effect (ap is_ok made)) files
    (ap Some (c.numbers_of.ensures ∙ ap (λ (seen : DatasetValue). numbers_of seen.header) c.dataset-2.view_is)) (sym (ap result_ok made))

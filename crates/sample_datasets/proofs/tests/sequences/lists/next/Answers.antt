use Rattle.std.proofs.Common.{◌≡◌, Option, Some, Ok, [], ◌∷◌, ◌++◌, refl, sym, ◌∙◌, ap}
use Rattle.std.specs.Option.{option_map}
use Rattle.std.specs.Result.{is_ok, result_ok}
use Rattle.chart_model.specs.Cell.{CellValue}
use Rattle.chart_model.specs.Dataset.{DatasetValue}
use Rattle.update_sequence.specs.Built.{built}
use Rattle.update_sequence.specs.Rebuilt.{numbers_of, cancelled_numbers, rebuilt}
use Rattle.update_sequence.proofs.Accepted.{leaves-as}
use Rattle.sample_datasets.proofs.Files.{put_behind}
use Rattle.sample_datasets.proofs.tests.sequences.lists.next.Goals as goal

pub returns-in-Extend : goal.returns-in-Extend
returns-in-Extend g c =
    let put = put_behind c.args.key c.args.taken.files _ _ c.args.bytes.items _ _ _ c.in_ok-dataset.dataset _ _ c.requires c.as_slice.ensures.value c.as_slice-2.ensures.value
    c.in_ok-dataset.ensures.exact (c.is_of.ensures c.if-not-is_of.false) c.in_ok-effect.ensures c.in_ok-push.ensures.ok (c.in_ok-of.ensures ∙ c.from_vec.ensures) in
    let made : built (rebuilt c.args.taken.files) c.in_ok-dataset.dataset ≡ Ok c.in_ok-cell-in-Extend.cell =
    ap (λ (chart : Option CellValue). built chart c.in_ok-dataset.dataset) (c.requires.builds ∙ sym c.as_ref.ensures.value) ∙ c.in_ok-cell-in-Extend.ensures.built in
    leaves-as c.args.key (c.args.taken.files ++ c.args.bytes.items ∷ []) _ _ _ _ _
    (c.accepted_files_follow.ensures.extends _ _ _ _ put.sequence put.is (put.effect_is ∙ ap Ok c.in-Extend.is) (ap is_ok made)) put.all
    (ap Some (c.numbers_of.ensures ∙ ap (λ (seen : DatasetValue). numbers_of seen.header) c.dataset-in-Extend.view_is)) (sym (ap result_ok made))

pub returns-in-Cancel : goal.returns-in-Cancel
returns-in-Cancel g c =
    let put = put_behind c.args.key c.args.taken.files _ _ c.args.bytes.items _ _ _ c.in_ok-dataset.dataset _ _ c.requires c.as_slice.ensures.value c.as_slice-2.ensures.value
    c.in_ok-dataset.ensures.exact (c.is_of.ensures c.if-not-is_of.false) c.in_ok-effect.ensures c.in_ok-push.ensures.ok (c.in_ok-of.ensures ∙ c.from_vec.ensures) in
    leaves-as c.args.key (c.args.taken.files ++ c.args.bytes.items ∷ []) _ _ _ _ _
    (c.accepted_files_follow.ensures.cancels _ _ _ _ put.sequence put.is (put.effect_is ∙ ap Ok c.in-Cancel.is)) put.all
    (sym (ap (option_map cancelled_numbers) c.requires.numbers)) refl

-- The stage is the one of the data set that the file is.
use Rattle.std.proofs.Common.{◌≡◌, ◌≤◌, List, ℕ, length, Ok, Result, sym, ◌∙◌, ap, subst}
use Rattle.update_sequence.specs.Reading.{data_set_in}
use Rattle.chart_store.specs.declared.refusal.Refusal.{Refusal}
use Rattle.chart_store.specs.Fault.{GivesBy}
use Rattle.chart_store.specs.Loaded.{FILE_LIMIT}
use Rattle.chart_store.specs.Staging.{StagedValue}
use Rattle.chart_store.proofs.Stages.{staged-reads}
use Rattle.chart_store.proofs.load.stage.Goals as goal

pub returns-clause-staged : goal.returns-clause-staged
returns-clause-staged g c =
    let short : length c.args.file ≤ FILE_LIMIT =
    subst (λ (l : List ℕ). length l ≤ FILE_LIMIT) c.as_slice.ensures c.if-as_slice-gt-FILE_LIMIT.false in
    let reads : data_set_in c.args.file ≡ Ok c.in_ok-dataset.dataset =
    ap data_set_in (sym c.as_slice-2.ensures) ∙ c.in_ok-dataset.ensures.exact in
    subst (λ (wanted : Result StagedValue Refusal). GivesBy (λ (s : StagedValue). s) c.staged_with.result wanted) (sym
    (staged-reads c.args.live.now c.args.file c.in_ok-dataset.dataset short reads))
    c.staged_with.ensures.staged

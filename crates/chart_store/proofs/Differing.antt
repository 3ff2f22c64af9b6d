-- The names whose records an update changes.
use Rattle.std.proofs.Common.{◌≡◌, ◌⊎◌, inl, inr, true, List, Option, Some, Result, Ok, Err, sym, ◌∙◌, ap, subst}
use Rattle.std.specs.Prelude.{◌↔◌, Contains, map}
use Rattle.std.specs.List.Sorted.{IsStrictlySortedBy}
use Rattle.chart_model.specs.Answers.{◌>>=◌}
use Rattle.update_sequence.specs.Others.{HasSame, HasOther, delete_none}
use Rattle.chart_difference.specs.Difference.{AreChanged, Differ, HasAll}
use Rattle.chart_model.specs.Cell.{CellValue}
use Rattle.chart_model.specs.Change.{Change}
use Rattle.chart_model.specs.Dataset.{DatasetValue}
use Rattle.chart_model.specs.Names.{name_cmp}
use Rattle.chart_model.specs.declared.name.Name.{Name}
use Rattle.update_sequence.specs.Built.{built}
use Rattle.update_sequence.specs.declared.fault.BuildFault.{BuildFault}
use Rattle.chart_store.specs.Refusal.{refusal_of_build}
use Rattle.chart_store.specs.Fault.{or_refused}
use Rattle.chart_store.specs.Loaded.{chart_built}
use Rattle.chart_store.proofs.Keeping.{some_is}

abbrev pub targets_of : List Change → List Name
targets_of changes = map (λ (change : Change). change.target) changes

differs-not : (before now : CellValue) (name : Name) → HasSame before now name → ¬ Differ (Some before) (Some now) name
differs-not before now name same (inl d) = d (sym same.vector)
differs-not before now name same (inr d) = d (sym same.feature)

names-all : (before now : CellValue) (dataset : DatasetValue) → ((chart after : CellValue) (dataset : DatasetValue)
    (name : Name) → built (Some chart) dataset ≡ Ok after →
    Contains (targets_of dataset.changes) name ⊎ HasSame chart after name) →
    built (Some before) dataset ≡ Ok now → HasAll (Some before) (Some now) (targets_of dataset.changes)
names-all before now dataset stay made name differs =
    elim (stay before now dataset name made) [
      | inl there ↦ there
      | inr same ↦ absurd (differs-not before now name same differs)
    ]

pub names-differing : (before now : CellValue) (dataset : DatasetValue) (inside slice : List Change) (names : List Name) →
    ((chart after : CellValue) (dataset : DatasetValue) (name : Name) → built (Some chart) dataset ≡ Ok after →
    Contains (targets_of dataset.changes) name ⊎ HasSame chart after name) →
    built (Some before) dataset ≡ Ok now → inside ≡ dataset.changes → slice ≡ inside → names ≡ targets_of slice →
    HasAll (Some before) (Some now) names
names-differing before now dataset inside slice names stay made seen whole is =
    subst (HasAll (Some before) (Some now)) (sym (is ∙ ap targets_of (whole ∙ seen)))
    (names-all before now dataset stay made)

-- what is another record differs
differs-too : (before now : CellValue) (name : Name) → HasOther before now name → Differ (Some before) (Some now) name
differs-too before now name (inl other) = inl (λ same. other (sym same))
differs-too before now name (inr other) = inr (λ same. other (sym same))

pub all-differ : (before now : CellValue) (dataset : DatasetValue) (inside slice : List Change) (names once : List Name) →
    ((chart after : CellValue) (dataset : DatasetValue) (name : Name) → built (Some chart) dataset ≡ Ok after →
    Contains (targets_of dataset.changes) name ⊎ HasSame chart after name) →
    ((chart after : CellValue) (dataset : DatasetValue) (name : Name) → built (Some chart) dataset ≡ Ok after →
    delete_none dataset.changes ≡ true → Contains (targets_of dataset.changes) name → HasOther chart after name) →
    built (Some before) dataset ≡ Ok now → inside ≡ dataset.changes → slice ≡ inside → names ≡ targets_of slice →
    true ≡ delete_none slice → IsStrictlySortedBy name_cmp once →
    ((name : Name) → Contains once name ↔ Contains names name) → AreChanged (Some before) (Some now) once
all-differ before now dataset inside slice names once stay other made seen whole is none rising same =
    let named : names ≡ targets_of dataset.changes = is ∙ ap targets_of (whole ∙ seen) in
    let kept : delete_none dataset.changes ≡ true = sym (none ∙ ap delete_none (whole ∙ seen)) in
    record {
      rising = rising;
      exact = λ name. (
        λ there. differs-too before now name (other before now dataset name made kept
            (subst (λ (l : List Name). Contains l name) named ((same name).0 there))),
        λ differ. (same name).1
            (names-differing before now dataset inside slice names stay made seen whole is name differ),
      );
    }

ok_is : {A E : Type 0} {x y : A} → ◌≡◌ {A = Result A E} (Ok x) (Ok y) → x ≡ y
ok_is e = cc

-- a chart that is built
pub built-is : (chart : Option CellValue) (dataset : DatasetValue) (now : CellValue) →
    chart_built chart dataset ≡ Ok (Some now) → built chart dataset ≡ Ok now
built-is chart dataset now e = go (built chart dataset) e
  where
    go : (r : Result CellValue BuildFault) → (or_refused refusal_of_build r >>= (λ after. Ok (Some after))) ≡ Ok (Some now) →
        r ≡ Ok now
    go (Ok cell) e = ap Ok (some_is (ok_is e))
    go (Err fault) e = absurd cc

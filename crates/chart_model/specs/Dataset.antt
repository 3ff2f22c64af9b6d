-- What a cell file says, as contracts see it.
use Rattle.std.specs.Prelude.{◌≡◌, ◌≤◌, ◌↔◌, Bool, true, false, List, [], All, None}
use Rattle.chart_model.specs.declared.dataset.Header.{Header}
use Rattle.chart_model.specs.Change.{Change}
use Rattle.chart_model.specs.Codes.{INSERT}
use Rattle.chart_model.specs.Key.{IsKey}

pub record DatasetValue : Type 0 where
  pub header : Header
  pub base : Bool
  pub cancels : Bool
  pub changes : List Change

-- an insertion that edits no list
pub record IsPlainInsert (change : Change) : Type 0 where
  pub ruin : change.ruin ≡ INSERT
  pub pointer_edit : change.pointer_edit ≡ None
  pub coord_edit : change.coord_edit ≡ None
  pub related_edit : change.related_edit ≡ None

pub record IsDataset (dataset : DatasetValue) : Type 0 where
  pub key : IsKey dataset.header.key
  pub edition : dataset.header.edition ≤ 999999999
  pub update : dataset.header.update ≤ 999999999
  pub cancels : (dataset.cancels ≡ true) ↔ (dataset.header.edition ≡ 0)
  pub base_stands : dataset.cancels ≡ true → dataset.base ≡ false
  pub no_changes : dataset.cancels ≡ true → dataset.changes ≡ []
  pub scale : dataset.base ≡ false → dataset.header.scale ≡ 0
  pub inserts : dataset.base ≡ true → All IsPlainInsert dataset.changes

-- What the subfields of one data record read as.
use Rattle.std.specs.Prelude.{ℕ, Bool, List, Result}
use Rattle.chart_model.specs.declared.name.Foid.{Foid}
use Rattle.chart_model.specs.declared.record.Attr.{Attr}
use Rattle.chart_model.specs.declared.record.Pointer.{Pointer}
use Rattle.chart_model.specs.declared.record.Coord.{Coord}
use Rattle.chart_model.specs.declared.record.Related.{Related}
use Rattle.s57_records.specs.declared.fault.DatasetFault.{DatasetFault}

-- Each answers the value, or that the subfield is missing or its value bad. A tag and a label are given as bytes.
pub record Subfields : Type 0 where
  -- whether the record has a field of this tag
  pub has : List ℕ → Bool
  -- an unsigned number of at most so much, under this tag and this label
  pub number : List ℕ → List ℕ → ℕ → Result ℕ DatasetFault
  -- a number of 1 to 9 digits
  pub digits : List ℕ → List ℕ → Result ℕ DatasetFault
  -- the key in a file's name
  pub key : List ℕ → List ℕ → Result (List ℕ) DatasetFault
  -- a text of eight bytes
  pub date : List ℕ → List ℕ → Result (List ℕ) DatasetFault
  -- the fields of this tag as a list, which is empty where there is none
  pub attrs : List ℕ → Result (List Attr) DatasetFault
  pub pointers : List ℕ → Result (List Pointer) DatasetFault
  pub coords : List ℕ → Result (List Coord) DatasetFault
  pub related : List ℕ → Result (List Related) DatasetFault
  -- the identifier of a feature object
  pub foid : Result Foid DatasetFault

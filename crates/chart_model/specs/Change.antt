-- A change of one record, as contracts see it.
use Rattle.std.specs.Prelude.{◌≡◌, ◌⊎◌, ℕ, List, [], Option, None, All, IfSome, IsSome}
use Rattle.std.specs.Int.{IsInRange}
use Rattle.chart_model.specs.declared.name.Name.{Name}
use Rattle.chart_model.specs.declared.name.Foid.{Foid}
use Rattle.chart_model.specs.declared.record.Attr.{Attr}
use Rattle.chart_model.specs.declared.record.Pointer.{Pointer}
use Rattle.chart_model.specs.declared.record.Coord.{Coord}
use Rattle.chart_model.specs.declared.record.Related.{Related}
use Rattle.chart_model.specs.declared.update_record.Control.{Control}
use Rattle.chart_model.specs.Codes.{INSERT, MODIFY, NULL}
use Rattle.chart_model.specs.Record.{IsVectorName, IsFeatureName, AreCoords, IsPlainText, IsPrim}

pub record Change : Type 0 where
  pub target : Name
  pub ruin : ℕ
  pub version : ℕ
  pub prim : ℕ
  pub grup : ℕ
  pub class : ℕ
  pub foid : Option Foid
  pub attrs : List Attr
  pub pointer_edit : Option Control
  pub pointers : List Pointer
  pub coord_edit : Option Control
  pub coords : List Coord
  pub related_edit : Option Control
  pub related : List Related

-- insert, delete or modify
abbrev pub IsInstruction : ℕ → Type 0
IsInstruction instruction = IsInRange INSERT MODIFY instruction

abbrev pub IsEdit : Option Control → Type 0
IsEdit edit = IfSome edit (λ control. IsInstruction control.instruction)

-- nothing of a feature
pub record HasNoFeature (change : Change) : Type 0 where
  pub prim : change.prim ≡ 0
  pub grup : change.grup ≡ 0
  pub class : change.class ≡ 0
  pub foid : change.foid ≡ None
  pub related_edit : change.related_edit ≡ None
  pub related : change.related ≡ []

-- nothing of a vector record, and the pointers of a feature
pub record HasNoVector (change : Change) : Type 0 where
  pub coord_edit : change.coord_edit ≡ None
  pub coords : change.coords ≡ []
  pub topi : All (λ pointer. pointer.topi ≡ NULL) change.pointers

-- what an inserted feature has
pub record IsFeatureInsert (change : Change) : Type 0 where
  pub prim : IsPrim change.prim
  pub foid : IsSome change.foid

pub record IsChange (change : Change) : Type 0 where
  pub target : IsVectorName change.target ⊎ IsFeatureName change.target
  pub ruin : IsInstruction change.ruin
  pub pointer_edit : IsEdit change.pointer_edit
  pub coord_edit : IsEdit change.coord_edit
  pub related_edit : IsEdit change.related_edit
  pub attrs : All (λ attr. IsPlainText attr.value) change.attrs
  pub coords : AreCoords change.coords
  pub vector : IsVectorName change.target → HasNoFeature change
  pub feature : IsFeatureName change.target → HasNoVector change
  pub insert : IsFeatureName change.target → change.ruin ≡ INSERT → IsFeatureInsert change

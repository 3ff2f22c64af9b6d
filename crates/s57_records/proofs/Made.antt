-- The change made of what was read keeps what every change keeps.
use Rattle.std.proofs.Common.{◌≡◌, Bool, List, Option, Ok}
use Rattle.std.specs.Prelude.{codes}
use Rattle.chart_model.specs.declared.name.Foid.{Foid}
use Rattle.chart_model.specs.declared.record.Attr.{Attr}
use Rattle.chart_model.specs.declared.record.Pointer.{Pointer}
use Rattle.chart_model.specs.declared.record.Coord.{Coord}
use Rattle.chart_model.specs.declared.record.Related.{Related}
use Rattle.chart_model.specs.declared.update_record.Control.{Control}
use Rattle.chart_model.specs.Change.{IsChange}
use Rattle.iso8211_records.specs.Kinds.{layout_at}
use Rattle.s57_records.specs.declared.reader.DataRecord.{DataRecord}
use Rattle.s57_records.specs.declared.change.VectorHead.{VectorHead}
use Rattle.s57_records.specs.declared.change.FeatureHead.{FeatureHead}
use Rattle.s57_records.specs.RecordReading.{subfields_in}
use Rattle.s57_records.specs.Rows.{unless_deleted, edit_of, vector_head, coords_of, vector_change, foid_of, feature_head, feature_change}
use Rattle.s57_records.proofs.Changes.{AreWithinLimits, edit_is, are_coords, vector_head_is, vector_made, feature_head_is, feature_made}
use Rattle.s57_records.proofs.WithinLimits.{subfields_within}

pub record_within : (r : DataRecord) → AreWithinLimits (subfields_in r)
record_within r = subfields_within (layout_at r.rows.now) r.number r.fields.now

pub vector_from_parts : (base : Bool) (r : DataRecord) (head : VectorHead) (attrs : List Attr) (pointer_edit : Option Control) (pointers : List Pointer) (coord_edit : Option Control) (coords : List Coord) → vector_head base r.number (subfields_in r) ≡ Ok head → unless_deleted head.ruin ((subfields_in r).attrs (codes "ATTV")) ≡ Ok attrs → edit_of base head.ruin r.number (subfields_in r) (codes "VRPC") (codes "VPUI") (codes "VPIX") (codes "NVPT") ≡ Ok pointer_edit → edit_of base head.ruin r.number (subfields_in r) (codes "SGCC") (codes "CCUI") (codes "CCIX") (codes "CCNC") ≡ Ok coord_edit → coords_of head.ruin (subfields_in r) ≡ Ok coords → IsChange (vector_change head attrs pointer_edit pointers coord_edit coords)
vector_from_parts base r head attrs pointer_edit pointers coord_edit coords head_e attrs_e pointer_edit_e coord_edit_e coords_e =
    vector_made base r.number (subfields_in r) (record_within r) head attrs pointer_edit pointers coord_edit coords (vector_head_is base r.number (subfields_in r) head head_e) attrs_e (edit_is base head.ruin r.number (subfields_in r) _ _ _ _ pointer_edit pointer_edit_e) (edit_is base head.ruin r.number (subfields_in r) _ _ _ _ coord_edit coord_edit_e) (are_coords (subfields_in r) (record_within r) head.ruin coords coords_e)

pub feature_from_parts : (base : Bool) (r : DataRecord) (head : FeatureHead) (foid : Option Foid) (attrs : List Attr) (related_edit : Option Control) (related : List Related) (pointer_edit : Option Control) (pointers : List Pointer) → feature_head base r.number (subfields_in r) ≡ Ok head → foid_of head.ruin r.number (subfields_in r) ≡ Ok foid → unless_deleted head.ruin ((subfields_in r).attrs (codes "ATTF")) ≡ Ok attrs → edit_of base head.ruin r.number (subfields_in r) (codes "FFPC") (codes "FFUI") (codes "FFIX") (codes "NFPT") ≡ Ok related_edit → edit_of base head.ruin r.number (subfields_in r) (codes "FSPC") (codes "FSUI") (codes "FSIX") (codes "NSPT") ≡ Ok pointer_edit → unless_deleted head.ruin ((subfields_in r).pointers (codes "FSPT")) ≡ Ok pointers → IsChange (feature_change head foid attrs related_edit related pointer_edit pointers)
feature_from_parts base r head foid attrs related_edit related pointer_edit pointers head_e foid_e attrs_e related_edit_e pointer_edit_e pointers_e =
    feature_made base r.number (subfields_in r) (record_within r) head foid attrs related_edit related pointer_edit pointers (feature_head_is base r.number (subfields_in r) head head_e) foid_e attrs_e (edit_is base head.ruin r.number (subfields_in r) _ _ _ _ related_edit related_edit_e) (edit_is base head.ruin r.number (subfields_in r) _ _ _ _ pointer_edit pointer_edit_e) pointers_e

-- The rows of the standard's tables, as they stand in a file's descriptors.
use Rattle.std.specs.Prelude.{◌≡◌, ℕ, List, Option}
use Rattle.iso8211_formats.specs.Layout.{Layout}
use Rattle.iso8211_records.specs.Kinds.{layout_at}
use Rattle.s57_subfields.specs.Tags as tags
use Rattle.s57_fields.specs.Dsid.{dsid_row}
use Rattle.s57_fields.specs.Dssi.{dssi_row}
use Rattle.s57_fields.specs.Dspm.{dspm_row}
use Rattle.s57_fields.specs.Vrid.{vrid_row}
use Rattle.s57_fields.specs.Frid.{frid_row}
use Rattle.s57_fields.specs.Foid.{foid_row}
use Rattle.s57_fields.specs.Attributes.{attribute_row}
use Rattle.s57_fields.specs.Control.{vrpc_row, sgcc_row, ffpc_row, fspc_row}
use Rattle.s57_fields.specs.Coordinates.{sg2d_row, sg3d_row}
use Rattle.s57_fields.specs.Ffpt.{ffpt_row}
use Rattle.s57_fields.specs.Pointers.{fspt_row, vrpt_row}
use Rattle.s57_subfields.specs.Places.{subfield_of}
use Rattle.s57_fields.specs.declared.control.ControlRow.{ControlRow}
use Rattle.s57_records.specs.declared.rows.GeneralRows.{GeneralRows}
use Rattle.s57_records.specs.declared.rows.VectorRows.{VectorRows}
use Rattle.s57_records.specs.declared.rows.FeatureRows.{FeatureRows}

-- the tags of a file's descriptors, with the layouts under them
abbrev pub Descriptors : Type 0
Descriptors = List (List ℕ × Layout)

abbrev pub general_rows : Descriptors → GeneralRows
general_rows descriptors = record {
  dsid = dsid_row (layout_at descriptors tags.DSID);
  dssi = dssi_row (layout_at descriptors tags.DSSI);
  dspm = dspm_row (layout_at descriptors tags.DSPM);
}

abbrev pub vector_rows : Descriptors → VectorRows
vector_rows descriptors = record {
  vrid = vrid_row (layout_at descriptors tags.VRID);
  attv = attribute_row (layout_at descriptors tags.ATTV);
  vrpc = vrpc_row (layout_at descriptors tags.VRPC);
  vrpt = vrpt_row (layout_at descriptors tags.VRPT);
  sgcc = sgcc_row (layout_at descriptors tags.SGCC);
  sg2d = sg2d_row (layout_at descriptors tags.SG2D);
  sg3d = sg3d_row (layout_at descriptors tags.SG3D);
}

abbrev pub feature_rows : Descriptors → FeatureRows
feature_rows descriptors = record {
  frid = frid_row (layout_at descriptors tags.FRID);
  foid = foid_row (layout_at descriptors tags.FOID);
  attf = attribute_row (layout_at descriptors tags.ATTF);
  ffpc = ffpc_row (layout_at descriptors tags.FFPC);
  ffpt = ffpt_row (layout_at descriptors tags.FFPT);
  fspc = fspc_row (layout_at descriptors tags.FSPC);
  fspt = fspt_row (layout_at descriptors tags.FSPT);
}

-- the subfields of a control field's row are those of their labels
pub record IsFound (layout : Option Layout) (row : ControlRow) : Type 0 where
  pub instruction : row.instruction.subfield ≡ subfield_of layout row.instruction.subfield.label
  pub index : row.index.subfield ≡ subfield_of layout row.index.subfield.label
  pub count : row.count.subfield ≡ subfield_of layout row.count.subfield.label

-- The data descriptive record of a written file (ISO/IEC 8211, data descriptive record; S-57 Part 3, section 7).
use Rattle.std.specs.Prelude.{ℕ, List, [], ◌∷◌, ◌++◌, codes}
use Rattle.chart_model.specs.Codes.{UNIT_TERMINATOR}
use Rattle.cell_bytes.specs.Record.{Field, descriptive, field, record_of}

-- a data descriptive field: field controls, the name, the array descriptor and the format controls
abbrev pub descriptor : List ℕ → List ℕ → List ℕ → List ℕ → List ℕ → List Field
descriptor tag controls name labels formats =
    field tag (controls ++ name ++ UNIT_TERMINATOR ∷ [] ++ labels ++ UNIT_TERMINATOR ∷ [] ++ formats)

-- of a field with one subfield, of one whose subfields stand once, and of one whose subfields are a repeated group
abbrev pub single_controls : List ℕ
single_controls = codes "0500;&   "

abbrev pub row_controls : List ℕ
row_controls = codes "1600;&   "

abbrev pub group_controls : List ℕ
group_controls = codes "2600;&   "

abbrev pub general_descriptors : List Field
general_descriptors =
    descriptor (codes "0001") single_controls (codes "ISO/IEC 8211 Record Identifier") [] (codes "(b12)")
    ++ descriptor (codes "DSID") row_controls (codes "Data set identification field")
    (codes "RCNM!RCID!EXPP!INTU!DSNM!EDTN!UPDN!UADT!ISDT!STED!PRSP!PSDN!PRED!PROF!AGEN!COMT")
    (codes "(b11,b14,2b11,3A,2A(8),R(4),b11,2A,b11,b12,A)")
    ++ descriptor (codes "DSSI") row_controls (codes "Data set structure information field")
    (codes "DSTR!AALL!NALL!NOMR!NOCR!NOGR!NOLR!NOIN!NOCN!NOED!NOFA") (codes "(3b11,8b14)")
    ++ descriptor (codes "DSPM") row_controls (codes "Data set parameter field")
    (codes "RCNM!RCID!HDAT!VDAT!SDAT!CSCL!DUNI!HUNI!PUNI!COUN!COMF!SOMF!COMT")
    (codes "(b11,b14,3b11,b14,4b11,2b14,A)")

abbrev pub vector_descriptors : List Field
vector_descriptors =
    descriptor (codes "VRID") row_controls (codes "Vector record identifier field")
    (codes "RCNM!RCID!RVER!RUIN") (codes "(b11,b14,b12,b11)")
    ++ descriptor (codes "ATTV") group_controls (codes "Vector record attribute field")
    (codes "*ATTL!ATVL") (codes "(b12,A)")
    ++ descriptor (codes "VRPC") row_controls (codes "Vector record pointer control field")
    (codes "VPUI!VPIX!NVPT") (codes "(b11,2b12)")
    ++ descriptor (codes "VRPT") group_controls (codes "Vector record pointer field")
    (codes "*NAME!ORNT!USAG!TOPI!MASK") (codes "(B(40),4b11)")
    ++ descriptor (codes "SGCC") row_controls (codes "Coordinate control field")
    (codes "CCUI!CCIX!CCNC") (codes "(b11,2b12)")
    ++ descriptor (codes "SG2D") group_controls (codes "2-D coordinate field") (codes "*YCOO!XCOO") (codes "(2b24)")
    ++ descriptor (codes "SG3D") group_controls (codes "3-D coordinate field")
    (codes "*YCOO!XCOO!VE3D") (codes "(3b24)")

abbrev pub feature_descriptors : List Field
feature_descriptors =
    descriptor (codes "FRID") row_controls (codes "Feature record identifier field")
    (codes "RCNM!RCID!PRIM!GRUP!OBJL!RVER!RUIN") (codes "(b11,b14,2b11,2b12,b11)")
    ++ descriptor (codes "FOID") row_controls (codes "Feature object identifier field")
    (codes "AGEN!FIDN!FIDS") (codes "(b12,b14,b12)")
    ++ descriptor (codes "ATTF") group_controls (codes "Feature record attribute field")
    (codes "*ATTL!ATVL") (codes "(b12,A)")
    ++ descriptor (codes "FFPC") row_controls (codes "Feature record to feature object pointer control field")
    (codes "FFUI!FFIX!NFPT") (codes "(b11,2b12)")
    ++ descriptor (codes "FFPT") group_controls (codes "Feature record to feature object pointer field")
    (codes "*LNAM!RIND!COMT") (codes "(B(64),b11,A)")
    ++ descriptor (codes "FSPC") row_controls (codes "Feature record to spatial record pointer control field")
    (codes "FSUI!FSIX!NSPT") (codes "(b11,2b12)")
    ++ descriptor (codes "FSPT") group_controls (codes "Feature record to spatial record pointer field")
    (codes "*NAME!ORNT!USAG!MASK") (codes "(B(40),3b11)")

-- the bytes of the record
unfoldable pub descriptive_record : List ℕ
descriptive_record = record_of descriptive (general_descriptors ++ vector_descriptors ++ feature_descriptors)

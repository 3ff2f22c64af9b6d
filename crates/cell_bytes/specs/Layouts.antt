-- What the data descriptive record of a written file says of its fields: their labels and formats (S-57 Part 3, 7).
use Rattle.std.specs.Prelude.{ℕ, List, [], ◌∷◌, codes, Some, None}
use Rattle.iso8211_formats.specs.Layout.{Layout}
use Rattle.iso8211_formats.specs.declared.format.Format.{Format}
use Rattle.iso8211_formats.specs.declared.format.Format.TheVariants.{TextOpen, Text, Unsigned, Signed, Bits}

-- subfields that stand once
abbrev pub row_layout : List (List ℕ) → List Format → Layout
row_layout labels formats = record { labels = labels; formats = formats; repeats_from = None }

-- subfields that are repeated as a group
abbrev pub group_layout : List (List ℕ) → List Format → Layout
group_layout labels formats = record { labels = labels; formats = formats; repeats_from = Some 1 }

abbrev pub b11 : Format
b11 = Unsigned 1

abbrev pub b12 : Format
b12 = Unsigned 2

abbrev pub b14 : Format
b14 = Unsigned 4

abbrev pub b24 : Format
b24 = Signed 4

abbrev pub DSID : Layout
DSID = row_layout
    (codes "RCNM" ∷ codes "RCID" ∷ codes "EXPP" ∷ codes "INTU" ∷ codes "DSNM" ∷ codes "EDTN" ∷ codes "UPDN"
    ∷ codes "UADT" ∷ codes "ISDT" ∷ codes "STED" ∷ codes "PRSP" ∷ codes "PSDN" ∷ codes "PRED" ∷ codes "PROF"
    ∷ codes "AGEN" ∷ codes "COMT" ∷ [])
    (b11 ∷ b14 ∷ b11 ∷ b11 ∷ TextOpen ∷ TextOpen ∷ TextOpen ∷ Text 8 ∷ Text 8 ∷ Text 4 ∷ b11 ∷ TextOpen ∷ TextOpen
    ∷ b11 ∷ b12 ∷ TextOpen ∷ [])

abbrev pub DSSI : Layout
DSSI = row_layout
    (codes "DSTR" ∷ codes "AALL" ∷ codes "NALL" ∷ codes "NOMR" ∷ codes "NOCR" ∷ codes "NOGR" ∷ codes "NOLR"
    ∷ codes "NOIN" ∷ codes "NOCN" ∷ codes "NOED" ∷ codes "NOFA" ∷ [])
    (b11 ∷ b11 ∷ b11 ∷ b14 ∷ b14 ∷ b14 ∷ b14 ∷ b14 ∷ b14 ∷ b14 ∷ b14 ∷ [])

abbrev pub DSPM : Layout
DSPM = row_layout
    (codes "RCNM" ∷ codes "RCID" ∷ codes "HDAT" ∷ codes "VDAT" ∷ codes "SDAT" ∷ codes "CSCL" ∷ codes "DUNI"
    ∷ codes "HUNI" ∷ codes "PUNI" ∷ codes "COUN" ∷ codes "COMF" ∷ codes "SOMF" ∷ codes "COMT" ∷ [])
    (b11 ∷ b14 ∷ b11 ∷ b11 ∷ b11 ∷ b14 ∷ b11 ∷ b11 ∷ b11 ∷ b11 ∷ b14 ∷ b14 ∷ TextOpen ∷ [])

abbrev pub VRID : Layout
VRID = row_layout (codes "RCNM" ∷ codes "RCID" ∷ codes "RVER" ∷ codes "RUIN" ∷ []) (b11 ∷ b14 ∷ b12 ∷ b11 ∷ [])

-- ATTV and ATTF
abbrev pub ATTRIBUTES : Layout
ATTRIBUTES = group_layout (codes "ATTL" ∷ codes "ATVL" ∷ []) (b12 ∷ TextOpen ∷ [])

-- VRPC, SGCC, FFPC and FSPC
abbrev pub control : List ℕ → List ℕ → List ℕ → Layout
control instruction index count = row_layout (instruction ∷ index ∷ count ∷ []) (b11 ∷ b12 ∷ b12 ∷ [])

abbrev pub VRPT : Layout
VRPT = group_layout
    (codes "NAME" ∷ codes "ORNT" ∷ codes "USAG" ∷ codes "TOPI" ∷ codes "MASK" ∷ [])
    (Bits 40 ∷ b11 ∷ b11 ∷ b11 ∷ b11 ∷ [])

abbrev pub SG2D : Layout
SG2D = group_layout (codes "YCOO" ∷ codes "XCOO" ∷ []) (b24 ∷ b24 ∷ [])

abbrev pub SG3D : Layout
SG3D = group_layout (codes "YCOO" ∷ codes "XCOO" ∷ codes "VE3D" ∷ []) (b24 ∷ b24 ∷ b24 ∷ [])

abbrev pub FRID : Layout
FRID = row_layout
    (codes "RCNM" ∷ codes "RCID" ∷ codes "PRIM" ∷ codes "GRUP" ∷ codes "OBJL" ∷ codes "RVER" ∷ codes "RUIN" ∷ [])
    (b11 ∷ b14 ∷ b11 ∷ b11 ∷ b12 ∷ b12 ∷ b11 ∷ [])

abbrev pub FOID : Layout
FOID = row_layout (codes "AGEN" ∷ codes "FIDN" ∷ codes "FIDS" ∷ []) (b12 ∷ b14 ∷ b12 ∷ [])

abbrev pub FFPT : Layout
FFPT = group_layout (codes "LNAM" ∷ codes "RIND" ∷ codes "COMT" ∷ []) (Bits 64 ∷ b11 ∷ TextOpen ∷ [])

abbrev pub FSPT : Layout
FSPT = group_layout
    (codes "NAME" ∷ codes "ORNT" ∷ codes "USAG" ∷ codes "MASK" ∷ []) (Bits 40 ∷ b11 ∷ b11 ∷ b11 ∷ [])

-- each field's layout under its tag, in the order of the directory
unfoldable pub layouts : List (List ℕ × Layout)
layouts =
    (codes "DSID", DSID) ∷ (codes "DSSI", DSSI) ∷ (codes "DSPM", DSPM)
    ∷ (codes "VRID", VRID) ∷ (codes "ATTV", ATTRIBUTES)
    ∷ (codes "VRPC", control (codes "VPUI") (codes "VPIX") (codes "NVPT")) ∷ (codes "VRPT", VRPT)
    ∷ (codes "SGCC", control (codes "CCUI") (codes "CCIX") (codes "CCNC")) ∷ (codes "SG2D", SG2D)
    ∷ (codes "SG3D", SG3D)
    ∷ (codes "FRID", FRID) ∷ (codes "FOID", FOID) ∷ (codes "ATTF", ATTRIBUTES)
    ∷ (codes "FFPC", control (codes "FFUI") (codes "FFIX") (codes "NFPT")) ∷ (codes "FFPT", FFPT)
    ∷ (codes "FSPC", control (codes "FSUI") (codes "FSIX") (codes "NSPT")) ∷ (codes "FSPT", FSPT) ∷ []

-- the tags of all these fields (S-57 Part 3)
abbrev pub tags_read : List (List ℕ)
tags_read =
    codes "DSID" ∷ codes "DSSI" ∷ codes "DSPM" ∷ codes "VRID" ∷ codes "ATTV" ∷ codes "VRPC" ∷ codes "VRPT"
    ∷ codes "SGCC" ∷ codes "SG2D" ∷ codes "SG3D"
    ∷ codes "FRID" ∷ codes "FOID" ∷ codes "ATTF" ∷ codes "FFPC" ∷ codes "FFPT" ∷ codes "FSPC" ∷ codes "FSPT" ∷ []

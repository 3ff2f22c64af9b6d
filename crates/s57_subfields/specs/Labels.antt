-- The labels of the subfields that are looked at, as the standard spells them (S-57 Part 3).
use Rattle.std.specs.Prelude.{ℕ, List, codes}

abbrev pub DSNM : List ℕ
DSNM = codes "DSNM"

abbrev pub EDTN : List ℕ
EDTN = codes "EDTN"

abbrev pub UPDN : List ℕ
UPDN = codes "UPDN"

abbrev pub ISDT : List ℕ
ISDT = codes "ISDT"

abbrev pub PROF : List ℕ
PROF = codes "PROF"

abbrev pub AGEN : List ℕ
AGEN = codes "AGEN"

abbrev pub AALL : List ℕ
AALL = codes "AALL"

abbrev pub CSCL : List ℕ
CSCL = codes "CSCL"

abbrev pub DUNI : List ℕ
DUNI = codes "DUNI"

abbrev pub COUN : List ℕ
COUN = codes "COUN"

abbrev pub COMF : List ℕ
COMF = codes "COMF"

abbrev pub SOMF : List ℕ
SOMF = codes "SOMF"

abbrev pub RCNM : List ℕ
RCNM = codes "RCNM"

abbrev pub RCID : List ℕ
RCID = codes "RCID"

abbrev pub RVER : List ℕ
RVER = codes "RVER"

abbrev pub RUIN : List ℕ
RUIN = codes "RUIN"

abbrev pub ATTL : List ℕ
ATTL = codes "ATTL"

abbrev pub ATVL : List ℕ
ATVL = codes "ATVL"

abbrev pub VPUI : List ℕ
VPUI = codes "VPUI"

abbrev pub VPIX : List ℕ
VPIX = codes "VPIX"

abbrev pub NVPT : List ℕ
NVPT = codes "NVPT"

abbrev pub NAME : List ℕ
NAME = codes "NAME"

abbrev pub ORNT : List ℕ
ORNT = codes "ORNT"

abbrev pub USAG : List ℕ
USAG = codes "USAG"

abbrev pub TOPI : List ℕ
TOPI = codes "TOPI"

abbrev pub MASK : List ℕ
MASK = codes "MASK"

abbrev pub CCUI : List ℕ
CCUI = codes "CCUI"

abbrev pub CCIX : List ℕ
CCIX = codes "CCIX"

abbrev pub CCNC : List ℕ
CCNC = codes "CCNC"

abbrev pub YCOO : List ℕ
YCOO = codes "YCOO"

abbrev pub XCOO : List ℕ
XCOO = codes "XCOO"

abbrev pub VE3D : List ℕ
VE3D = codes "VE3D"

abbrev pub PRIM : List ℕ
PRIM = codes "PRIM"

abbrev pub GRUP : List ℕ
GRUP = codes "GRUP"

abbrev pub OBJL : List ℕ
OBJL = codes "OBJL"

abbrev pub FIDN : List ℕ
FIDN = codes "FIDN"

abbrev pub FIDS : List ℕ
FIDS = codes "FIDS"

abbrev pub FFUI : List ℕ
FFUI = codes "FFUI"

abbrev pub FFIX : List ℕ
FFIX = codes "FFIX"

abbrev pub NFPT : List ℕ
NFPT = codes "NFPT"

abbrev pub LNAM : List ℕ
LNAM = codes "LNAM"

abbrev pub RIND : List ℕ
RIND = codes "RIND"

abbrev pub FSUI : List ℕ
FSUI = codes "FSUI"

abbrev pub FSIX : List ℕ
FSIX = codes "FSIX"

abbrev pub NSPT : List ℕ
NSPT = codes "NSPT"

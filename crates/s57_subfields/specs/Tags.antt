-- The tags of the fields that are read, as the standard spells them (S-57 Part 3).
use Rattle.std.specs.Prelude.{ℕ, List, codes}

abbrev pub DSID : List ℕ
DSID = codes "DSID"

abbrev pub DSSI : List ℕ
DSSI = codes "DSSI"

abbrev pub DSPM : List ℕ
DSPM = codes "DSPM"

abbrev pub VRID : List ℕ
VRID = codes "VRID"

abbrev pub ATTV : List ℕ
ATTV = codes "ATTV"

abbrev pub VRPC : List ℕ
VRPC = codes "VRPC"

abbrev pub VRPT : List ℕ
VRPT = codes "VRPT"

abbrev pub SGCC : List ℕ
SGCC = codes "SGCC"

abbrev pub SG2D : List ℕ
SG2D = codes "SG2D"

abbrev pub SG3D : List ℕ
SG3D = codes "SG3D"

abbrev pub FRID : List ℕ
FRID = codes "FRID"

abbrev pub FOID : List ℕ
FOID = codes "FOID"

abbrev pub ATTF : List ℕ
ATTF = codes "ATTF"

abbrev pub FFPC : List ℕ
FFPC = codes "FFPC"

abbrev pub FFPT : List ℕ
FFPT = codes "FFPT"

abbrev pub FSPC : List ℕ
FSPC = codes "FSPC"

abbrev pub FSPT : List ℕ
FSPT = codes "FSPT"

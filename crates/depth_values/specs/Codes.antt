-- Codes of the S-57 object catalogue, as definitions name them.
use Rattle.std.specs.Prelude.{ℕ}

-- ---- classes

-- depth area
abbrev pub DEPARE : ℕ
DEPARE = 42

-- dredged area
abbrev pub DRGARE : ℕ
DRGARE = 46

-- obstruction
abbrev pub OBSTRN : ℕ
OBSTRN = 86

-- underwater rock
abbrev pub UWTROC : ℕ
UWTROC = 153

-- wreck
abbrev pub WRECKS : ℕ
WRECKS = 159

-- ---- attributes

-- category of obstruction
abbrev pub CATOBS : ℕ
CATOBS = 42

-- category of wreck
abbrev pub CATWRK : ℕ
CATWRK = 71

-- depth range values
abbrev pub DRVAL1 : ℕ
DRVAL1 = 87

abbrev pub DRVAL2 : ℕ
DRVAL2 = 88

-- exposition of sounding
abbrev pub EXPSOU : ℕ
EXPSOU = 93

-- value of depth contour
abbrev pub VALDCO : ℕ
VALDCO = 174

-- value of sounding
abbrev pub VALSOU : ℕ
VALSOU = 179

-- water level effect
abbrev pub WATLEV : ℕ
WATLEV = 187

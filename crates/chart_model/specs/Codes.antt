-- The codes of S-57 Part 3 and of ISO/IEC 8211, as definitions name them.
use Rattle.std.specs.Prelude.{ℕ}

-- ---- record names (RCNM)

abbrev pub FEATURE : ℕ
FEATURE = 100

abbrev pub ISOLATED_NODE : ℕ
ISOLATED_NODE = 110

abbrev pub CONNECTED_NODE : ℕ
CONNECTED_NODE = 120

abbrev pub EDGE : ℕ
EDGE = 130

-- ---- geometric primitives (PRIM)

abbrev pub POINT : ℕ
POINT = 1

abbrev pub LINE : ℕ
LINE = 2

abbrev pub AREA : ℕ
AREA = 3

abbrev pub NO_PRIMITIVE : ℕ
NO_PRIMITIVE = 255

-- ---- update instructions, of records (RUIN) and of their lists

abbrev pub INSERT : ℕ
INSERT = 1

abbrev pub DELETE : ℕ
DELETE = 2

abbrev pub MODIFY : ℕ
MODIFY = 3

-- ---- what a pointer says

-- orientation (ORNT)
abbrev pub FORWARD : ℕ
FORWARD = 1

abbrev pub REVERSE : ℕ
REVERSE = 2

-- usage (USAG)
abbrev pub EXTERIOR : ℕ
EXTERIOR = 1

abbrev pub INTERIOR : ℕ
INTERIOR = 2

abbrev pub EXTERIOR_CUT : ℕ
EXTERIOR_CUT = 3

-- topology (TOPI)
abbrev pub BEGIN_NODE : ℕ
BEGIN_NODE = 1

abbrev pub END_NODE : ℕ
END_NODE = 2

-- masking (MASK)
abbrev pub MASKED : ℕ
MASKED = 1

abbrev pub SHOWN : ℕ
SHOWN = 2

-- none of these
abbrev pub NULL : ℕ
NULL = 255

-- ---- terminators (ISO/IEC 8211)

abbrev pub UNIT_TERMINATOR : ℕ
UNIT_TERMINATOR = 31

abbrev pub FIELD_TERMINATOR : ℕ
FIELD_TERMINATOR = 30

-- ---- texts

-- the text that removes an attribute: the delete character alone
abbrev pub DELETED : ℕ
DELETED = 127

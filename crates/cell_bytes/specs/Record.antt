-- Records as bytes (ISO/IEC 8211, records): a leader, a directory and the fields.
use Rattle.std.specs.Prelude.{ℕ, zero, suc, ◌+◌, ◌/◌, ◌%◌, ◌^◌, List, [], ◌∷◌, ◌++◌, length, fold, codes}
use Rattle.std.specs.List.{flat_map}
use Rattle.chart_model.specs.Codes.{FIELD_TERMINATOR}
use Rattle.cell_bytes.specs.declared.fields.Fields.{Fields}
use Rattle.cell_bytes.specs.declared.fields.Kind.{Kind}

-- a field: its tag, and its bytes with the field terminator
abbrev pub Field : Type 0
Field = List ℕ × List ℕ

-- the field of a tag and a text
unfoldable pub field : List ℕ → List ℕ → List Field
field tag text = (tag, text ++ FIELD_TERMINATOR ∷ []) ∷ []

-- the field of a tag and a list's text, which is left out where the list is empty
unfoldable pub list_field : List ℕ → List ℕ → List Field
list_field tag [] = []
list_field tag (byte ∷ text) = field tag (byte ∷ text)

-- so many decimal digits of a number, the most significant first
unfoldable pub digits : ℕ → ℕ → List ℕ
digits zero number = []
digits (suc count) number = (48 + number / 10 ^ count % 10) ∷ digits count number

-- the entry of a field at its position in the field area
unfoldable pub entry : ℕ → Field → List ℕ
entry position one = one.0 ++ digits 5 (length one.1) ++ digits 5 position

-- the entries of fields, of which the first stands at the position
unfoldable pub entries : ℕ → List Field → List ℕ
entries position [] = []
entries position (one ∷ more) = entry position one ++ entries (position + length one.1) more

-- the fields, one after the other
unfoldable pub field_area : List Field → List ℕ
field_area fields = flat_map (λ one. one.1) fields

-- a data descriptive record: interchange level 3, leader identifier L, code extension E, version 1, and field controls
-- of 9 bytes
abbrev pub descriptive : Kind
descriptive = record { identification = codes "3LE1 09"; character_set = codes " ! " }

-- a data record: leader identifier D
abbrev pub of_data : Kind
of_data = record { identification = codes " D     "; character_set = codes "   " }

-- the base address of the field area behind a directory
abbrev pub base_of : List ℕ → ℕ
base_of directory = 24 + length directory + 1

-- the bytes of a leader: the entry map says that lengths and positions of fields have five digits, and tags four bytes
unfoldable pub leader_of : Kind → ℕ → ℕ → List ℕ
leader_of kind base bytes =
    digits 5 bytes ++ kind.identification ++ digits 5 base ++ kind.character_set ++ codes "5504"

-- the bytes of a record with this directory and this field area
unfoldable pub record_bytes : Kind → List ℕ → List ℕ → List ℕ
record_bytes kind directory area =
    leader_of kind (base_of directory) (base_of directory + length area) ++ directory ++ FIELD_TERMINATOR ∷ [] ++ area

-- the bytes of a record of these fields
unfoldable pub record_of : Kind → List Field → List ℕ
record_of kind fields = record_bytes kind (entries 0 fields) (field_area fields)

-- ---- fields so far

-- none yet
abbrev pub no_fields : Fields
no_fields = record { directory = []; area = [] }

-- one field more
unfoldable pub with_field : Fields → Field → Fields
with_field before one = record {
  directory = before.directory ++ entry (length before.area) one;
  area = before.area ++ one.1;
}

-- these fields more
abbrev pub with_fields : Fields → List Field → Fields
with_fields before fields = fold with_field before fields

-- these fields alone
abbrev pub only_fields : List Field → Fields
only_fields fields = with_fields no_fields fields

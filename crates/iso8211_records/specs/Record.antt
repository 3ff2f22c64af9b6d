-- Records (ISO/IEC 8211, records): a leader, a directory and a field area.
use Rattle.std.specs.Prelude.{◌≡◌, ℕ, ◌+◌, ◌-◌, ◌≤◌, Bool, true, false, not, ◌&&◌, List, [], ◌∷◌, ◌++◌, length, take}
use Rattle.std.specs.Prelude.{slice_index, Some, IsTrue, if◌then◌else◌}
use Rattle.std.specs.Bool.{MatchBool}
use Rattle.std.specs.List.{slice_range, AllByRecursion}
use Rattle.iso8211_leader.specs.Leader.{HasLeader, Frame, frame_of}
use Rattle.iso8211_leader.specs.Entry.{IsEntry, entry_of}
use Rattle.iso8211_leader.specs.declared.entry.Entry.{Entry}
use Rattle.iso8211_formats.specs.Layout.{Layout}
use Rattle.iso8211_formats.specs.Grammar.{Spells}
use Rattle.iso8211_records.specs.declared.record.RawField.{RawField}
use Rattle.chart_model.specs.Codes.{FIELD_TERMINATOR}
use Rattle.iso8211_records.specs.Tags.{is_listed}
use Rattle.iso8211_records.specs.Spelling.{formats_in, IsField}
use Rattle.iso8211_records.specs.Kinds.{layout_at}

-- the text is these entries, one after the other
abbrev pub IsDirectory : Frame → List Entry → List ℕ → Type 0
IsDirectory frame [] text = text ≡ []
IsDirectory frame (entry ∷ entries) text =
    (front rest : List ℕ) × (text ≡ front ++ rest) × IsEntry frame front × (entry ≡ entry_of frame front)
    × IsDirectory frame entries rest

-- a field's place in the record, after its last byte
abbrev pub field_end : Frame → Entry → ℕ
field_end frame entry = frame.base + entry.position + entry.length

-- the bytes that an entry names
abbrev pub field_bytes : Frame → List ℕ → Entry → List ℕ
field_bytes frame bytes entry = slice_range bytes (frame.base + entry.position) (field_end frame entry)

-- the field lies inside its record
abbrev pub IsInside : Frame → Entry → Type 0
IsInside frame entry = field_end frame entry ≤ frame.length

-- a field with a listed tag isn't empty and ends with a field terminator
abbrev pub IsEnded : List (List ℕ) → Frame → List ℕ → Entry → Type 0
IsEnded tags frame bytes entry =
    IsTrue (is_listed tags entry.tag) → (text : List ℕ)
    × (field_bytes frame bytes entry ≡ text ++ FIELD_TERMINATOR ∷ [])

-- the bytes are a whole record, a data descriptive one or else a data record, with this directory
pub record IsRecord (tags : List (List ℕ)) (first : Bool) (bytes : List ℕ) (frame : Frame)
    (entries : List Entry) : Type 0 where
  pub leader : HasLeader first (take 24 bytes)
  pub says : frame ≡ frame_of (take 24 bytes)
  pub directory : IsDirectory frame entries (slice_range bytes 24 (frame.base - 1))
  pub closing : slice_index bytes (frame.base - 1) ≡ FIELD_TERMINATOR
  pub whole : length bytes ≡ frame.length
  pub inside : AllByRecursion (IsInside frame) entries
  pub ended : AllByRecursion (IsEnded tags frame bytes) entries

-- ---- the data descriptive record

-- the entries of the fields that describe: those with a listed tag, of each tag the first
abbrev pub describing_entries : List (List ℕ) → List (List ℕ) → List Entry → List Entry
describing_entries tags seen [] = []
describing_entries tags seen (entry ∷ entries) =
    if is_listed tags entry.tag && not (is_listed seen entry.tag)
    then entry ∷ describing_entries tags (entry.tag ∷ seen) entries
    else describing_entries tags seen entries

-- the layouts that the fields of these entries spell, under their tags
abbrev pub AreDescriptors : Frame → List ℕ → List Entry → List (List ℕ × Layout) → Type 0
AreDescriptors frame bytes [] [] = Unit {0}
AreDescriptors frame bytes (entry ∷ entries) (pair ∷ pairs) =
    (pair.0 ≡ entry.tag) × Spells pair.1 (field_bytes frame bytes entry) × AreDescriptors frame bytes entries pairs
AreDescriptors frame bytes _ _ = ⊥

-- the bytes are a data descriptive record with these descriptors
pub record IsDescriptiveRecord (tags : List (List ℕ)) (bytes : List ℕ)
    (descriptors : List (List ℕ × Layout)) : Type 0 where
  pub frame : Frame
  pub entries : List Entry
  pub is_record : IsRecord tags true bytes frame entries
  pub describe : AreDescriptors frame bytes (describing_entries tags [] entries) descriptors

-- ---- data records

-- the values of a field with a listed tag are those that its bytes spell by the descriptor of that tag
abbrev pub HasValues : List (List ℕ × Layout) → List ℕ → RawField → Type 0
HasValues descriptors bytes field =
    (layout : Layout) × (layout_at descriptors field.tag ≡ Some layout) × IsField (formats_in layout) field.values bytes

-- the field is what the entry names; of one whose tag isn't listed the bytes aren't looked at
pub record IsFieldOf (tags : List (List ℕ)) (descriptors : List (List ℕ × Layout)) (bytes : List ℕ) (field : RawField)
    (tag : List ℕ) : Type 0 where
  pub tag_is : field.tag ≡ tag
  pub values_are : MatchBool (is_listed tags tag) (HasValues descriptors bytes field) (field.values ≡ [])

-- the fields are what the entries name in the record, in their order
abbrev pub AreFieldsOf : List (List ℕ) → List (List ℕ × Layout) → Frame → List ℕ → List Entry → List RawField → Type 0
AreFieldsOf tags descriptors frame bytes [] [] = Unit {0}
AreFieldsOf tags descriptors frame bytes (entry ∷ entries) (field ∷ fields) =
    IsFieldOf tags descriptors (field_bytes frame bytes entry) field entry.tag
    × AreFieldsOf tags descriptors frame bytes entries fields
AreFieldsOf tags descriptors frame bytes _ _ = ⊥

-- the bytes are a data record with these fields
pub record IsDataRecord (tags : List (List ℕ)) (descriptors : List (List ℕ × Layout)) (bytes : List ℕ)
    (fields : List RawField) : Type 0 where
  pub frame : Frame
  pub entries : List Entry
  pub is_record : IsRecord tags false bytes frame entries
  pub has_fields : AreFieldsOf tags descriptors frame bytes entries fields

-- the bytes are data records with these fields, one after the other
abbrev pub AreDataRecords : List (List ℕ) → List (List ℕ × Layout) → List ℕ → List (List RawField) → Type 0
AreDataRecords tags descriptors bytes [] = bytes ≡ []
AreDataRecords tags descriptors bytes (fields ∷ records) =
    (piece rest : List ℕ) × (bytes ≡ piece ++ rest) × IsDataRecord tags descriptors piece fields
    × AreDataRecords tags descriptors rest records

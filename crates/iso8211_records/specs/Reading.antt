-- Reading records from left to right, to the first fault.
use Rattle.std.specs.Prelude.{ℕ, zero, suc, ◌+◌, ◌-◌, Bool, true, false, not, ◌&&◌, ◌||◌, ◌==◌, nat_lt, nat_le, List}
use Rattle.std.specs.Prelude.{[], ◌∷◌, length, take, drop, slice_index, Option, Some, None, is_some, Result, Ok, Err}
use Rattle.std.specs.Prelude.{if◌then◌else◌, filter}
use Rattle.chart_model.specs.Answers.{◌>>=◌, or_fault}
use Rattle.iso8211_leader.specs.Leader.{Frame, frame_of}
use Rattle.iso8211_leader.specs.Entry.{entry_size, entry_of, entry_text}
use Rattle.iso8211_leader.specs.declared.entry.Entry.{Entry}
use Rattle.iso8211_formats.specs.Layout.{Layout}
use Rattle.iso8211_formats.specs.Reading.{descriptor_of}
use Rattle.iso8211_records.specs.declared.record.RawField.{RawField}
use Rattle.iso8211_records.specs.declared.value.Value.{Value}
use Rattle.iso8211_records.specs.declared.fault.FileFault.{FileFault}
use Rattle.iso8211_records.specs.declared.fault.FileFault.TheVariants.{Leader, Directory, Span, Terminator}
use Rattle.iso8211_records.specs.declared.fault.FileFault.TheVariants.{Descriptor, Subfield}
use Rattle.chart_model.specs.Codes.{FIELD_TERMINATOR}
use Rattle.iso8211_records.specs.Tags.{is_listed}
use Rattle.iso8211_records.specs.Spelling.{formats_in}
use Rattle.iso8211_records.specs.Kinds.{layout_at}
use Rattle.iso8211_records.specs.Record.{field_end, field_bytes, describing_entries}
use Rattle.iso8211_records.specs.Frames.{is_leader, is_entry}
use Rattle.iso8211_records.specs.Values.{values_of}

-- the fault of a place, where there is one
abbrev pub unless_at : (ℕ → FileFault) → Option ℕ → Result (Unit {0}) FileFault
unless_at fault None = Ok tt
unless_at fault (Some place) = Err (fault place)

-- the first of the elements that fails the test
abbrev pub first_without : {A : Type 0} → (A → Bool) → List A → Option A
first_without passes [] = None
first_without passes (x ∷ xs) = if passes x then first_without passes xs else Some x

-- the place of the first entry that fails the test, where each has so many bytes and the first stands at this place
abbrev pub place_without : (Entry → Bool) → ℕ → ℕ → List Entry → Option ℕ
place_without passes size place [] = None
place_without passes size place (entry ∷ entries) =
    if passes entry then place_without passes size (place + size) entries else Some place

-- ---- the frame of a record

-- what the leader at the front of the bytes says, where the bytes stand at this place of the file
unfoldable pub leader_at : Bool → ℕ → List ℕ → Result Frame FileFault
leader_at first at bytes = if is_leader first (take 24 bytes) then Ok (frame_of (take 24 bytes)) else Err (Leader at)

-- whether the closing byte of a directory stands at the place
abbrev pub has_closing : List ℕ → ℕ → Bool
has_closing bytes place = nat_lt place (length bytes) && (slice_index bytes place == FIELD_TERMINATOR)

-- the entries from a place of the record on, at most so many, up to the closing byte
unfoldable pub entries_at : ℕ → ℕ → Frame → List ℕ → ℕ → Result (List Entry) FileFault
entries_at zero at frame bytes place = Err (Directory (at + place))
entries_at (suc bound) at frame bytes place =
    if nat_lt place (frame.base - 1) then
    (if nat_le (place + entry_size frame) (frame.base - 1) && is_entry frame (entry_text frame bytes place) then (do
      entries ← entries_at bound at frame bytes (place + entry_size frame)
      Ok (entry_of frame (entry_text frame bytes place) ∷ entries))
    else Err (Directory (at + place)))
    else (if has_closing bytes place then Ok [] else Err (Directory (at + place)))

-- the directory
unfoldable pub directory_at : ℕ → Frame → List ℕ → Result (List Entry) FileFault
directory_at at frame bytes = entries_at frame.base at frame bytes 24

-- whether the field lies inside its record
abbrev pub is_inside : Frame → Entry → Bool
is_inside frame entry = nat_le (field_end frame entry) frame.length

-- the record and its fields end inside the file and the record
unfoldable pub spans_at : ℕ → Frame → List ℕ → List Entry → Result (Unit {0}) FileFault
spans_at at frame bytes entries =
    if nat_le frame.length (length bytes)
    then unless_at (λ place. Span (at + place)) (place_without (is_inside frame) (entry_size frame) 24 entries)
    else Err (Span at)

-- whether the bytes end with a field terminator
abbrev pub has_end : List ℕ → Bool
has_end bytes = nat_lt 0 (length bytes) && (slice_index bytes (length bytes - 1) == FIELD_TERMINATOR)

-- whether the field is ended, where its tag is listed
abbrev pub is_ended : List (List ℕ) → Frame → List ℕ → Entry → Bool
is_ended tags frame bytes entry = not (is_listed tags entry.tag) || has_end (field_bytes frame bytes entry)

-- the fields with listed tags are ended
unfoldable pub ends_at : List (List ℕ) → ℕ → Frame → List ℕ → List Entry → Result (Unit {0}) FileFault
ends_at tags at frame bytes entries =
    unless_at (λ place. Terminator (at + place))
    (place_without (is_ended tags frame bytes) (entry_size frame) 24 entries)

-- a record that is read: its frame and its directory
pub record Framed : Type 0 where
  pub frame : Frame
  pub entries : List Entry

-- the record at the front of the bytes, up to what its fields hold
unfoldable pub record_at : List (List ℕ) → Bool → ℕ → List ℕ → Result Framed FileFault
record_at tags first at bytes = do
  frame ← leader_at first at bytes
  entries ← directory_at at frame bytes
  _ ← spans_at at frame bytes entries
  _ ← ends_at tags at frame bytes entries
  Ok (record { frame = frame; entries = entries })

-- ---- what the fields hold

-- the layouts that the fields of these entries spell, under their tags
unfoldable pub descriptors_in : Frame → List ℕ → List Entry → Result (List (List ℕ × Layout)) FileFault
descriptors_in frame bytes [] = Ok []
descriptors_in frame bytes (entry ∷ entries) = do
  layout ← or_fault (Descriptor entry.tag) (descriptor_of (field_bytes frame bytes entry))
  pairs ← descriptors_in frame bytes entries
  Ok ((entry.tag, layout) ∷ pairs)

-- the data descriptive record: its descriptors, and the bytes after it
unfoldable pub descriptive_record_at : List (List ℕ) → List ℕ → Result (List (List ℕ × Layout) × List ℕ) FileFault
descriptive_record_at tags bytes = do
  framed ← record_at tags true 0 bytes
  descriptors ← descriptors_in framed.frame bytes (describing_entries tags [] framed.entries)
  Ok (descriptors, drop framed.frame.length bytes)

-- whether the field has a descriptor, where its tag is listed
abbrev pub is_described : List (List ℕ) → List (List ℕ × Layout) → Entry → Bool
is_described tags descriptors entry = not (is_listed tags entry.tag) || is_some (layout_at descriptors entry.tag)

-- the listed tags without a descriptor
abbrev pub tags_without_descriptor : List (List ℕ) → List (List ℕ × Layout) → List (List ℕ)
tags_without_descriptor tags descriptors = filter (λ tag. not (is_some (layout_at descriptors tag))) tags

abbrev pub unless_undescribed : Option Entry → Result (Unit {0}) FileFault
unless_undescribed None = Ok tt
unless_undescribed (Some entry) = Err (Descriptor entry.tag)

-- the values that a field's bytes spell by a layout
unfoldable pub values_by : Option Layout → List ℕ → Option (List Value)
values_by None bytes = None
values_by (Some layout) bytes = values_of (formats_in layout) (take (length bytes - 1) bytes)

-- the field of a tag
unfoldable pub field_by : List (List ℕ) → List (List ℕ × Layout) → ℕ → List ℕ → List ℕ → Result RawField FileFault
field_by tags descriptors number tag bytes =
    if is_listed tags tag then (do
      values ← or_fault (Subfield number tag) (values_by (layout_at descriptors tag) bytes)
      Ok (record { tag = tag; values = values }))
    else Ok (record { tag = tag; values = [] })

-- the fields that entries name
unfoldable pub fields_of : List (List ℕ) → List (List ℕ × Layout) → ℕ → Frame → List ℕ → List Entry
    → Result (List RawField) FileFault
fields_of tags descriptors number frame bytes [] = Ok []
fields_of tags descriptors number frame bytes (entry ∷ entries) = do
  field ← field_by tags descriptors number entry.tag (field_bytes frame bytes entry)
  fields ← fields_of tags descriptors number frame bytes entries
  Ok (field ∷ fields)

-- the data record of this number at this place of the file: its fields, and how many bytes it has
unfoldable pub data_record_at : List (List ℕ) → List (List ℕ × Layout) → ℕ → ℕ → List ℕ
    → Result (List RawField × ℕ) FileFault
data_record_at tags descriptors number at bytes = do
  framed ← record_at tags false at bytes
  _ ← unless_undescribed (first_without (is_described tags descriptors) framed.entries)
  fields ← fields_of tags descriptors number framed.frame bytes framed.entries
  Ok (fields, framed.frame.length)

-- data records up to the end of the bytes, at most so many, from this number and place on
unfoldable pub data_records_at : ℕ → List (List ℕ) → List (List ℕ × Layout) → ℕ → ℕ → List ℕ
    → Result (List (List RawField)) FileFault
data_records_at bound tags descriptors number at [] = Ok []
data_records_at zero tags descriptors number at (byte ∷ bytes) = Err (Leader at)
data_records_at (suc bound) tags descriptors number at (byte ∷ bytes) = do
  first ← data_record_at tags descriptors number at (byte ∷ bytes)
  others ← data_records_at bound tags descriptors (number + 1) (at + first.1) (drop first.1 (byte ∷ bytes))
  Ok (first.0 ∷ others)

abbrev pub or_zero : {A : Type 0} → (A → ℕ) → Result A FileFault → ℕ
or_zero count (Ok x) = count x
or_zero count (Err fault) = 0

-- how many data records are come to: one wherever bytes are left after the record before it
unfoldable pub come_to : ℕ → List (List ℕ) → List (List ℕ × Layout) → ℕ → ℕ → List ℕ → ℕ
come_to bound tags descriptors number at [] = 0
come_to zero tags descriptors number at (byte ∷ bytes) = 0
come_to (suc bound) tags descriptors number at (byte ∷ bytes) =
    1 + or_zero (λ first. come_to bound tags descriptors (number + 1) (at + first.1) (drop first.1 (byte ∷ bytes)))
    (data_record_at tags descriptors number at (byte ∷ bytes))

-- The first fault of bytes that are no file of records.
use Rattle.std.specs.Prelude.{◌≡◌, ◌≢◌, ◌⊎◌, ℕ, ◌+◌, ◌-◌, ◌*◌, ◌<◌, ◌≤◌, Bool, true, false, List, [], ◌∷◌, ◌++◌}
use Rattle.std.specs.Prelude.{length, take, slice_get, Some, IsTrue, IsSome}
use Rattle.std.specs.List.{slice_range, AllByRecursion}
use Rattle.iso8211_leader.specs.Leader.{HasLeader, Frame, frame_of}
use Rattle.iso8211_leader.specs.Entry.{HasEntry, entry_size}
use Rattle.iso8211_leader.specs.declared.entry.Entry.{Entry}
use Rattle.iso8211_formats.specs.Layout.{Layout}
use Rattle.iso8211_formats.specs.Grammar.{Spells}
use Rattle.iso8211_records.specs.declared.record.RawField.{RawField}
use Rattle.iso8211_records.specs.declared.value.Value.{Value}
use Rattle.iso8211_records.specs.declared.fault.FileFault.{FileFault}
use Rattle.iso8211_records.specs.declared.fault.FileFault.TheVariants.{Leader, Directory, Span, Terminator}
use Rattle.iso8211_records.specs.declared.fault.FileFault.TheVariants.{Descriptor, Subfield}
use Rattle.chart_model.specs.Codes.{FIELD_TERMINATOR}
use Rattle.iso8211_records.specs.Tags.{is_listed}
use Rattle.iso8211_records.specs.Spelling.{formats_in, IsField}
use Rattle.iso8211_records.specs.Kinds.{layout_at}
use Rattle.iso8211_records.specs.Record.{IsDirectory, IsInside, IsEnded, IsRecord, IsDescriptiveRecord}
use Rattle.iso8211_records.specs.Record.{AreDataRecords, field_bytes, describing_entries}

-- x is the first element of the list that isn't P, and so many stand before it
pub record IsFirstWithout {A : Type 0} (P : A → Type 0) (xs : List A) (count : ℕ) (x : A) : Type 0 where
  pub before : List A
  pub after : List A
  pub parts : xs ≡ before ++ x ∷ after
  pub counted : count ≡ length before
  pub each : AllByRecursion P before
  pub fails : ¬ P x

-- the place in the record of an entry with so many before it
abbrev pub entry_place : Frame → ℕ → ℕ
entry_place frame count = 24 + entry_size frame * count

-- the bytes begin with a leader, and with the directory that it frames
pub record HasDirectory (first : Bool) (bytes : List ℕ) (frame : Frame) (entries : List Entry) : Type 0 where
  pub leader : HasLeader first (take 24 bytes)
  pub says : frame ≡ frame_of (take 24 bytes)
  pub directory : IsDirectory frame entries (slice_range bytes 24 (frame.base - 1))
  pub closing : slice_get bytes (frame.base - 1) ≡ Some FIELD_TERMINATOR

-- entries stand up to this place of the record, and there no further one does, or not the closing byte
pub record BreaksDirectory (first : Bool) (bytes : List ℕ) (place : ℕ) : Type 0 where
  pub frame : Frame
  pub entries : List Entry
  pub leader : HasLeader first (take 24 bytes)
  pub says : frame ≡ frame_of (take 24 bytes)
  pub directory : IsDirectory frame entries (slice_range bytes 24 place)
  pub place_is : place ≡ entry_place frame (length entries)
  pub breaks : ((place < frame.base - 1) × ¬ HasEntry frame bytes 0 place)
      ⊎ ((place ≡ frame.base - 1) × (slice_get bytes place ≢ Some FIELD_TERMINATOR))

-- the record passes the end of the bytes, which gives its own place, or else a field the end of the record
pub record BreaksSpan (first : Bool) (bytes : List ℕ) (place : ℕ) : Type 0 where
  pub frame : Frame
  pub entries : List Entry
  pub has_directory : HasDirectory first bytes frame entries
  pub breaks : ((length bytes < frame.length) × (place ≡ 0))
      ⊎ ((frame.length ≤ length bytes) × (count : ℕ) × (entry : Entry)
      × IsFirstWithout (IsInside frame) entries count entry × (place ≡ entry_place frame count))

-- a field with a listed tag isn't ended
pub record BreaksEnd (tags : List (List ℕ)) (first : Bool) (bytes : List ℕ) (place : ℕ) : Type 0 where
  pub frame : Frame
  pub entries : List Entry
  pub has_directory : HasDirectory first bytes frame entries
  pub whole : frame.length ≤ length bytes
  pub inside : AllByRecursion (IsInside frame) entries
  pub count : ℕ
  pub entry : Entry
  pub breaks : IsFirstWithout (IsEnded tags frame bytes) entries count entry
  pub place_is : place ≡ entry_place frame count

-- the first fault of a record's frame, where the bytes stand at this place of the file
abbrev pub HasFrameFault : List (List ℕ) → Bool → ℕ → List ℕ → FileFault → Type 0
HasFrameFault tags first at bytes (Leader offset) = (offset ≡ at) × ¬ HasLeader first (take 24 bytes)
HasFrameFault tags first at bytes (Directory offset) =
    (place : ℕ) × (offset ≡ at + place) × BreaksDirectory first bytes place
HasFrameFault tags first at bytes (Span offset) = (place : ℕ) × (offset ≡ at + place) × BreaksSpan first bytes place
HasFrameFault tags first at bytes (Terminator offset) =
    (place : ℕ) × (offset ≡ at + place) × BreaksEnd tags first bytes place
HasFrameFault tags first at bytes fault = ⊥

-- a whole frame begins the bytes
pub record BeginsRecord (tags : List (List ℕ)) (first : Bool) (bytes piece : List ℕ) (frame : Frame)
    (entries : List Entry) : Type 0 where
  pub rest : List ℕ
  pub parts : bytes ≡ piece ++ rest
  pub is_record : IsRecord tags first piece frame entries

-- the field that the entry names spells a layout
abbrev pub Describes : Frame → List ℕ → Entry → Type 0
Describes frame bytes entry = (layout : Layout) × Spells layout (field_bytes frame bytes entry)

-- the fault of the data descriptive record, which begins the file
abbrev pub HasDescriptiveFault : List (List ℕ) → List ℕ → FileFault → Type 0
HasDescriptiveFault tags bytes (Descriptor tag) =
    (piece : List ℕ) × (frame : Frame) × (entries : List Entry) × (count : ℕ) × (entry : Entry)
    × BeginsRecord tags true bytes piece frame entries
    × IsFirstWithout (Describes frame piece) (describing_entries tags [] entries) count entry × (tag ≡ entry.tag)
HasDescriptiveFault tags bytes fault = HasFrameFault tags true 0 bytes fault

-- the field has a descriptor, where its tag is listed
abbrev pub IsDescribed : List (List ℕ) → List (List ℕ × Layout) → Entry → Type 0
IsDescribed tags descriptors entry = IsTrue (is_listed tags entry.tag) → IsSome (layout_at descriptors entry.tag)

-- the field has a reading by its descriptor, where its tag is listed
abbrev pub IsReadable : List (List ℕ) → List (List ℕ × Layout) → Frame → List ℕ → Entry → Type 0
IsReadable tags descriptors frame bytes entry =
    IsTrue (is_listed tags entry.tag) → (layout : Layout) × (layout_at descriptors entry.tag ≡ Some layout)
    × (values : List Value) × IsField (formats_in layout) values (field_bytes frame bytes entry)

-- the fault of the data record of this number, where the bytes stand at this place of the file
abbrev pub HasDataFault : List (List ℕ) → List (List ℕ × Layout) → ℕ → ℕ → List ℕ → FileFault → Type 0
HasDataFault tags descriptors number at bytes (Descriptor tag) =
    (piece : List ℕ) × (frame : Frame) × (entries : List Entry) × (count : ℕ) × (entry : Entry)
    × BeginsRecord tags false bytes piece frame entries
    × IsFirstWithout (IsDescribed tags descriptors) entries count entry × (tag ≡ entry.tag)
HasDataFault tags descriptors number at bytes (Subfield record_number tag) =
    (piece : List ℕ) × (frame : Frame) × (entries : List Entry) × (count : ℕ) × (entry : Entry)
    × BeginsRecord tags false bytes piece frame entries × AllByRecursion (IsDescribed tags descriptors) entries
    × IsFirstWithout (IsReadable tags descriptors frame piece) entries count entry × (record_number ≡ number)
    × (tag ≡ entry.tag)
HasDataFault tags descriptors number at bytes fault = HasFrameFault tags false at bytes fault

-- a whole data descriptive record and whole data records stand before the first fault, which is that of the data
-- record of this number
pub record HasLaterFault (tags : List (List ℕ)) (bytes : List ℕ) (number : ℕ) (fault : FileFault) : Type 0 where
  pub first : List ℕ
  pub before : List ℕ
  pub rest : List ℕ
  pub descriptors : List (List ℕ × Layout)
  pub records : List (List RawField)
  pub pieces : bytes ≡ first ++ (before ++ rest)
  pub descriptive : IsDescriptiveRecord tags first descriptors
  pub data_records : AreDataRecords tags descriptors before records
  pub left : rest ≢ []
  pub number_is : number ≡ length records + 1
  pub breaks : HasDataFault tags descriptors number (length first + length before) rest fault

-- this is the first fault, and so many data records were come to, the faulty one among them
abbrev pub HasFault : List (List ℕ) → List ℕ → ℕ → FileFault → Type 0
HasFault tags bytes number fault =
    ((number ≡ 0) × HasDescriptiveFault tags bytes fault) ⊎ HasLaterFault tags bytes number fault

-- An entry of a record's directory (ISO/IEC 8211, directory): a tag of four bytes, and in digits the
-- field's length and its position.
use Rattle.std.specs.Prelude.{◌≡◌, ℕ, ◌+◌, ◌-◌, ◌≤◌, List, length, take, drop}
use Rattle.std.specs.List.{slice_range}
use Rattle.std.specs.Str.Parse.{digits_value}
use Rattle.iso8211_leader.specs.Digits.{AreDigits}
use Rattle.iso8211_leader.specs.Leader.{Frame}
use Rattle.iso8211_leader.specs.declared.entry.Entry.{Entry}

-- the bytes of an entry
abbrev pub entry_size : Frame → ℕ
entry_size frame = 4 + frame.size_length + frame.size_position

-- the digits of a field's length in its entry
abbrev pub field_length : Frame → List ℕ → List ℕ
field_length frame text = slice_range text 4 (4 + frame.size_length)

-- the digits of a field's position in its entry
abbrev pub field_position : Frame → List ℕ → List ℕ
field_position frame text = slice_range text (4 + frame.size_length) (entry_size frame)

-- the text is an entry of the record of this frame
pub record IsEntry (frame : Frame) (text : List ℕ) : Type 0 where
  pub whole : length text ≡ entry_size frame
  pub length_in_digits : AreDigits (field_length frame text)
  pub position_in_digits : AreDigits (field_position frame text)

-- what there is of an entry's bytes from a place on
abbrev pub entry_text : Frame → List ℕ → ℕ → List ℕ
entry_text frame bytes place = take (entry_size frame) (drop place bytes)

-- an entry of the record at `at` stands at the place, all of it before the directory's closing byte
pub record HasEntry (frame : Frame) (bytes : List ℕ) (at place : ℕ) : Type 0 where
  pub before_closing : place + entry_size frame ≤ at + frame.base - 1
  pub entry : IsEntry frame (entry_text frame bytes place)

-- what an entry says
unfoldable pub entry_of : Frame → List ℕ → Entry
entry_of frame text = record {
  tag = take 4 text;
  length = digits_value 10 (field_length frame text);
  position = digits_value 10 (field_position frame text);
}

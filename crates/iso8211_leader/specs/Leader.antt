-- The leader of a record (ISO/IEC 8211, leader): 24 bytes, each field of it at its place.
use Rattle.std.specs.Prelude.{◌≡◌, ℕ, ◌-◌, ◌≤◌, Bool, true, List, length, slice_index, take, drop, codes, if◌then◌else◌}
use Rattle.std.specs.List.{slice_range}
use Rattle.std.specs.Str.Parse.{digits_value}
use Rattle.std.specs.Int.{IsInRange}
use Rattle.iso8211_leader.specs.Digits.{AreDigits}
use Rattle.iso8211_leader.specs.declared.leader.Leader.{Leader}

-- what there is of the 24 bytes from a place on
abbrev pub leader_text : List ℕ → ℕ → List ℕ
leader_text bytes at = take 24 (drop at bytes)

-- the digits of the record's length
abbrev pub length_digits : List ℕ → List ℕ
length_digits text = slice_range text 0 5

-- the digits of the base address of the field area
abbrev pub base_digits : List ℕ → List ℕ
base_digits text = slice_range text 12 17

-- 'L' of a data descriptive record, 'D' of a data record
abbrev pub identifier : Bool → ℕ
identifier first = if first then 76 else 68

-- the text is the leader of a data descriptive record, or else of a data record
pub record HasLeader (first : Bool) (text : List ℕ) : Type 0 where
  pub whole : length text ≡ 24
  pub length_in_digits : AreDigits (length_digits text)
  pub kind : slice_index text 6 ≡ identifier first
  pub control_length : first ≡ true → slice_range text 10 12 ≡ codes "09"
  pub base_in_digits : AreDigits (base_digits text)
  pub directory : 25 ≤ digits_value 10 (base_digits text)
  pub field_area : digits_value 10 (base_digits text) ≤ digits_value 10 (length_digits text)
  pub size_of_length : IsInRange 49 57 (slice_index text 20)
  pub size_of_position : IsInRange 49 57 (slice_index text 21)
  pub size_of_tag : slice_index text 23 ≡ 52

-- what a leader says of its record: the bytes of the record, the base address of its field area, and
-- how many digits the numbers of its directory entries have
pub record Frame : Type 0 where
  pub length : ℕ
  pub base : ℕ
  pub size_length : ℕ
  pub size_position : ℕ

-- what the leader's bytes say
unfoldable pub frame_of : List ℕ → Frame
frame_of text = record {
  length = digits_value 10 (length_digits text);
  base = digits_value 10 (base_digits text);
  size_length = slice_index text 20 - 48;
  size_position = slice_index text 21 - 48;
}

-- a leader that was read, as what it says
abbrev pub frame : Leader → Frame
frame leader = record {
  length = leader.length;
  base = leader.base;
  size_length = leader.size_length;
  size_position = leader.size_position;
}

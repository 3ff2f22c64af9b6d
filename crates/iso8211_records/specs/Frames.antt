-- Leaders and entries as tests that compute.
use Rattle.std.specs.Prelude.{◌==◌, ℕ, Bool, not, ◌&&◌, ◌||◌, nat_le, List, length, slice_index}
use Rattle.std.specs.List.{list_all}
use Rattle.std.specs.Char.{is_ascii_digit}
use Rattle.std.specs.Int.{is_in_range}
use Rattle.std.specs.Str.Parse.{digits_value}
use Rattle.iso8211_leader.specs.Leader.{Frame, identifier, length_digits, base_digits}
use Rattle.iso8211_leader.specs.Entry.{entry_size, field_length, field_position}

-- whether the text is the leader of a data descriptive record, or else of a data record
unfoldable pub is_leader : Bool → List ℕ → Bool
is_leader first text =
    (length text == 24)
    && list_all is_ascii_digit (length_digits text)
    && (slice_index text 6 == identifier first)
    && (not first || ((slice_index text 10 == 48) && (slice_index text 11 == 57)))
    && list_all is_ascii_digit (base_digits text)
    && nat_le 25 (digits_value 10 (base_digits text))
    && nat_le (digits_value 10 (base_digits text)) (digits_value 10 (length_digits text))
    && is_in_range 49 57 (slice_index text 20)
    && is_in_range 49 57 (slice_index text 21)
    && (slice_index text 23 == 52)

-- whether the text is an entry of the record of this frame
unfoldable pub is_entry : Frame → List ℕ → Bool
is_entry frame text =
    (length text == entry_size frame)
    && list_all is_ascii_digit (field_length frame text)
    && list_all is_ascii_digit (field_position frame text)

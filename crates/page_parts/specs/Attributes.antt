-- Attributes in the order of their codes (S-57 Part 3, ATTV and ATTF).
use Rattle.std.specs.Prelude.{ℕ, ◌<◌, ◌^◌, ◌==◌, nat_eq, Bool, not, ◌&&◌, List, [], ◌∷◌, ◌++◌, length}
use Rattle.std.specs.Int.{w16}
use Rattle.std.specs.List.{list_all}
use Rattle.std.specs.Ordering.{nat_cmp}
use Rattle.std.specs.Cmp.Lexicographic.{pointwise}
use Rattle.chart_model.specs.Attrs.{Attrs}
use Rattle.chart_model.specs.Codes.{DELETED, FIELD_TERMINATOR, UNIT_TERMINATOR}
use Rattle.page_parts.specs.Reader.{Reader, that, then_at}
use Rattle.page_parts.specs.Numbers.{number, number_at}
use Rattle.page_parts.specs.Texts.{text, text_at}
use Rattle.page_parts.specs.Lists.{rising_entries, rising_entries_at}

-- ATTL, and ATVL as a text
unfoldable pub attribute : ℕ × List ℕ → List ℕ
attribute entry = number w16 entry.0 ++ text entry.1

pub record IsEntryInRange (entry : ℕ × List ℕ) : Type 0 where
  pub code : entry.0 < 2 ^ 16
  pub text : length entry.1 < 2 ^ 64

unfoldable pub attributes : Attrs → List ℕ
attributes attrs = rising_entries attribute attrs

-- ---- read

-- whether no byte of a text ends a field or a unit
abbrev pub is_plain_text : List ℕ → Bool
is_plain_text value = list_all (λ byte. not (byte == FIELD_TERMINATOR) && not (byte == UNIT_TERMINATOR)) value

-- whether a record may keep a text: it is plain, and it removes no attribute
abbrev pub is_kept_text : List ℕ → Bool
is_kept_text value = is_plain_text value && not (pointwise nat_eq value (DELETED ∷ []))

unfoldable pub attribute_at : Reader (ℕ × List ℕ)
attribute_at bytes = that (λ entry. is_kept_text entry.1) (then_at (number_at w16) text_at) bytes

unfoldable pub attributes_at : Reader Attrs
attributes_at bytes = rising_entries_at nat_cmp attribute_at bytes

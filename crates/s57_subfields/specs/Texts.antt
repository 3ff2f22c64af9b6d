-- Texts.
use Rattle.std.specs.Prelude.{ℕ, Bool, ◌&&◌, ◌==◌, not, nat_le, if◌then◌else◌, List, [], ◌∷◌, length}
use Rattle.std.specs.Prelude.{Option, Some, None, option_map, unwrap_or}
use Rattle.std.specs.List.{list_all}
use Rattle.std.specs.Option.{option_or}
use Rattle.chart_model.specs.Codes.{UNIT_TERMINATOR, FIELD_TERMINATOR}
use Rattle.chart_model.specs.Key.{is_key}
use Rattle.iso8211_records.specs.declared.value.Value.{Value}
use Rattle.iso8211_records.specs.declared.value.Value.TheVariants.{Number, Text, Bits}
use Rattle.s57_subfields.specs.Number.{digits_up_to}

-- the text of a value that is a text and passes the test
abbrev pub text_if : (List ℕ → Bool) → Value → Option (List ℕ)
text_if test (Text text) = if test text then Some text else None
text_if test (Number number) = None
text_if test (Bits bits) = None

-- the number of a text of 1 to 9 digits (EDTN, UPDN)
unfoldable pub nine_digits : Value → Option ℕ
nine_digits (Text text) = if nat_le (length text) 9 then digits_up_to 999999999 text else None
nine_digits (Number number) = None
nine_digits (Bits bits) = None

-- a text of eight bytes (ISDT)
unfoldable pub eight_bytes : Value → Option (List ℕ)
eight_bytes value = text_if (λ text. length text == 8) value

-- without a field or unit terminator
abbrev pub is_plain : List ℕ → Bool
is_plain text = list_all (λ byte. not (byte == FIELD_TERMINATOR) && not (byte == UNIT_TERMINATOR)) text

-- such a text (ATVL)
unfoldable pub plain_text : Value → Option (List ℕ)
plain_text value = text_if is_plain value

-- what stands before the last dot, where there is a dot
unfoldable pub before_last_dot : List ℕ → Option (List ℕ)
before_last_dot [] = None
before_last_dot (x ∷ xs) =
    option_or (option_map (λ front. x ∷ front) (before_last_dot xs)) (if x == 46 then Some [] else None)

-- the key in the name of a data set's file: the part before the last dot, or all of it without a dot
abbrev pub key_in : List ℕ → List ℕ
key_in name = unwrap_or (before_last_dot name) name

-- a name with a key (DSNM)
unfoldable pub data_set_name : Value → Option (List ℕ)
data_set_name value = text_if (λ text. is_key (key_in text)) value

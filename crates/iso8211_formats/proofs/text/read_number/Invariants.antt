use Rattle.std.proofs.Common.{◌≡◌, ◌≤◌, take, true}
use Rattle.std.specs.Str.{all_ascii_digits}
use Rattle.std.specs.Str.Parse.{digits_value}
use Rattle.iso8211_formats.proofs.text.read_number.Given as goal

abbrev pub invariant-loop-digit : goal.invariant-loop-digit
invariant-loop-digit l =
    (l.value ≡ digits_value 10 (take l.digit-index l.digits)) × (l.value ≤ 99999)
    × (all_ascii_digits (take l.digit-index l.digits) ≡ true)

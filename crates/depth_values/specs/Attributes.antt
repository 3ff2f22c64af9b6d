-- The attributes of features.
use Rattle.std.specs.Prelude.{ℕ, ℤ, Bool, false, nat_eq, List, Option, Some, None, option_and_then}
use Rattle.std.specs.Cmp.Lexicographic.{pointwise}
use Rattle.std.specs.FinMap as finite
use Rattle.chart_model.specs.declared.cell.Feature.{Feature}
use Rattle.text_scan.specs.Depth.{depth_of}

-- the depth in centimetres that the attribute's text is, where it is there and is one
abbrev pub depth_at : Feature → ℕ → Option ℤ
depth_at feature code = option_and_then depth_of (finite.get feature.attrs code)

-- the text is there and is the value
abbrev pub is_value : List ℕ → Option (List ℕ) → Bool
is_value value None = false
is_value value (Some text) = pointwise nat_eq text value

-- the attribute's text is that value alone
abbrev pub has_value : Feature → ℕ → List ℕ → Bool
has_value feature code value = is_value value (finite.get feature.attrs code)

-- Which fields of data records are read.
use Rattle.std.specs.Prelude.{ℕ, List}
use Rattle.iso8211_formats.specs.Layout.{Layout}

-- the tags that are asked for, and the descriptors of a file by their tags
pub record WantedValue : Type 0 where
  pub tags : List (List ℕ)
  pub descriptors : List (List ℕ × Layout)

-- What a word that names a file is.
use Rattle.std.specs.Prelude.{ℕ, ◌≤◌, nat_le, Bool, ◌&&◌, List, length, All}
use Rattle.std.specs.List.{list_all}
use Rattle.chart_model.specs.Key.{IsVisible, is_visible}

-- 1 to 255 visible bytes
pub record IsWord (bytes : List ℕ) : Type 0 where
  pub nonempty : 1 ≤ length bytes
  pub short : length bytes ≤ 255
  pub visible : All IsVisible bytes

-- the same as a test
abbrev pub is_word : List ℕ → Bool
is_word bytes = nat_le 1 (length bytes) && (nat_le (length bytes) 255 && list_all is_visible bytes)

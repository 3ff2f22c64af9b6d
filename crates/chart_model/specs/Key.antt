-- What a cell's key is, and how it stands in 32 bytes.
use Rattle.std.specs.Prelude.{◌≡◌, ℕ, ◌-◌, ◌≤◌, nat_le, Bool, ◌&&◌, List, ◌++◌, length, take, drop, replicate, All}
use Rattle.std.specs.List.{list_all}
use Rattle.std.proofs.Common.{sym, ◌∙◌, ap, arith, take-append-drop, length-take-le}

-- a visible ASCII character: no space, no control
abbrev pub IsVisible : ℕ → Type 0
IsVisible byte = (33 ≤ byte) × (byte ≤ 126)

-- 1 to 32 visible bytes
pub record IsKey (bytes : List ℕ) : Type 0 where
  pub nonempty : 1 ≤ length bytes
  pub short : length bytes ≤ 32
  pub visible : All IsVisible bytes

-- the same as tests
abbrev pub is_visible : ℕ → Bool
is_visible byte = nat_le 33 byte && nat_le byte 126

abbrev pub is_key : List ℕ → Bool
is_key bytes = nat_le 1 (length bytes) && (nat_le (length bytes) 32 && list_all is_visible bytes)

-- the key's bytes in front, and zeros behind them
pub record IsStored (cells : List ℕ) (length_of_key : ℕ) : Type 0 where
  pub long : length cells ≡ 32
  pub key : IsKey (take length_of_key cells)
  pub fits : length_of_key ≤ 32
  pub rest : drop length_of_key cells ≡ replicate (32 - length_of_key) 0

-- the 32 bytes in which a key is stored
abbrev pub key_cells : List ℕ → List ℕ
key_cells bytes = bytes ++ replicate (32 - length bytes) 0

pub length-take-key : (cells : List ℕ) (n : ℕ) → IsStored cells n → length (take n cells) ≡ n
length-take-key cells n h = length-take-le n cells (omega (arith, h.long, h.fits))

pub key_cells-take : (cells : List ℕ) (n : ℕ) → IsStored cells n → key_cells (take n cells) ≡ cells
key_cells-take cells n h =
    ap (λ (k : ℕ). take n cells ++ replicate (32 - k) 0) (length-take-key cells n h)
    ∙ ap (λ (l : List ℕ). take n cells ++ l) (sym h.rest)
    ∙ take-append-drop n cells

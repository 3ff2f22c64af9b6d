-- The cells in which the digits of a depth are drawn.
use Rattle.std.specs.Prelude.{◌≡◌, ℕ, ℤ, pos, ◌+◌, ◌/◌, ◌%◌, unsigned_abs, int_lt, int_le, nat_lt, nat_le, ◌==◌}
use Rattle.std.specs.Prelude.{not, ◌&&◌, if◌then◌else◌, List, [], ◌∷◌, ◌++◌, map, slice_index, codes}
use Rattle.text_scan.specs.Written.{IsDecimal}
use Rattle.depth_values.specs.declared.digits.Digits.{Digits}

-- `SOUNDS` where the depth is at most the safety depth, and else `SOUNDG`
abbrev pub prefix_of : ℤ → ℤ → List ℕ
prefix_of depth safety_depth = if int_le depth safety_depth then codes "SOUNDS" else codes "SOUNDG"

-- a digit at a place: 3, 2, 1, 0 and 4 from left to right, and 5 for the tenths
abbrev pub cell : ℕ → ℕ → List ℕ
cell place digit = (48 + place) ∷ (48 + digit) ∷ []

-- whole metres and tenths of a metre, by the number of digits; tenths are shown up to 30 metres, where there are any
abbrev pub metre_cells : ℕ → ℕ → List (List ℕ)
metre_cells m f =
    if nat_lt m 10 then cell 1 m ∷ (if f == 0 then [] else cell 5 f ∷ []) else (
    if nat_le m 30 && not (f == 0) then cell 2 (m / 10) ∷ cell 1 (m % 10) ∷ cell 5 f ∷ [] else (
    if nat_lt m 100 then cell 1 (m / 10) ∷ cell 0 (m % 10) ∷ [] else (
    if nat_lt m 1000 then cell 2 (m / 100) ∷ cell 1 (m / 10 % 10) ∷ cell 0 (m % 10) ∷ [] else (
    if nat_lt m 10000
    then cell 2 (m / 1000) ∷ cell 1 (m / 100 % 10) ∷ cell 0 (m / 10 % 10) ∷ cell 4 (m % 10) ∷ []
    else cell 3 (m / 10000) ∷ cell 2 (m / 1000 % 10) ∷ cell 1 (m / 100 % 10) ∷ cell 0 (m / 10 % 10)
    ∷ cell 4 (m % 10) ∷ []))))

-- the sign's cell, where the depth is above the water
abbrev pub sign_cells : ℤ → List (List ℕ)
sign_cells depth = if int_lt depth (pos 0) then codes "A1" ∷ [] else []

-- whole metres of a depth in centimetres, and its tenths of a metre
abbrev pub metres_of : ℤ → ℕ
metres_of depth = unsigned_abs depth / 10 / 10

abbrev pub tenths_of : ℤ → ℕ
tenths_of depth = unsigned_abs depth / 10 % 10

abbrev pub cells_of : ℤ → List (List ℕ)
cells_of depth = sign_cells depth ++ metre_cells (metres_of depth) (tenths_of depth)

abbrev pub digits_of : ℤ → ℤ → Digits
digits_of depth safety_depth = record { prefix = prefix_of depth safety_depth; cells = cells_of depth }

-- ---- what the cells write

-- the digits of the cells, in order, without their places
abbrev pub digits_in : List (List ℕ) → List ℕ
digits_in cells = map (λ cell. slice_index cell 1) cells

-- the places of the cells, in order
abbrev pub places_in : List (List ℕ) → List ℕ
places_in cells = map (λ cell. slice_index cell 0) cells

-- the tenths' cell
pub record ShowsTenths (metres tenths : ℕ) (cells : List (List ℕ)) : Type 0 where
  pub shown : cells ≡ (if nat_le metres 30 && not (tenths == 0) then cell 5 tenths ∷ [] else [])

-- the digits are those of the whole metres and of the tenths, behind the sign
pub record WritesDepth (depth : ℤ) (cells : List (List ℕ)) : Type 0 where
  pub whole : List (List ℕ)
  pub tenths : List (List ℕ)
  pub parts : cells ≡ sign_cells depth ++ (whole ++ tenths)
  pub metres : IsDecimal (digits_in whole) (pos (unsigned_abs depth / 100))
  pub fraction : ShowsTenths (unsigned_abs depth / 100) (unsigned_abs depth % 100 / 10) tenths

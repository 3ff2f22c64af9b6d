-- Coordinates are read as they are spelled.
use Rattle.std.proofs.Common.{◌≡◌, ℕ, zero, suc, ◌*◌, ◌-◌, ◌/◌, ◌%◌, ◌<◌, ◌≤◌, ◌^◌, Bool, true, ℤ, pos, negsuc, ◌*ℤ◌, List, [], ◌∷◌, ◌++◌, length, Option, Some, None, IfSome, All, inl, inr, refl, ap, subst, ◌∙◌, append_assoc, arith}
use Rattle.std.specs.Prelude.{FitsSigned, IsSome, IsNone, unsigned_abs, is_some, is_none, ◌⊎◌}
use Rattle.std.specs.Int.{w32, cast_signed, cast_unsigned}
use Rattle.std.specs.List.{AllByRecursion, list_all}
use Rattle.std.proofs.Math.Facts.{Fits-of_lt, Fits-of_z, sfits_to_z}
use Rattle.std.proofs.lemmas.Bool.{and_from, and_parts, eq-eqb, eqb-true, le-leb, leb-true, or_cases, or_left, or_right}
use Rattle.std.proofs.lemmas.Int.{ints, of_z-to_z, to_z-of_z, unsigned_abs-mul}
use Rattle.std.proofs.lemmas.List.Elements.{All-from_recursion, recursion_from_All}
use Rattle.chart_model.specs.declared.record.Coord.{Coord}
use Rattle.chart_model.specs.Record.{AreCoords, IsCoord, IsDepth}
use Rattle.page_parts.specs.Reader.{Reads}
use Rattle.page_parts.specs.Coordinates.{are_alike, coord, coord_at, coord_of, coords, coords_at, depth, depth_at, is_coord, is_depth, is_optional_depth, signed_number, signed_number_at, with_depth}
use Rattle.page_parts.proofs.NumbersRead.{four_read}
use Rattle.page_parts.proofs.ListsRead.{counted_list_reads}
use Rattle.page_parts.proofs.ReadBehind.{bind_some, both_read, ranged_as, read_as, read_that, some_is, spelled_as}

-- ---- numbers in two's complement

pub signed_number_reads : Reads signed_number_at signed_number (FitsSigned w32)
unfolding signed_number signed_number_at
signed_number_reads =
    read_as (cast_signed w32) (cast_unsigned w32) (FitsSigned w32) four_read
    (λ n fits. (of_z-to_z w32 n fits, sfits_to_z (Fits-of_lt {w = w32} fits)))
    (λ z fits. (to_z-of_z w32 z fits, omega (arith, Fits-of_z {w = w32} fits)))

abbrev IsDepthInRange : Option ℤ → Type 0
IsDepthInRange value = IfSome value (FitsSigned w32)

depth_taken : (bytes : List ℕ) (value : Option ℤ) (rest : List ℕ) → depth_at bytes ≡ Some (value, rest) → (bytes ≡ depth value ++ rest) × IsDepthInRange value
unfolding depth depth_at
depth_taken [] value rest e = absurd (cc)
depth_taken (zero ∷ bytes) value rest e =
    subst (λ (x : Option ℤ × List ℕ). (0 ∷ bytes ≡ depth x.0 ++ x.1) × IsDepthInRange x.0) (some_is (None, bytes) (value, rest) e) (refl, tt)
depth_taken (suc zero ∷ bytes) value rest e =
    let a = bind_some (signed_number_at bytes) (λ (a : ℤ × List ℕ). Some (with_depth a.0, a.1)) (value, rest) e in
    subst (λ (x : Option ℤ × List ℕ). (1 ∷ bytes ≡ depth x.0 ++ x.1) × IsDepthInRange x.0) (some_is (with_depth a.0.0, a.0.1) (value, rest) a.2)
    (ap (λ (l : List ℕ). 1 ∷ l) (signed_number_reads.spelled bytes a.0.0 a.0.1 a.1), signed_number_reads.ranged bytes a.0.0 a.0.1 a.1)
depth_taken (suc (suc more) ∷ bytes) value rest e = absurd (cc)

depth_again : (value : Option ℤ) (rest : List ℕ) → IsDepthInRange value → depth_at (depth value ++ rest) ≡ Some (value, rest)
unfolding depth depth_at
depth_again None rest fits = refl
depth_again (Some value) rest fits = rw (signed_number_reads.again value rest fits) refl

depth_reads : Reads depth_at depth IsDepthInRange
depth_reads = record {
  spelled = λ bytes value rest e. (depth_taken bytes value rest e).0;
  ranged = λ bytes value rest e. (depth_taken bytes value rest e).1;
  again = depth_again;
}

-- ---- tests

depth_found : (z : ℤ) → unsigned_abs z ≤ 9999990 → unsigned_abs z % 10 ≡ 0 → IsDepth z
depth_found (pos n) small even = (pos (n / 10), omega arith, omega (arith, ints))
depth_found (negsuc n) small even = (negsuc (suc n / 10 - 1), omega arith, omega (arith, ints))

depth_small : (z d : ℤ) → unsigned_abs d ≤ 999999 → z ≡ d *ℤ pos 10 → (unsigned_abs z ≤ 9999990) × (unsigned_abs z % 10 ≡ 0)
depth_small z d small is =
    let size : unsigned_abs z ≡ unsigned_abs d * 10 = ap unsigned_abs is ∙ unsigned_abs-mul d (pos 10) in
    (omega arith, omega arith)

depth_holds : (z : ℤ) → is_depth z ≡ true → IsDepth z
depth_holds z e = let tests = and_parts _ _ e in depth_found z (leb-true _ _ tests.0) (eqb-true _ _ tests.1)

depth_passes : (z : ℤ) → IsDepth z → is_depth z ≡ true
depth_passes z is = let small = depth_small z is.0 is.1 is.2 in and_from _ _ (le-leb _ _ small.0) (eq-eqb _ _ small.1)

optional_holds : (z : Option ℤ) → is_optional_depth z ≡ true → IfSome z IsDepth
optional_holds None e = tt
optional_holds (Some z) e = depth_holds z e

optional_passes : (z : Option ℤ) → IfSome z IsDepth → is_optional_depth z ≡ true
optional_passes None is = refl
optional_passes (Some z) is = depth_passes z is

coord_holds : (value : Coord) → is_coord value ≡ true → IsCoord value
coord_holds value e =
    let tests = and_parts _ _ e in
    let places = and_parts _ _ tests.0 in
    record { longitude = leb-true _ _ places.0; latitude = leb-true _ _ places.1; depth = optional_holds value.z tests.1 }

coord_passes : (value : Coord) → IsCoord value → is_coord value ≡ true
coord_passes value is =
    and_from _ _ (and_from _ _ (le-leb _ _ is.longitude) (le-leb _ _ is.latitude)) (optional_passes value.z is.depth)

-- ---- coordinates

fits_within : (most : ℕ) (z : ℤ) → unsigned_abs z ≤ most → most < 2 ^ 31 → FitsSigned w32 z
fits_within most (pos n) le small = search (arith, ints)
fits_within most (negsuc n) le small = search (arith, ints)

optional_fits : (z : Option ℤ) → IfSome z IsDepth → IsDepthInRange z
optional_fits None is = tt
optional_fits (Some z) is = fits_within 9999990 z (depth_small z is.0 is.1 is.2).0 (omega arith)

abbrev coord_fields : Coord → ℤ × (ℤ × Option ℤ)
coord_fields value = (value.x, (value.y, value.z))

record IsCoordInRange (value : Coord) : Type 0 where
  x : FitsSigned w32 value.x
  y : FitsSigned w32 value.y
  z : IsDepthInRange value.z

pub coord_reads : Reads coord_at coord IsCoord
unfolding coord coord_at
coord_reads =
    ranged_as IsCoord
    (read_that is_coord IsCoord
    (spelled_as coord
    (read_as coord_of coord_fields IsCoordInRange (both_read signed_number_reads (both_read signed_number_reads depth_reads))
    (λ x h. (refl, record { x = h.0; y = h.1.0; z = h.1.1 }))
    (λ value h. (refl, (h.x, (h.y, h.z)))))
    (λ value. simp append_assoc))
    coord_holds coord_passes)
    (λ value h. h.1)
    (λ value is. (
      record {
        x = fits_within 1800000000 value.x is.longitude (omega arith);
        y = fits_within 900000000 value.y is.latitude (omega arith);
        z = optional_fits value.z is.depth;
      },
      is,
    ))

-- ---- all of a record

abbrev IsAlike : List Coord → Type 0
IsAlike values = All (λ value. IsSome value.z) values ⊎ All (λ value. IsNone value.z) values

some_holds : (values : List Coord) → list_all (λ value. is_some value.z) values ≡ true → AllByRecursion (λ value. IsSome value.z) values
some_holds [] e = tt
some_holds (value ∷ values) e = let tests = and_parts _ _ e in (tests.0, some_holds values tests.1)

some_passes : (values : List Coord) → AllByRecursion (λ value. IsSome value.z) values → list_all (λ value. is_some value.z) values ≡ true
some_passes [] all = refl
some_passes (value ∷ values) all = and_from _ _ all.0 (some_passes values all.1)

no_depth : (z : Option ℤ) → is_none z ≡ true → IsNone z
no_depth None e = refl
no_depth (Some z) e = absurd (cc)

without_depth : (z : Option ℤ) → IsNone z → is_none z ≡ true
without_depth None is = refl
without_depth (Some z) is = absurd (cc)

abbrev none_has : List Coord → Bool
none_has values = list_all (λ value. is_none value.z) values

none_holds : (values : List Coord) → none_has values ≡ true → AllByRecursion (λ value. IsNone value.z) values
none_holds [] e = tt
none_holds (value ∷ values) e =
    let tests = and_parts (is_none value.z) (none_has values) e in (no_depth value.z tests.0, none_holds values tests.1)

none_passes : (values : List Coord) → AllByRecursion (λ value. IsNone value.z) values → none_has values ≡ true
none_passes [] all = refl
none_passes (value ∷ values) all =
    and_from (is_none value.z) (none_has values) (without_depth value.z all.0) (none_passes values all.1)

alike_holds : (values : List Coord) → are_alike values ≡ true → IsAlike values
alike_holds values e =
    elim (or_cases _ _ e) [
      | inl some ↦ inl (All-from_recursion (λ (value : Coord). IsSome value.z) values (some_holds values some))
      | inr none ↦ inr (All-from_recursion (λ (value : Coord). IsNone value.z) values (none_holds values none))
    ]

alike_passes : (values : List Coord) → IsAlike values → are_alike values ≡ true
alike_passes values is =
    elim is [
      | inl some ↦ or_left _ _ (some_passes values (recursion_from_All (λ (value : Coord). IsSome value.z) values some))
      | inr none ↦ or_right _ _ (none_passes values (recursion_from_All (λ (value : Coord). IsNone value.z) values none))
    ]

-- the coordinates of a record, of which a number of eight bytes says how many there are
abbrev pub AreCoordsInRange : List Coord → Type 0
AreCoordsInRange values = (length values < 2 ^ 64) × AreCoords values

pub coords_reads : Reads coords_at coords AreCoordsInRange
unfolding coords coords_at
coords_reads =
    ranged_as AreCoordsInRange
    (read_that are_alike IsAlike (counted_list_reads coord_at coord IsCoord coord_reads) alike_holds alike_passes)
    (λ values h. (h.0.count, record { each = All-from_recursion IsCoord values h.0.each; alike = h.1 }))
    (λ values h. (record { count = h.0; each = recursion_from_All IsCoord values h.1.each }, h.1.alike))

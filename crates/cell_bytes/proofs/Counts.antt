-- How many entries of a list pass a test, and how many don't.
use Rattle.std.proofs.Common.{◌≡◌, ℕ, ◌+◌, Bool, true, false, cond, not, List, [], ◌∷◌, length, count_by, refl, arith}
use Rattle.std.specs.FinMap as finite
use Rattle.std.specs.Int.{is_in_range}
use Rattle.std.proofs.lemmas.List.Sums.{sum_by-cons}
use Rattle.chart_model.specs.Cell.{CellValue}
use Rattle.cell_bytes.specs.DataSet.{features_in, features_outside}

one_of_both : (b : Bool) → cond b 1 0 + cond (not b) 1 0 ≡ 1
one_of_both true = refl
one_of_both false = refl

parted : {A : Type 0} (f : A → Bool) (xs : List A) → count_by f xs + count_by (λ x. not (f x)) xs ≡ length xs
parted f [] = refl
parted f (x ∷ xs) =
    omega (
      arith,
      sum_by-cons (λ x. cond (f x) 1 0) x xs,
      sum_by-cons (λ x. cond (not (f x)) 1 0) x xs,
      one_of_both (f x),
      parted f xs,
    )

-- each feature has a class from the first to the last, or another
pub features_parted : (cell : CellValue) (first last : ℕ) → features_in cell first last + features_outside cell first last ≡ finite.len cell.features
unfolding features_in features_outside
features_parted cell first last =
    omega (
      arith,
      parted (λ entry. is_in_range first last entry.1.class) (finite.entries cell.features),
      finite.len-entries cell.features,
    )

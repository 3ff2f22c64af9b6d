-- Attributes compared in their order, as entries of a map are.
use Rattle.std.proofs.Common.{◌≡◌, ◌&&◌, List, [], ◌∷◌, refl, ap}
use Rattle.std.specs.Cmp.Lexicographic.{pointwise}
use Rattle.chart_model.specs.Attrs.{texts_by_code}
use Rattle.chart_model.specs.declared.record.Attr.{Attr}
use Rattle.chart_difference.specs.Same.{same_attr, same_text}

pub same-texts : (xs ys : List Attr) → pointwise same_attr xs ys ≡ pointwise same_text (texts_by_code xs) (texts_by_code ys)
same-texts [] [] = refl
same-texts [] (y ∷ ys) = refl
same-texts (x ∷ xs) [] = refl
same-texts (x ∷ xs) (y ∷ ys) = ap (λ b. same_attr x y && b) (same-texts xs ys)

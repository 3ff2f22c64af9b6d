-- Blocks that are put among others in order are a drawing.
use Rattle.std.proofs.Common.{◌≡◌, ℕ, ◌+◌, Bool, true, false, cond, List, [], ◌∷◌, ◌++◌, get_or, zero, suc, refl, sym, ap, ◌∙◌, subst, arith}
use Rattle.std.specs.List.{fold}
use Rattle.std.specs.List.Sorted.{IsPermutation, IsSorted}
use Rattle.std.specs.declared.cmp.Ordering.{Ordering}
use Rattle.std.specs.declared.cmp.Ordering.TheVariants.{Less, Equal, Greater}
use Rattle.std.specs.Ordering.{is_lt, is_gt, ordering_reverse}
use Rattle.std.proofs.lemmas.Bool.{true≢false}
use Rattle.std.proofs.lemmas.List.{append-nil}
use Rattle.std.proofs.lemmas.List.Sorted.{IsPermutation-refl, IsPermutation-trans, IsPermutation-cons, IsPermutation-middle, IsPermutation-append_left}
use Rattle.chart_model.specs.Cell.{CellValue, IsCell}
use Rattle.chart_model.specs.declared.settings.Settings.{Settings}
use Rattle.lookup_table.specs.declared.line.TableLine.{TableLine}
use Rattle.draw_list.specs.declared.drawing.Drawn.{Drawn}
use Rattle.draw_list.specs.Drawing.{drawn_cmp, put_among, blocks_in, drawing_of, IsDrawing}
use Rattle.draw_list.proofs.Unique.{drawn_total, sorted_tail, one_drawing}

-- ---- one more at the head of a sorted list

module _ {X : Type 0} (cmp : X → X → Ordering) where
  -- the head of the list, where there is one, isn't below x
  abbrev pub LeadsTo : X → List X → Type 0
  LeadsTo x [] = Unit {0}
  LeadsTo x (y ∷ ys) = is_lt (cmp y x) ≡ false

  pub sorted_cons : (x : X) (xs : List X) → LeadsTo x xs → IsSorted cmp xs → IsSorted cmp (x ∷ xs)
  sorted_cons x [] leads sorted k d low high = absurd (omega (arith, high))
  sorted_cons x (y ∷ ys) leads sorted zero d low high = leads
  sorted_cons x (y ∷ ys) leads sorted (suc k) d low high =
      let next : suc (k + 1) ≡ suc k + 1 = omega arith in
      subst (λ (n : ℕ). is_lt (cmp (get_or (x ∷ y ∷ ys) n d) (get_or (y ∷ ys) k d)) ≡ false) next (sorted k d (omega arith) (omega (arith, high)))

  pub sorted_leads : (x : X) (xs : List X) → IsSorted cmp (x ∷ xs) → LeadsTo x xs
  sorted_leads x [] sorted = tt
  sorted_leads x (y ∷ ys) sorted = sorted 0 x (omega arith) (omega arith)

-- ---- one block put among others

above : (o : Ordering) → is_gt o ≡ true → is_lt o ≡ false
above Less h = absurd (true≢false (sym h))
above Equal h = refl
above Greater h = refl

not_above : (o : Ordering) → is_gt o ≡ false → is_lt (ordering_reverse o) ≡ false
not_above Less h = refl
not_above Equal h = refl
not_above Greater h = absurd (true≢false h)

put-leads : (y x : Drawn) (xs : List Drawn) → is_lt (drawn_cmp x y) ≡ false → LeadsTo drawn_cmp y xs → LeadsTo drawn_cmp y (put_among x xs)
put-leads y x [] h leads = h
put-leads y x (z ∷ zs) h leads = by (is_gt (drawn_cmp x z))
  where
    by : (b : Bool) → LeadsTo drawn_cmp y (cond b (z ∷ put_among x zs) (x ∷ z ∷ zs))
    by true = leads
    by false = h

put-sorted : (x : Drawn) (xs : List Drawn) → IsSorted drawn_cmp xs → IsSorted drawn_cmp (put_among x xs)
put-sorted x [] sorted = sorted_cons drawn_cmp x [] tt sorted
put-sorted x (y ∷ ys) sorted = by (is_gt (drawn_cmp x y)) refl (put-sorted x ys (sorted_tail drawn_cmp drawn_total y ys sorted))
  where
    by : (b : Bool) → is_gt (drawn_cmp x y) ≡ b → IsSorted drawn_cmp (put_among x ys) → IsSorted drawn_cmp (cond b (y ∷ put_among x ys) (x ∷ y ∷ ys))
    by true e rest =
        sorted_cons drawn_cmp y (put_among x ys) (put-leads y x ys (above (drawn_cmp x y) e) (sorted_leads drawn_cmp y ys sorted)) rest
    by false e rest =
        sorted_cons drawn_cmp x (y ∷ ys) (ap is_lt (drawn_total.antisymm y x) ∙ not_above (drawn_cmp x y) e) sorted

put-permutation : (x : Drawn) (xs : List Drawn) → IsPermutation (x ∷ xs) (put_among x xs)
put-permutation x [] = IsPermutation-refl (x ∷ [])
put-permutation x (y ∷ ys) = by (is_gt (drawn_cmp x y)) (put-permutation x ys)
  where
    by : (b : Bool) → IsPermutation (x ∷ ys) (put_among x ys) → IsPermutation (x ∷ y ∷ ys) (cond b (y ∷ put_among x ys) (x ∷ y ∷ ys))
    by true rest =
        IsPermutation-trans (x ∷ y ∷ ys) (y ∷ x ∷ ys) (y ∷ put_among x ys) (IsPermutation-middle (x ∷ []) y ys)
        (IsPermutation-cons y (x ∷ ys) (put_among x ys) rest)
    by false rest = IsPermutation-refl (x ∷ y ∷ ys)

-- ---- each block put among those before it

abbrev placed : List Drawn → List Drawn → List Drawn
placed drawing blocks = fold (λ drawing drawn. put_among drawn drawing) drawing blocks

placed-sorted : (drawing blocks : List Drawn) → IsSorted drawn_cmp drawing → IsSorted drawn_cmp (placed drawing blocks)
placed-sorted drawing [] sorted = sorted
placed-sorted drawing (x ∷ xs) sorted = placed-sorted (put_among x drawing) xs (put-sorted x drawing sorted)

placed-permutation : (drawing blocks : List Drawn) → IsPermutation (drawing ++ blocks) (placed drawing blocks)
placed-permutation drawing [] =
    subst (λ (l : List Drawn). IsPermutation l drawing) (sym (append-nil drawing)) (IsPermutation-refl drawing)
placed-permutation drawing (x ∷ xs) =
    IsPermutation-trans (drawing ++ x ∷ xs) ((x ∷ drawing) ++ xs) (placed (put_among x drawing) xs)
    (IsPermutation-middle drawing x xs)
    (IsPermutation-trans ((x ∷ drawing) ++ xs) (put_among x drawing ++ xs) (placed (put_among x drawing) xs)
    (IsPermutation-append_left xs (x ∷ drawing) (put_among x drawing) (put-permutation x drawing))
    (placed-permutation (put_among x drawing) xs))

pub drawing_there : (cell : CellValue) (table : List TableLine) (settings : Settings) → IsDrawing cell table settings (drawing_of cell table settings)
drawing_there cell table settings = record {
  all = placed-permutation [] (blocks_in cell table settings);
  ordered = placed-sorted [] (blocks_in cell table settings) (λ k d low high. absurd (omega (arith, high)));
}

-- so any drawing is that one
pub drawing_is : (cell : CellValue) (table : List TableLine) (settings : Settings) (drawing : List Drawn) → IsCell cell → IsDrawing cell table settings drawing → drawing ≡ drawing_of cell table settings
drawing_is cell table settings drawing is there = one_drawing cell table settings drawing (drawing_of cell table settings) is there (drawing_there cell table settings)

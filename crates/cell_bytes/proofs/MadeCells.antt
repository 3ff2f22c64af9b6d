-- The cells that are made are cells.
use Rattle.std.proofs.Common.{◌≡◌, ℕ, zero, suc, pos, ◌+◌, ◌*◌, ◌/◌, ◌%◌, ◌<◌, ◌≤◌, ◌^◌, inl, inr, List, [], ◌∷◌, ◌++◌, All, IsNone, refl, subst, ap, ◌∙◌, arith, lit≤}
use Rattle.std.specs.Ordering.{nat_cmp}
use Rattle.std.specs.Cmp.{nat_cmp_total}
use Rattle.std.specs.FinMap as map
use Rattle.std.specs.FinMap.{nat_cmp-IsAntisymmetric}
use Rattle.std.proofs.lemmas.Fmt.{decimal_digit, decimal_step}
use Rattle.std.proofs.lemmas.List.Elements.{All-nil, All-cons}
use Rattle.std.proofs.lemmas.Bool.{cases_lt}
use Rattle.text_scan.specs.Written.{decimal_of}
use Rattle.chart_model.specs.declared.record.Coord.{Coord}
use Rattle.chart_model.specs.declared.record.Pointer.{Pointer}
use Rattle.chart_model.specs.declared.dataset.Header.{Header}
use Rattle.chart_model.specs.declared.cell.Vector.{Vector}
use Rattle.chart_model.specs.declared.cell.Feature.{Feature}
use Rattle.chart_model.specs.Cell.{AreKeptTexts, IsCell, IsFeature, IsKeptText, IsVector}
use Rattle.chart_model.specs.Key.{IsKey, IsVisible}
use Rattle.chart_model.specs.Names.{name_cmp}
use Rattle.chart_model.specs.Record.{AreCoords, IsCoord}
use Rattle.chart_model.proofs.Names.{name_cmp-total, name_cmp-IsAntisymmetric}
use Rattle.chart_model.proofs.Maps.{Each, each-empty, each-insert}
use Rattle.cell_bytes.specs.Record.{digits}
use Rattle.cell_bytes.specs.Generator.{areas_to, edges_to, made_area, made_cell, made_depths, made_edge, made_header}
use Rattle.cell_bytes.specs.Generator.{made_key, made_node, made_place, nodes_to, node_name, edge_name, area_name, to_edge}
use Rattle.cell_bytes.proofs.Headers.{plain_decimal}

-- ---- texts

-- the decimal text of a number below 100 isn't the delete character
kept_decimal : (n : ℕ) → n < 100 → IsKeptText (decimal_of (pos n))
kept_decimal n small = record {
  plain = plain_decimal n (omega arith);
  kept = elim (cases_lt n 10) [
    | inl low ↦ λ (same : decimal_of (pos n) ≡ 127 ∷ []). let byte : 48 + n ≡ 127 = cc (decimal_digit n low) in absurd (omega arith)
    | inr high ↦ λ (same : decimal_of (pos n) ≡ 127 ∷ []).
        let tens : decimal_of (pos (n / 10)) ≡ (48 + n / 10) ∷ [] = decimal_digit (n / 10) (omega arith) in
        let both : decimal_of (pos n) ≡ (48 + n / 10) ∷ ((48 + n % 10) ∷ []) =
        decimal_step n high (omega arith) ∙ ap (λ (l : List ℕ). l ++ ((48 + n % 10) ∷ [])) tens in
        cc
  ];
}

kept_depths : (metres : ℕ) → metres < 50 → AreKeptTexts (made_depths metres)
kept_depths metres small =
    let P : ℕ → List ℕ → Type 0 = λ _ text. IsKeptText text in
    each-insert nat_cmp_total nat_cmp-IsAntisymmetric P _ 88 (decimal_of (pos (metres + 10)))
    (each-insert nat_cmp_total nat_cmp-IsAntisymmetric P _ 87 (decimal_of (pos metres))
    (each-empty nat_cmp P) (kept_decimal metres (omega arith)))
    (kept_decimal (metres + 10) (omega arith))

-- ---- records

on_globe : (x y : ℕ) → x ≤ 1800000000 → y ≤ 900000000 → IsCoord (made_place x y)
on_globe x y east north = record { longitude = east; latitude = north; depth = tt }

flat : (coords : List Coord) → All IsCoord coords → All (λ (coord : Coord). IsNone coord.z) coords → AreCoords coords
flat coords each none = record { each = each; alike = inr none }

is_node : (number : ℕ) → number ≤ 20000 → IsVector (node_name number) (made_node number)
is_node number small = record {
  named = inr (inl refl);
  attrs = each-empty nat_cmp (λ _ text. IsKeptText text);
  coords = flat _
      (All-cons IsCoord _ [] (on_globe (1000 * number) 0 (omega arith) (omega arith)) (All-nil IsCoord))
      (All-cons (λ (coord : Coord). IsNone coord.z) _ [] refl (All-nil _));
}

is_edge : (number : ℕ) → number ≤ 20000 → IsVector (edge_name number) (made_edge number)
is_edge number small =
    let first : Coord = made_place (1000 * number + 900) 0 in
    let second : Coord = made_place (1000 * number + 900) 900 in
    let third : Coord = made_place (1000 * number) 900 in
    let Flat : Coord → Type 0 = λ (coord : Coord). IsNone coord.z in
    record {
      named = inr (inr refl);
      attrs = each-empty nat_cmp (λ _ text. IsKeptText text);
      coords = flat (first ∷ (second ∷ (third ∷ [])))
          (All-cons IsCoord first (second ∷ (third ∷ [])) (on_globe (1000 * number + 900) 0 (omega arith) (omega arith))
          (All-cons IsCoord second (third ∷ []) (on_globe (1000 * number + 900) 900 (omega arith) (omega arith))
          (All-cons IsCoord third [] (on_globe (1000 * number) 900 (omega arith) (omega arith)) (All-nil IsCoord))))
          (All-cons Flat first (second ∷ (third ∷ [])) refl
          (All-cons Flat second (third ∷ []) refl
          (All-cons Flat third [] refl (All-nil Flat))));
    }

is_area : (number : ℕ) → IsFeature (area_name number) (made_area number)
is_area number =
    let Null : Pointer → Type 0 = λ (pointer : Pointer). pointer.topi ≡ 255 in
    record {
      named = refl;
      prim = inl (omega arith, omega arith);
      attrs = kept_depths (number % 50) (omega arith);
      topi = All-cons Null (to_edge number) [] refl (All-nil Null);
    }

-- ---- the cell

nodes_are : (count : ℕ) → count ≤ 20000 → Each IsVector (nodes_to count)
unfolding nodes_to
nodes_are zero small = each-empty name_cmp IsVector
nodes_are (suc count) small =
    each-insert name_cmp-total name_cmp-IsAntisymmetric IsVector (nodes_to count) (node_name (suc count)) (made_node (suc count))
    (nodes_are count (omega arith)) (is_node (suc count) small)

edges_are : (vectors : map.FinMap name_cmp Vector) (count : ℕ) → Each IsVector vectors → count ≤ 20000
    → Each IsVector (edges_to vectors count)
unfolding edges_to
edges_are vectors zero each small = each
edges_are vectors (suc count) each small =
    each-insert name_cmp-total name_cmp-IsAntisymmetric IsVector (edges_to vectors count) (edge_name (suc count)) (made_edge (suc count))
    (edges_are vectors count each (omega arith)) (is_edge (suc count) small)

areas_are : (count : ℕ) → Each IsFeature (areas_to count)
unfolding areas_to
areas_are zero = each-empty name_cmp IsFeature
areas_are (suc count) =
    each-insert name_cmp-total name_cmp-IsAntisymmetric IsFeature (areas_to count) (area_name (suc count)) (made_area (suc count))
    (areas_are count) (is_area (suc count))

visible_digit : (d : ℕ) → d < 10 → IsVisible (48 + d)
visible_digit d small = (omega arith, omega arith)

visible_digits : (count number : ℕ) → All IsVisible (digits count number)
unfolding digits
visible_digits zero number = All-nil IsVisible
visible_digits (suc count) number =
    All-cons IsVisible _ _ (visible_digit (number / 10 ^ count % 10) (omega arith)) (visible_digits count number)

key_is : (count : ℕ) → IsKey (made_key count)
unfolding digits
key_is count = record {
  nonempty = lit≤ tt;
  short = lit≤ tt;
  visible =
      All-cons IsVisible 77 (75 ∷ digits 6 count) (omega arith, omega arith)
      (All-cons IsVisible 75 (digits 6 count) (omega arith, omega arith) (visible_digits 6 count));
}

cell_is : (count : ℕ) → count ≤ 20000 → IsCell (made_cell count)
unfolding made_cell
cell_is count small = record {
  header = record { key = key_is count; edition = (omega arith, omega arith); update = omega arith };
  vectors = edges_are (nodes_to count) count (nodes_are count small) small;
  features = areas_are count;
}

-- what was put together is the cell
made_is : (count : ℕ) (header : Header) (nodes vectors : map.FinMap name_cmp Vector) (features : map.FinMap name_cmp Feature)
    → header ≡ made_header count 0 10000 → nodes ≡ nodes_to count → vectors ≡ edges_to nodes count → features ≡ areas_to count
    → made_cell count ≡ record { header = header; vectors = vectors; features = features }
unfolding made_cell
made_is count header nodes vectors features h n v f = cc

pub made_are : (count : ℕ) (header : Header) (nodes vectors : map.FinMap name_cmp Vector) (features : map.FinMap name_cmp Feature)
    → header ≡ made_header count 0 10000 → nodes ≡ nodes_to count → vectors ≡ edges_to nodes count → features ≡ areas_to count
    → count ≤ 20000 → IsCell (record { header = header; vectors = vectors; features = features })
made_are count header nodes vectors features h n v f small =
    subst IsCell (made_is count header nodes vectors features h n v f) (cell_is count small)

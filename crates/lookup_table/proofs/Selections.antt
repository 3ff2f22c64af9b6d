-- The first line that passes, by the places of its class and geometry.
use Rattle.std.proofs.Common.{◌≡◌, ℕ, ◌+◌, Bool, true, false, cond, ◌&&◌, List, [], ◌∷◌, ◌++◌, length, Option, Some, None, refl, sym, ap, ◌∙◌, arith, append_assoc, length-append, position}
use Rattle.std.specs.Prelude.{slice_get}
use Rattle.std.specs.List.{position_from}
use Rattle.std.specs.Option.{option_or}
use Rattle.chart_model.specs.Attrs.{Attrs}
use Rattle.std.proofs.lemmas.Iterator.Adapters.{position_from-zero}
use Rattle.chart_model.specs.declared.drawing.Geom.{Geom}
use Rattle.lookup_table.specs.declared.line.TableLine.{TableLine}
use Rattle.lookup_table.specs.Selection.{is_for, applies, is_unconditional, place_for}
use Rattle.lookup_table.specs.Places.{places_from, passes, first_place}

at_seam : (front : List TableLine) (line : TableLine) (back : List TableLine) → slice_get (front ++ line ∷ back) (length front) ≡ Some line
at_seam [] line back = refl
at_seam (x ∷ front) line back = at_seam front line back

module _ (class : ℕ) (geom : Geom) (test : TableLine → Bool) where
  abbrev both : TableLine → Bool
  both line = is_for class geom line && test line

  chosen : (a b : Bool) (n : ℕ) (o : Option ℕ) → cond a (cond b (Some n) o) o ≡ cond (a && b) (Some n) o
  chosen true b n o = refl
  chosen false b n o = refl

  found_more : (all : List TableLine) (line : TableLine) (back : List TableLine) (n : ℕ) → slice_get all n ≡ Some line
      → first_place test all (places_from n class geom (line ∷ back))
      ≡ cond (both line) (Some n) (first_place test all (places_from (n + 1) class geom back))
  unfolding places_from
  found_more all line back n here = by (is_for class geom line)
    where
      by : (a : Bool) → first_place test all (cond a (n ∷ places_from (n + 1) class geom back) (places_from (n + 1) class geom back))
          ≡ cond (a && test line) (Some n) (first_place test all (places_from (n + 1) class geom back))
      by true = ap (λ (o : Option TableLine). cond (passes test o) (Some n) (first_place test all (places_from (n + 1) class geom back))) here
      by false = refl

  found_none : (all : List TableLine) (n : ℕ) → first_place test all (places_from n class geom []) ≡ None
  unfolding places_from
  found_none all n = refl

  found_from : (all front back : List TableLine) (n : ℕ) → all ≡ front ++ back → n ≡ length front
      → first_place test all (places_from n class geom back) ≡ position_from both n back
  found_from all front [] n whole counted = found_none all n
  found_from all front (line ∷ back) n whole counted =
      let here : slice_get all n ≡ Some line = (λ i. slice_get (whole i) (counted i)) ∙ at_seam front line back in
      let next : n + 1 ≡ length (front ++ line ∷ []) = omega (arith, counted, length-append front (line ∷ [])) in
      found_more all line back n here
      ∙ ap (cond (both line) (Some n)) (found_from all (front ++ line ∷ []) back (n + 1) (whole ∙ sym (append_assoc front (line ∷ []) back)) next)

  -- the first place at which the line passes is that of the first line for the class and the geometry that passes
  pub found : (lines : List TableLine) → first_place test lines (places_from 0 class geom lines) ≡ position (λ line. is_for class geom line && test line) lines
  found lines = found_from lines [] lines 0 refl refl ∙ sym (position_from-zero both lines)

-- ---- the line for an object

module _ (class : ℕ) (geom : Geom) (lines : List TableLine) (attrs : Attrs) where
  pub chosen_first : (place : ℕ) → first_place (applies attrs) lines (places_from 0 class geom lines) ≡ Some place → Some place ≡ place_for lines class geom attrs
  chosen_first place e =
      sym (ap (λ (o : Option ℕ). option_or o (position (λ line. is_for class geom line && is_unconditional line) lines)) (sym (found class geom (applies attrs) lines) ∙ e))

  pub chosen_second : first_place (applies attrs) lines (places_from 0 class geom lines) ≡ None
      → first_place is_unconditional lines (places_from 0 class geom lines) ≡ place_for lines class geom attrs
  chosen_second e =
      found class geom is_unconditional lines
      ∙ sym (ap (λ (o : Option ℕ). option_or o (position (λ line. is_for class geom line && is_unconditional line) lines)) (sym (found class geom (applies attrs) lines) ∙ e))

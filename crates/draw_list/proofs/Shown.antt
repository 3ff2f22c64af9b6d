-- Which features are shown.
use Rattle.std.proofs.Common.{◌≡◌, ◌≢◌, ◌↔◌, ℕ, ◌≤◌, ◌⊎◌, Bool, true, false, cond, eqb, List, Option, Some, None, refl, sym, ap, ◌∙◌, subst, arith, inl, inr}
use Rattle.std.specs.Prelude.{Result, Ok, Err, IfOk, IsSome, option_and_then}
use Rattle.std.specs.Int.{IsInRange}
use Rattle.std.specs.FinMap as map
use Rattle.std.specs.declared.alloc.AllocError.{AllocError}
use Rattle.std.proofs.lemmas.Bool.{ltb-false, true≢false}
use Rattle.std.proofs.lemmas.Bool.Decides.{nat_tests, eqb_tells}
use Rattle.chart_model.specs.Attrs.{Attrs}
use Rattle.chart_model.specs.Cell.{CellValue}
use Rattle.chart_model.specs.declared.cell.Feature.{Feature}
use Rattle.chart_model.specs.declared.drawing.Block.{Block}
use Rattle.chart_model.specs.declared.drawing.Geom.{Geom}
use Rattle.chart_model.specs.declared.drawing.Geom.TheVariants.{Area, Line, Point}
use Rattle.chart_model.specs.declared.name.Name.{Name}
use Rattle.chart_model.specs.declared.settings.Settings.{Settings}
use Rattle.text_scan.specs.Number.{IsNumber, value_of, number_of}
use Rattle.lookup_table.specs.declared.line.TableLine.{TableLine}
use Rattle.draw_list.specs.Block.{IsShown, geom_of, is_below, is_hidden, block_with, line_for, block_as, block_in}
use Rattle.text_scan.proofs.Numbers.{NumbersAreSpelled}

-- ---- geometries

abbrev HasGeom : ℕ → Type 0
HasGeom prim = ((geom : Geom) × ((geom_of prim ≡ Some geom) × IsInRange 1 3 prim)) ⊎ ((geom_of prim ≡ None) × ¬ IsInRange 1 3 prim)

geom_cases : (prim : ℕ) → HasGeom prim
geom_cases prim = area (eqb_tells prim 3)
  where
    at_geom : (a b c : Bool) → Option Geom
    at_geom a b c = cond a (Some Area) (cond b (Some Line) (cond c (Some Point) None))

    point : eqb prim 3 ≡ false → prim ≢ 3 → eqb prim 2 ≡ false → prim ≢ 2 → ((eqb prim 1 ≡ true) × (prim ≡ 1)) ⊎ ((eqb prim 1 ≡ false) × (prim ≢ 1)) → HasGeom prim
    point a na b nb (inl h) = inl (Point, ((λ i. at_geom (a i) (b i) (h.0 i)), (omega (arith, h.1), omega (arith, h.1))))
    point a na b nb (inr h) = inr ((λ i. at_geom (a i) (b i) (h.0 i)), λ r. omega (arith, na, nb, h.1, r.0, r.1))

    line : eqb prim 3 ≡ false → prim ≢ 3 → ((eqb prim 2 ≡ true) × (prim ≡ 2)) ⊎ ((eqb prim 2 ≡ false) × (prim ≢ 2)) → HasGeom prim
    line a na (inl h) = inl (Line, ((λ i. at_geom (a i) (h.0 i) (eqb prim 1)), (omega (arith, h.1), omega (arith, h.1))))
    line a na (inr h) = point a na h.0 h.1 (eqb_tells prim 1)

    area : ((eqb prim 3 ≡ true) × (prim ≡ 3)) ⊎ ((eqb prim 3 ≡ false) × (prim ≢ 3)) → HasGeom prim
    area (inl h) = inl (Area, ((λ i. at_geom (h.0 i) (eqb prim 2) (eqb prim 1)), (omega (arith, h.1), omega (arith, h.1))))
    area (inr h) = line h.0 h.1 (eqb_tells prim 2)

-- ---- the scale

abbrev FitsScale : Attrs → ℕ → Type 0
FitsScale attrs scale = (text : List ℕ) → map.get attrs 133 ≡ Some text → IsNumber text → scale ≤ value_of text

below_number : (scale n : ℕ) → is_below scale (Some n) ≡ false → scale ≤ n
below_number scale n h = ltb-false n scale h

shown-fits : NumbersAreSpelled → (attrs : Attrs) (scale : ℕ) → is_hidden attrs scale ≡ false → FitsScale attrs scale
shown-fits spelled attrs scale h text there number =
    let n = (spelled text (value_of text)).1 (number, refl) in
    below_number scale (value_of text) (sym (ap (λ (o : Option (List ℕ)). is_below scale (option_and_then number_of o)) there ∙ ap (is_below scale) n) ∙ h)

not_below : (scale n : ℕ) → scale ≤ n → is_below scale (Some n) ≡ false
not_below scale n h = grind (arith, nat_tests)

fits-shown : NumbersAreSpelled → (attrs : Attrs) (scale : ℕ) → FitsScale attrs scale → is_hidden attrs scale ≡ false
fits-shown spelled attrs scale fits = by (map.get attrs 133) refl
  where
    number : (text : List ℕ) → map.get attrs 133 ≡ Some text → (o : Option ℕ) → number_of text ≡ o → is_below scale o ≡ false
    number text there None e = refl
    number text there (Some n) e =
        let s = (spelled text n).0 e in
        not_below scale n (subst (λ (k : ℕ). scale ≤ k) s.1 (fits text there s.0))

    by : (o : Option (List ℕ)) → map.get attrs 133 ≡ o → is_below scale (option_and_then number_of o) ≡ false
    by None e = refl
    by (Some text) e = number text e (number_of text) refl

-- ---- blocks

block_there : (cell : CellValue) (table : List TableLine) (settings : Settings) (feature : Feature) (geom : Geom) (b : Bool) → is_hidden feature.attrs settings.scale ≡ b
    → IsSome (block_as cell table settings feature (Some geom)) → b ≡ false
block_there cell table settings feature geom true h some =
    absurd (true≢false (sym (subst (λ (b : Bool). IsSome (cond b None (Some (block_with cell settings feature geom (line_for table feature geom))))) h some)))
block_there cell table settings feature geom false h some = refl

block_made : (cell : CellValue) (table : List TableLine) (settings : Settings) (feature : Feature) (geom : Geom) → is_hidden feature.attrs settings.scale ≡ false
    → IsSome (block_as cell table settings feature (Some geom))
block_made cell table settings feature geom h =
    subst (λ (b : Bool). IsSome (cond b None (Some (block_with cell settings feature geom (line_for table feature geom))))) (sym h) refl

shown-to : NumbersAreSpelled → (cell : CellValue) (table : List TableLine) (settings : Settings) (name : Name) (feature : Feature)
    → map.get cell.features name ≡ Some feature → IsSome (block_in cell table settings feature) → IsShown cell settings.scale name
shown-to spelled cell table settings name feature there some = by (geom_cases feature.prim)
  where
    by : HasGeom feature.prim → IsShown cell settings.scale name
    by (inl g) =
        let here = subst (λ (o : Option Geom). IsSome (block_as cell table settings feature o)) g.1.0 some in
        record {
          feature = feature;
          there = there;
          primitive = g.1.1;
          scamin = shown-fits spelled feature.attrs settings.scale (block_there cell table settings feature g.0 (is_hidden feature.attrs settings.scale) refl here);
        }
    by (inr g) = absurd (true≢false (sym (subst (λ (o : Option Geom). IsSome (block_as cell table settings feature o)) g.0 some)))

shown-from : NumbersAreSpelled → (cell : CellValue) (table : List TableLine) (settings : Settings) (name : Name) (feature : Feature) → map.get cell.features name ≡ Some feature
    → IsShown cell settings.scale name → IsSome (block_in cell table settings feature)
shown-from spelled cell table settings name feature there s = by (geom_cases feature.prim)
  where
    same : s.feature ≡ feature
    same = let e = sym s.there ∙ there in cc

    by : HasGeom feature.prim → IsSome (block_in cell table settings feature)
    by (inl g) =
        subst (λ (o : Option Geom). IsSome (block_as cell table settings feature o)) (sym g.1.0)
        (block_made cell table settings feature g.0 (fits-shown spelled feature.attrs settings.scale (subst (λ (f : Feature). FitsScale f.attrs settings.scale) same s.scamin)))
    by (inr g) = absurd (g.1 (subst (λ (f : Feature). IsInRange 1 3 f.prim) same s.primitive))

-- an answer that is what was wanted
each_ok : (r : Result (Option Block) AllocError) (wanted : Option Block) (P : Option Block → Type 0) → IfOk r (λ b. b ≡ wanted) → P wanted → IfOk r P
each_ok (Ok b) wanted P e p = subst P (sym e) p
each_ok (Err e) wanted P h p = tt

pub shown_by : NumbersAreSpelled → (cell : CellValue) (table : List TableLine) (settings : Settings) (name : Name) (feature : Feature) (r : Result (Option Block) AllocError)
    → map.get cell.features name ≡ Some feature → IfOk r (λ block. block ≡ block_in cell table settings feature) → IfOk r (λ block. IsSome block ↔ IsShown cell settings.scale name)
shown_by spelled cell table settings name feature r there made =
    each_ok r (block_in cell table settings feature) (λ block. IsSome block ↔ IsShown cell settings.scale name) made
    (shown-to spelled cell table settings name feature there, shown-from spelled cell table settings name feature there)

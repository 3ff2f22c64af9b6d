-- The list of areas of coverage has the rings of all areas of coverage of charts that are held, and no others.
use Rattle.std.proofs.Common.{◌≡◌, inl, inr, ℕ, Bool, true, false, cond, List, [], Option, Some, None, codes, refl, sym, ap, subst}
use Rattle.std.specs.Bool.{Decides}
use Rattle.std.specs.Str.{bytes_eq}
use Rattle.std.specs.FinMap as map
use Rattle.std.proofs.lemmas.Bool.{false≢true}
use Rattle.std.proofs.lemmas.Bool.Decides.{Decides-eqb, Decides-and, Decides-like}
use Rattle.std.proofs.lemmas.Slice.Eq.{bytes_eq-Decides}
use Rattle.common_lemmas.proofs.Choices.{some_is}
use Rattle.common_lemmas.proofs.Members.{Has}
use Rattle.chart_model.specs.declared.name.Name.{Name}
use Rattle.chart_model.specs.declared.cell.Feature.{Feature}
use Rattle.chart_model.specs.declared.state.Holding.{Holding}
use Rattle.chart_model.specs.Cell.{CellValue}
use Rattle.chart_model.specs.Codes.{AREA}
use Rattle.chart_model.specs.State.{StateValue}
use Rattle.chart_model.proofs.Names.{name_cmp-total, name_cmp-IsAntisymmetric}
use Rattle.chart_model.proofs.Keys.{key_cmp-total, key_cmp-IsAntisymmetric}
use Rattle.plane_geometry.specs.declared.point.Pt.{Pt}
use Rattle.area_rings.specs.Shape.{rings_of}
use Rattle.coverage_points.specs.Coverage.{M_COVR, CATCOV, IsCoverage, IsCharted, is_text, is_coverage, listed, coverage_at, coverage_under, coverage_in}
use Rattle.coverage_points.proofs.Members.{comes, goes}
use Rattle.coverage_points.proofs.Held.{entry_held, held_entry}

-- ---- which features are areas of coverage

Decides-text : (value : List ℕ) (o : Option (List ℕ)) → Decides (is_text value o) (o ≡ Some value)
Decides-text value None = (λ e. absurd (false≢true e), λ e. absurd (let no : ◌≡◌ {A = Option (List ℕ)} None (Some value) = e in cc))
Decides-text value (Some text) =
    Decides-like (bytes_eq text value) (λ e. ap Some e) (λ e. some_is text value e) (bytes_eq-Decides text value)

pub Decides-coverage : (feature : Feature) → Decides (is_coverage feature) (IsCoverage feature)
Decides-coverage feature =
    Decides-like (is_coverage feature) (λ h. record { class = h.0.0; area = h.0.1; available = h.1 }) (λ h. ((h.class, h.area), h.available))
    (Decides-and _ _ (Decides-and _ _ (Decides-eqb feature.class M_COVR) (Decides-eqb feature.prim AREA))
    (Decides-text (codes "1") (map.get feature.attrs CATCOV)))

-- ---- their rings

listed_out : {X : Type 0} (b : Bool) (o : Option X) (x : X) → Has x (cond b (listed o) []) → (b ≡ true) × (o ≡ Some x)
listed_out true None x h = absurd h
listed_out true (Some y) x (inl e) = (refl, ap Some e)
listed_out true (Some y) x (inr h) = absurd h
listed_out false o x h = absurd h

listed_in : {X : Type 0} (b : Bool) (o : Option X) (x : X) → b ≡ true → o ≡ Some x → Has x (cond b (listed o) [])
listed_in {X = X} b o x e there =
    subst (λ (c : Bool). Has x (cond c (listed o) [])) (sym e) (subst (λ (p : Option X). Has x (listed p)) (sym there) (inl refl))

-- ---- those of all charts

module _ (state : StateValue) (rings : List (List Pt)) where
  abbrev held_areas : List ℕ × Holding → List (List (List Pt))
  held_areas entry = coverage_under entry.1.chart

  abbrev feature_areas : CellValue → Name × Feature → List (List (List Pt))
  feature_areas cell entry = coverage_at cell entry.1

  pub charted_out : Has rings (coverage_in state) → IsCharted state rings
  charted_out h =
      let c = comes held_areas (map.entries state.cells) rings h in
      by c.from c.among c.from.1.chart refl c.gives
    where
      by : (e : List ℕ × Holding) → Has e (map.entries state.cells) → (chart : Option CellValue) → e.1.chart ≡ chart → Has rings (coverage_under chart) → IsCharted state rings
      by e among None charted h = absurd h
      by e among (Some cell) charted h =
          let c = comes (feature_areas cell) (map.entries cell.features) rings h in
          let of = listed_out (is_coverage c.from.1) (rings_of cell c.from.1.pointers) rings c.gives in
          record {
            key = e.0;
            holding = e.1;
            held = entry_held key_cmp-total key_cmp-IsAntisymmetric state.cells e.0 e.1 among;
            chart = cell;
            charted = charted;
            name = c.from.0;
            feature = c.from.1;
            there = entry_held name_cmp-total name_cmp-IsAntisymmetric cell.features c.from.0 c.from.1 c.among;
            coverage = (Decides-coverage c.from.1).0 of.0;
            bounded = of.1;
          }

  pub charted_in : IsCharted state rings → Has rings (coverage_in state)
  charted_in q =
      goes held_areas (map.entries state.cells) (q.key, q.holding) rings
      (held_entry key_cmp-total key_cmp-IsAntisymmetric state.cells q.key q.holding q.held)
      (subst (λ (chart : Option CellValue). Has rings (coverage_under chart)) (sym q.charted)
      (goes (feature_areas q.chart) (map.entries q.chart.features) (q.name, q.feature) rings
      (held_entry name_cmp-total name_cmp-IsAntisymmetric q.chart.features q.name q.feature q.there)
      (listed_in (is_coverage q.feature) (rings_of q.chart q.feature.pointers) rings ((Decides-coverage q.feature).1 q.coverage) q.bounded)))

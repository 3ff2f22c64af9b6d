-- The names of boxes that meet an area are the candidates of the grid.
use Rattle.std.proofs.Common.{◌≡◌, T, List, sym, ◌∙◌}
use Rattle.std.specs.Prelude.{◌↔◌, AllPairs}
use Rattle.std.specs.List.{Contains}
use Rattle.std.specs.declared.cmp.Ordering.TheVariants.{Less}
use Rattle.std.specs.FinMap as finite
use Rattle.std.specs.FinMap.{is_sorted}
use Rattle.chart_model.specs.declared.name.Name.{Name}
use Rattle.chart_model.specs.Names.{name_cmp}
use Rattle.chart_model.proofs.Names.{name_cmp-total, name_cmp-IsAntisymmetric}
use Rattle.plane_bounds.specs.declared.bounds.Bounds.{Bounds}
use Rattle.spatial_grid.specs.Candidates.{IsCandidate, AreCandidates}
use Rattle.spatial_grid.specs.Met.{IsMet}
use Rattle.common_lemmas.proofs.Members.{has_out, has_in}
use Rattle.spatial_grid.proofs.Found.{found_there, there_found}

module _ (boxes : List (Name × Bounds)) (sorted : T (is_sorted name_cmp boxes)) (area : Bounds) where
  get_is : (name : Name) → finite.get (finite.from_sorted {R = name_cmp} boxes) name ≡ finite.find name_cmp name boxes
  get_is name = finite.get-from_sorted name_cmp boxes name sorted

  candidate : (name : Name) → IsMet boxes area name → IsCandidate (finite.from_sorted {R = name_cmp} boxes) area name
  candidate name m = record {
    box = m.box;
    there = get_is name ∙ there_found name_cmp-total name_cmp-IsAntisymmetric name m.box boxes sorted (has_out boxes (name, m.box) m.there);
    meets = m.meets;
  }

  met : (name : Name) → IsCandidate (finite.from_sorted {R = name_cmp} boxes) area name → IsMet boxes area name
  met name m = record {
    box = m.box;
    there = has_in boxes (name, m.box) (found_there name_cmp-total name_cmp-IsAntisymmetric name m.box boxes (sym (get_is name) ∙ m.there));
    meets = m.meets;
  }

  pub candidates_of : (told names : List Name) → ((name : Name) → Contains told name ↔ IsMet boxes area name)
      → ((name : Name) → Contains names name ↔ Contains told name) → AllPairs (λ x y. name_cmp x y ≡ Less) names
      → AreCandidates (finite.from_sorted {R = name_cmp} boxes) area names
  candidates_of told names all same ordered = record {
    all = λ name. (λ h. candidate name ((all name).0 ((same name).0 h)), λ m. (same name).1 ((all name).1 (met name m)));
    ordered = ordered;
  }

-- Values under the names of records, in the order of the names.
use Rattle.std.proofs.Common.{◌≡◌, T, Bool, true, false, cond, List, [], ◌∷◌, Option, Some, None, refl, sym, ap, ◌∙◌, subst}
use Rattle.std.specs.Prelude.{◌&&◌}
use Rattle.std.specs.Option.{option_and_then}
use Rattle.std.specs.Ordering.{eq_by_cmp}
use Rattle.std.specs.List.{cons_option, filter_map}
use Rattle.std.specs.FinMap.{find, is_sorted}
use Rattle.std.specs.FinMap.Entries.{below_all}
use Rattle.chart_model.specs.declared.name.Name.{Name}
use Rattle.chart_model.specs.Names.{name_cmp}
use Rattle.chart_model.proofs.Names.{name_cmp-IsAntisymmetric}
use Rattle.chart_model.proofs.Maps.{tied}
use Rattle.chart_model.proofs.Pages.{find-below}
use Rattle.chart_model.proofs.SortedEntries.{first, second}
use Rattle.spatial_grid.specs.Boxes.{under_name}

both : (a b : Bool) → T a → T b → T (a && b)
both true b p q = q
both false b p q = p

module _ {X Y : Type 0} (box : Name × X → Option Y) where
  -- what there is of a record under its name, where there is something
  abbrev pub named : Name × X → Option (Name × Y)
  named e = under_name e.0 (box e)

  below_kept : (name : Name) (es : List (Name × X)) → T (below_all name_cmp name es) → T (below_all name_cmp name (filter_map named es))
  below_kept name [] h = tt
  below_kept name (e ∷ es) h = by (box e) (below_kept name es (second _ _ h))
    where
      by : (o : Option Y) → T (below_all name_cmp name (filter_map named es)) → T (below_all name_cmp name (cons_option (under_name e.0 o) (filter_map named es)))
      by None others = others
      by (Some b) others = both _ _ (first _ _ h) others

  pub sorted_kept : (es : List (Name × X)) → T (is_sorted name_cmp es) → T (is_sorted name_cmp (filter_map named es))
  sorted_kept [] h = tt
  sorted_kept (e ∷ es) h = by (box e) (sorted_kept es (second _ _ h))
    where
      by : (o : Option Y) → T (is_sorted name_cmp (filter_map named es)) → T (is_sorted name_cmp (cons_option (under_name e.0 o) (filter_map named es)))
      by None others = others
      by (Some b) others = both _ _ (below_kept e.0 es (first _ _ h)) others

  -- what is found under a name is what there is of the record that stands there
  pub find_kept : (name : Name) (es : List (Name × X)) → T (is_sorted name_cmp es) → find name_cmp name (filter_map named es) ≡ option_and_then (λ (x : X). box (name, x)) (find name_cmp name es)
  find_kept name [] h = refl
  find_kept name (e ∷ es) h = by (eq_by_cmp name_cmp name e.0) refl (box e) refl (find_kept name es (second _ _ h))
    where
      here : eq_by_cmp name_cmp name e.0 ≡ true → box (name, e.1) ≡ box e
      here same = λ i. box (name_cmp-IsAntisymmetric name e.0 (tied _ same) i, e.1)

      alone : eq_by_cmp name_cmp name e.0 ≡ true → find name_cmp name es ≡ None
      alone same = subst (λ n. find name_cmp n es ≡ None) (sym (name_cmp-IsAntisymmetric name e.0 (tied _ same))) (find-below name_cmp e.0 es (first _ _ h))

      by : (b : Bool) → eq_by_cmp name_cmp name e.0 ≡ b → (o : Option Y) → box e ≡ o → find name_cmp name (filter_map named es) ≡ option_and_then (λ (x : X). box (name, x)) (find name_cmp name es)
          → find name_cmp name (cons_option (under_name e.0 o) (filter_map named es)) ≡ option_and_then (λ (x : X). box (name, x)) (cond b (Some e.1) (find name_cmp name es))
      by true same None is later =
          later ∙ ap (option_and_then (λ (x : X). box (name, x))) (alone same) ∙ sym (here same ∙ is)
      by true same (Some b) is later =
          ap (λ t. cond t (Some b) (find name_cmp name (filter_map named es))) same ∙ sym (here same ∙ is)
      by false apart None is later = later
      by false apart (Some b) is later = ap (λ t. cond t (Some b) (find name_cmp name (filter_map named es))) apart ∙ later

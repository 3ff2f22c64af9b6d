-- The users of a cell's records, as tests of a record and a feature.
use Rattle.std.proofs.Common.{◌≡◌, Bool, true, false, cond, ◌&&◌, ◌||◌, T, List, [], ◌∷◌, map, filter, Option, Some}
use Rattle.std.proofs.Common.{None, refl, sym, ap, ◌∙◌}
use Rattle.std.specs.Prelude.{is_some}
use Rattle.std.specs.Ordering.{eq_by_cmp, is_eq}
use Rattle.std.specs.List.{list_any}
use Rattle.std.specs.FinMap as finite
use Rattle.std.specs.FinMap.{find, is_sorted}
use Rattle.std.specs.FinMap.Entries.{below_all}
use Rattle.chart_model.specs.declared.name.Name.{Name}
use Rattle.chart_model.specs.declared.cell.Feature.{Feature}
use Rattle.chart_model.specs.Cell.{CellValue}
use Rattle.chart_model.specs.Names.{name_cmp}
use Rattle.chart_model.proofs.Names.{name_cmp-total, name_cmp-IsAntisymmetric}
use Rattle.chart_model.proofs.Maps.{tied}
use Rattle.chart_model.proofs.SortedEntries.{first, second, less}
use Rattle.topology_cache.specs.Users.{UsersValue, AreUsersOf, set_at, users_among, users_in, points_to_any}
use Rattle.topology_cache.specs.Sets.{marked_names, AreRising, set_of, is_user, pointers_in, pointers_at}
use Rattle.topology_cache.proofs.NameSets.{keys-set}

both : (a b : Bool) → T a → T b → T (a && b)
both true b p q = q
both false b p q = absurd p

-- ---- users stand in order

below_among : (x edge : Name) (es : List (Name × Feature)) → T (below_all name_cmp x es)
    → T (below_all name_cmp x (marked_names (users_among edge es)))
below_among x edge [] h = tt
below_among x edge (e ∷ es) h =
    let rest = below_among x edge es (second _ _ h) in
    elim (points_to_any edge e.1.pointers) as (λ b. T (below_all name_cmp x
    (marked_names (map (λ (p : Name × Feature). p.0) (cond b (e ∷ filter
    (λ (p : Name × Feature). points_to_any edge p.1.pointers) es)
    (filter (λ (p : Name × Feature). points_to_any edge p.1.pointers) es)))))) [
      | true ↦ both _ _ (first _ _ h) rest
      | false ↦ rest
    ]

rising_among : (edge : Name) (es : List (Name × Feature)) → T (is_sorted name_cmp es)
    → AreRising (users_among edge es)
rising_among edge [] h = tt
rising_among edge (e ∷ es) h =
    let rest = rising_among edge es (second _ _ h) in
    elim (points_to_any edge e.1.pointers) as (λ b. T (is_sorted name_cmp
    (marked_names (map (λ (p : Name × Feature). p.0) (cond b (e ∷ filter
    (λ (p : Name × Feature). points_to_any edge p.1.pointers) es)
    (filter (λ (p : Name × Feature). points_to_any edge p.1.pointers) es)))))) [
      | true ↦ both _ _ (below_among e.0 edge es (first _ _ h)) rest
      | false ↦ rest
    ]

-- ---- a feature is among the users where it points to the record

pub find-below : {X : Type 0} (x : Name) (es : List (Name × X)) → T (below_all name_cmp x es)
    → find name_cmp x es ≡ None
find-below x [] h = refl
find-below x (e ∷ es) h = ap (λ r. cond (is_eq r) (Some e.1) (find name_cmp x es)) (less _ (first _ _ h))
    ∙ find-below x es (second _ _ h)

one_among : (p t : Bool) (e : Name × Feature) (kept : List (Name × Feature)) (edge name : Name) (rest : Option Feature)
    → points_to_any edge e.1.pointers ≡ p → eq_by_cmp name_cmp name e.0 ≡ t
    → list_any (eq_by_cmp name_cmp name) (map (λ (p : Name × Feature). p.0) kept)
    ≡ points_to_any edge (pointers_in rest) → (t ≡ true → rest ≡ None)
    → list_any (eq_by_cmp name_cmp name) (map (λ (p : Name × Feature). p.0) (cond p (e ∷ kept) kept))
    ≡ points_to_any edge (pointers_in (cond t (Some e.1) rest))
one_among true true e kept edge name rest points tie others none =
    ap (λ b. b || list_any (eq_by_cmp name_cmp name) (map (λ (p : Name × Feature). p.0) kept)) tie ∙ sym points
one_among true false e kept edge name rest points tie others none =
    ap (λ b. b || list_any (eq_by_cmp name_cmp name) (map (λ (p : Name × Feature). p.0) kept)) tie ∙ others
one_among false true e kept edge name rest points tie others none =
    others ∙ ap (λ o. points_to_any edge (pointers_in o)) (none refl) ∙ sym points
one_among false false e kept edge name rest points tie others none = others

found_among : (edge name : Name) (es : List (Name × Feature)) → T (is_sorted name_cmp es)
    → list_any (eq_by_cmp name_cmp name) (users_among edge es)
    ≡ points_to_any edge (pointers_in (find name_cmp name es))
found_among edge name [] h = refl
found_among edge name (e ∷ es) h =
    one_among _ _ e (filter (λ (p : Name × Feature). points_to_any edge p.1.pointers) es) edge name
    (find name_cmp name es) refl refl (found_among edge name es (second _ _ h))
    (λ tie. ap (λ (n : Name). find name_cmp n es) (name_cmp-IsAntisymmetric name e.0 (tied (name_cmp name e.0) tie))
    ∙ find-below e.0 es (first _ _ h))

among-in : (cell : CellValue) (edge name : Name)
    → list_any (eq_by_cmp name_cmp name) (users_in cell edge) ≡ points_to_any edge (pointers_at cell name)
among-in cell edge name =
    found_among edge name (finite.entries cell.features) (finite.entries_sorted cell.features)
    ∙ ap (λ o. points_to_any edge (pointers_in o)) (sym (finite.get-entries cell.features name))

-- ---- between users as lists and as a test

-- the users of each edge are the features that point to it
abbrev pub PointTo : CellValue → UsersValue → Type 0
PointTo cell users = (edge name : Name) → is_user users edge name ≡ points_to_any edge (pointers_at cell name)

pub point-to : (cell : CellValue) (users : UsersValue) → AreUsersOf cell users → PointTo cell users
point-to cell users are edge name =
    finite.contains_key-keys (set_at users edge) name
    ∙ ap (list_any (eq_by_cmp name_cmp name)) (are edge)
    ∙ among-in cell edge name

alike : (a b : Option (Unit {0})) → is_some a ≡ is_some b → a ≡ b
alike None None e = refl
alike (Some a) (Some b) e = refl
alike None (Some b) e = cc
alike (Some a) None e = cc

pub are-users : (cell : CellValue) (users : UsersValue) → PointTo cell users → AreUsersOf cell users
are-users cell users point edge =
    let rising = rising_among edge (finite.entries cell.features) (finite.entries_sorted cell.features) in
    let listed = keys-set (users_in cell edge) rising in
    ap finite.keys (finite.same_map name_cmp-total name_cmp-IsAntisymmetric (set_at users edge)
    (set_of (users_in cell edge)) (λ name.
    alike _ _ (point edge name
    ∙ sym (among-in cell edge name)
    ∙ ap (list_any (eq_by_cmp name_cmp name)) (sym listed)
    ∙ sym (finite.contains_key-keys (set_of (users_in cell edge)) name))))
    ∙ listed

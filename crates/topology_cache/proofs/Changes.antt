-- From the users of one chart to those of the next, name by name.
use Rattle.std.proofs.Common.{◌≡◌, ◌≢◌, ℕ, zero, suc, ◌+◌, ◌<◌, ◌≤◌, Bool, true, false, cond, not, ◌&&◌, ◌||◌, List}
use Rattle.std.proofs.Common.{[], ◌∷◌, ◌++◌, length, take, get_or, refl, sym, ap, ◌∙◌, arith}
use Rattle.std.specs.Prelude.{◌==◌, Result, Ok, Err, OnOk}
use Rattle.std.specs.Ordering.{eq_by_cmp}
use Rattle.std.specs.Cmp.{eq_by_cmp_equiv}
use Rattle.std.proofs.lemmas.List.Folds.{list_any-append}
use Rattle.std.proofs.lemmas.Map.Views.{list_any-from_Contains}
use Rattle.chart_model.specs.declared.name.Name.{Name}
use Rattle.chart_model.specs.Cell.{CellValue}
use Rattle.chart_model.specs.Names.{name_cmp}
use Rattle.chart_model.proofs.Names.{name_cmp-total, name_cmp-IsAntisymmetric}
use Rattle.chart_model.proofs.Maps.{tied}
use Rattle.topology_cache.specs.Users.{UsersValue, AreUsersOf, HasChanged, same_name, points_to_any, feature_names}
use Rattle.topology_cache.specs.Sets.{is_user, pointers_in, pointers_at, is_among, AreBetween}
use Rattle.topology_cache.proofs.Same.{ties-same}
use Rattle.topology_cache.proofs.Cells.{point-to, are-users}

pub between-begins : (old new : CellValue) (users : UsersValue) → AreUsersOf old users → AreBetween old new [] users
between-begins old new users are edge name = point-to old users are edge name

-- ---- one name more

among-push : (done : List Name) (name other : Name)
    → is_among (done ++ name ∷ []) other ≡ (is_among done other || eq_by_cmp name_cmp other name)
among-push done name other =
    list_any-append (eq_by_cmp name_cmp other) done (name ∷ [])
    ∙ ap (λ b. is_among done other || b) (or-false (eq_by_cmp name_cmp other name))
  where
    or-false : (b : Bool) → (b || false) ≡ b
    or-false true = refl
    or-false false = refl

-- p by the new chart and q by the old one, u as it was; the name itself, and any other
renewed : (done tie p q u : Bool) → u ≡ cond done p q → ((p && tie) || (not (q && tie) && u)) ≡ cond (done || tie) p q
renewed true true true q u so = refl
renewed true true false true u so = refl
renewed true true false false u so = so
renewed true false true q u so = rest q so
  where
    rest : (q : Bool) → u ≡ true → (not (q && false) && u) ≡ true
    rest true so = so
    rest false so = so
renewed true false false true u so = so
renewed true false false false u so = so
renewed false true true q u so = refl
renewed false true false true u so = refl
renewed false true false false u so = so
renewed false false true true u so = so
renewed false false true false u so = so
renewed false false false true u so = so
renewed false false false false u so = so

at-name : (f : Name → Bool) (tie p : Bool) (other name : Name) → eq_by_cmp name_cmp other name ≡ tie
    → (f name && tie) ≡ (f other && tie)
at-name f true p other name e = ap (λ (n : Name). f n && true)
    (sym (name_cmp-IsAntisymmetric other name (tied (name_cmp other name) e)))
at-name f false p other name e = off (f name) ∙ sym (off (f other))
  where
    off : (b : Bool) → (b && false) ≡ false
    off true = refl
    off false = refl

pub between-goes : (old new : CellValue) (done : List Name) (name : Name) (before left after : UsersValue)
    → AreBetween old new done before
    → ((edge other : Name) → is_user left edge other ≡ (not (points_to_any edge (pointers_at old name)
    && same_name name other) && is_user before edge other))
    → ((edge other : Name) → is_user after edge other ≡ ((points_to_any edge (pointers_at new name)
    && same_name name other) || is_user left edge other))
    → AreBetween old new (done ++ name ∷ []) after
between-goes old new done name before left after so taken put edge other =
    let tie = eq_by_cmp name_cmp other name in
    let news : Name → Bool = λ n. points_to_any edge (pointers_at new n) in
    let olds : Name → Bool = λ n. points_to_any edge (pointers_at old n) in
    put edge other
    ∙ (λ i. (news name && sym (ties-same other name) i) || taken edge other i)
    ∙ (λ i. (at-name news tie true other name refl i) || (not (olds name && sym (ties-same other name) i)
    && is_user before edge other))
    ∙ (λ i. (news other && tie) || (not (at-name olds tie true other name refl i) && is_user before edge other))
    ∙ renewed (is_among done other) tie (news other) (olds other) (is_user before edge other) (so edge other)
    ∙ ap (λ b. cond b (news other) (olds other)) (sym (among-push done name other))

-- ---- at the end

same-or-not : (p q : Bool) → (p ≢ q → ⊥) → p ≡ q
same-or-not true true h = refl
same-or-not false false h = refl
same-or-not true false h = absurd (h (λ e. cc))
same-or-not false true h = absurd (h (λ e. cc))

pub between-ends : (old new : CellValue) (changed : List Name) (users : UsersValue) → HasChanged old new changed
    → AreBetween old new changed users → AreUsersOf new users
between-ends old new changed users has so =
    are-users new users (λ edge name. so edge name ∙ all_done edge name (is_among changed name) refl)
  where
    all_done : (edge name : Name) (b : Bool) → is_among changed name ≡ b
        → cond b (points_to_any edge (pointers_at new name)) (points_to_any edge (pointers_at old name))
        ≡ points_to_any edge (pointers_at new name)
    all_done edge name true e = refl
    all_done edge name false e =
        same-or-not _ _ (λ differ.
        let there = list_any-from_Contains (eq_by_cmp_equiv name_cmp-total) name changed
        (has name (λ same. differ (ap (λ o. points_to_any edge (pointers_in o)) same))) in
        let clash : true ≡ false = sym there ∙ e in
        cc)

-- ---- a success, and the steps

pub on-ok : {E A B : Type 0} (r : Result (Unit {0}) E) → (A → B) → OnOk r A → OnOk r B
on-ok (Ok u) to h = to h
on-ok (Err e) to h = tt

-- the names that are done and the next are among all
pub counted-next : (names : List Name) (i : ℕ) (d : Name) → i < length names
    → length (feature_names (take i names)) + length (feature_names (get_or names i d ∷ [])) ≤ length
    (feature_names names)
counted-next [] i d fits = absurd (omega (arith, fits))
counted-next (x ∷ names) zero d fits =
    elim (x.rcnm == 100) as (λ b. 0 + length (cond b (x ∷ []) []) ≤ length
    (cond b (x ∷ feature_names names) (feature_names names))) [
      | true ↦ omega arith
      | false ↦ omega arith
    ]
counted-next (x ∷ names) (suc i) d fits =
    let rest = counted-next names i d (omega (arith, fits)) in
    elim (x.rcnm == 100) as (λ b. length (cond b (x ∷ feature_names (take i names)) (feature_names (take i names))) +
    length (feature_names (get_or names i d ∷ [])) ≤ length
    (cond b (x ∷ feature_names names) (feature_names names))) [
      | true ↦ omega (arith, rest)
      | false ↦ rest
    ]

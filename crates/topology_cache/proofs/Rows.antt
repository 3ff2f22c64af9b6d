-- Users row by row, and the tree that is made of the rows.
use Rattle.std.proofs.Common.{◌≡◌, ◌≢◌, ℕ, ◌<◌, ◌≤◌, length, slice_index_or, slice_set, Bool, true, false, cond, T, List, [], ◌∷◌, Option, Some, None, refl, sym, ap, ◌∙◌, subst}
use Rattle.std.specs.Prelude.{Result, OnOk, OnErr}
use Rattle.std.specs.declared.cmp.Ordering.TheVariants.{Less, Equal, Greater}
use Rattle.std.specs.Ordering.{eq_by_cmp}
use Rattle.std.specs.Cmp.{eq_by_cmp_equiv}
use Rattle.std.specs.List.{HoldsAt, insert}
use Rattle.std.specs.List.Sorted.{IsPartitionPoint}
use Rattle.std.specs.Map.{lookup, update, update_all}
use Rattle.std.specs.BTreeMap.{is_at}
use Rattle.std.specs.Option.{unwrap_or}
use Rattle.std.specs.FinMap as finite
use Rattle.std.specs.FinMap.{find, is_sorted}
use Rattle.chart_model.specs.declared.name.Name.{Name}
use Rattle.chart_model.specs.Names.{name_cmp}
use Rattle.chart_model.proofs.Names.{name_cmp-total, name_cmp-IsAntisymmetric}
use Rattle.chart_model.proofs.Maps.{tied, each-empty}
use Rattle.chart_model.proofs.SortedEntries.{first, second}
use Rattle.chart_model.proofs.PageBlocks.{entry-edit, entry-insert, entry-absent}
use Rattle.chart_model.proofs.Trees.{get-tree, entries-empty}
use Rattle.topology_cache.specs.Users.{Names, UsersValue, HasNoEmpty, set_at}
use Rattle.topology_cache.specs.Sets.{AreUserRows}
use Rattle.topology_cache.proofs.Cells.{find-below}
use Rattle.topology_cache.proofs.Uses.{IsFilled, none-empty-insert, filled-put, filled-there, filled-one}
use Rattle.topology_cache.proofs.Uses.{written-put, written-first}

-- what is found, or else another
abbrev or_else : {X : Type 0} → Option X → Option X → Option X
or_else (Some x) other = Some x
or_else None other = other

-- entries in order, put one after the other over others
module _ {X : Type 0} where
  one-made : (b : Bool) (e : Name × X) (later other : Option X) → (b ≡ true → later ≡ None)
      → or_else later (cond b (Some e.1) other) ≡ or_else (cond b (Some e.1) later) other
  one-made true e later other none = ap (λ o. or_else o (Some e.1)) (none refl)
  one-made false e later other none = refl

  made : (f : Name → Option X) (es : List (Name × X)) (q : Name) → T (is_sorted name_cmp es)
      → update_all (eq_by_cmp name_cmp) f es q ≡ or_else (find name_cmp q es) (f q)
  made f [] q sorted = refl
  made f (e ∷ es) q sorted =
      made (update (eq_by_cmp name_cmp) f e.0 (Some e.1)) es q (second _ _ sorted)
      ∙ ap (λ b. or_else (find name_cmp q es) (cond b (Some e.1) (f q)))
      ((eq_by_cmp_equiv name_cmp-total).symm e.0 q)
      ∙ one-made (eq_by_cmp name_cmp q e.0) e (find name_cmp q es) (f q)
      (λ tie. ap (λ (n : Name). find name_cmp n es) (name_cmp-IsAntisymmetric q e.0 (tied (name_cmp q e.0) tie))
      ∙ find-below e.0 es (first _ _ sorted))

  pub no-rows : ◌≡◌ {A = finite.FinMap name_cmp X} (finite.from_sorted []) finite.empty
  no-rows = finite.same_entries_map _ _ (finite.entries-from_sorted name_cmp [] tt ∙ sym (entries-empty name_cmp X))

  alone : (o : Option X) → or_else o None ≡ o
  alone None = refl
  alone (Some x) = refl

  pub tree-made : (rows new : List (Name × X)) → T (is_sorted name_cmp rows)
      → ((q : Name) → lookup (is_at (name_cmp q)) new ≡ update_all (eq_by_cmp name_cmp) (λ _. None) rows q)
      → finite.from_entries {R = name_cmp} new ≡ finite.from_sorted rows
  tree-made rows new sorted is =
      finite.same_map name_cmp-total name_cmp-IsAntisymmetric _ _ (λ q.
      get-tree name_cmp-total new q
      ∙ is q
      ∙ made (λ _. None) rows q sorted
      ∙ alone (find name_cmp q rows)
      ∙ sym (finite.get-from_sorted name_cmp rows q sorted))

-- ---- the rows of users

pub no-user-rows : AreUserRows []
no-user-rows = record { sorted = tt; filled = subst HasNoEmpty (sym no-rows) (each-empty name_cmp IsFilled) }

module _ (rows : List (Name × Names)) (edge user : Name) (good : AreUserRows rows) where
  abbrev pub IsAdded : List (Name × Names) → Type 0
  IsAdded new = finite.from_sorted {R = name_cmp} new ≡ finite.insert (finite.from_sorted {R = name_cmp} rows) edge
      (finite.insert (set_at (finite.from_sorted {R = name_cmp} rows) edge) user tt)

  -- to a record that has users already, unless there was no memory
  pub added-there : {E : Type 0} (r : Result (Unit {0}) E) (i : ℕ) (row : Name × Names) (new : Names)
      → row ≡ slice_index_or rows i row → i < length rows → HoldsAt (λ other. name_cmp other.0 edge ≡ Equal) rows i
      → OnOk r (new ≡ finite.insert row.1 user tt) → OnErr r (new ≡ row.1)
      → AreUserRows (slice_set rows i (row.0, new)) × OnOk r (IsAdded (slice_set rows i (row.0, new)))
  added-there r i row new is fits at put kept =
      let edit = entry-edit rows edge good.sorted i row is fits at in
      let filled = filled-there (finite.from_sorted rows) edge row.1 good.filled edit.0 in (
        record {
          sorted = (edit.1 new).1;
          filled = subst HasNoEmpty (sym (edit.1 new).0)
              (none-empty-insert (finite.from_sorted rows) edge new good.filled
              (filled-put r row.1 new user put kept filled));
        },
        written-put r (finite.from_sorted rows) (finite.from_sorted (slice_set rows i (row.0, new))) edge user row.1
            new edit.0 (edit.1 new).0 put,
      )

  pub added-more : (m : UsersValue) → finite.from_sorted rows ≡ m → (i : ℕ) (row : Name × Names) (new : Names)
      → row ≡ slice_index_or rows i row → i < length rows → HoldsAt (λ other. name_cmp other.0 edge ≡ Equal) rows i
      → new ≡ finite.insert row.1 user tt
      → finite.from_sorted (slice_set rows i (row.0, new)) ≡ finite.insert m edge (finite.insert (set_at m edge) user tt)
  added-more m seen i row new is fits at put =
      let edit = entry-edit rows edge good.sorted i row is fits at in
      (edit.1 new).0
      ∙ ap (finite.insert (finite.from_sorted rows) edge)
      (put ∙ ap (λ (o : Option Names). finite.insert (unwrap_or o finite.empty) user tt) (sym edit.0))
      ∙ ap (λ (u : UsersValue). finite.insert u edge (finite.insert (set_at u edge) user tt)) seen

  -- to one that has none
  pub added-first : (i : ℕ) (names : Names) → i ≤ length rows
      → IsPartitionPoint (λ other. name_cmp other.0 edge ≡ Less) (λ other. name_cmp other.0 edge ≡ Greater) rows i
      → names ≡ finite.insert finite.empty user tt
      → AreUserRows (insert rows i (edge, names)) × IsAdded (insert rows i (edge, names))
  added-first i names fits parted first =
      let put = entry-insert rows edge good.sorted names i fits parted in
      let absent = entry-absent rows edge good.sorted i fits parted in (
        record {
          sorted = put.1;
          filled = subst HasNoEmpty (sym put.0)
              (none-empty-insert (finite.from_sorted rows) edge names good.filled
              (subst (λ (s : Names). finite.len s ≢ 0) (sym first) (filled-one user)));
        },
        put.0 ∙ written-first (finite.from_sorted rows) edge user names absent first,
      )

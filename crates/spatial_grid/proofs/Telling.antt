-- Names of boxes that meet an area, as more are told.
use Rattle.std.proofs.Common.{◌≡◌, ◌⊎◌, inl, inr, ℕ, ◌+◌, ◌*◌, ◌<◌, ◌≤◌, List, [], ◌∷◌, ◌++◌, length, get_or, Some, sym, ap, ◌∙◌, subst, arith}
use Rattle.std.specs.List.{Contains, slice_get}
use Rattle.std.proofs.lemmas.Bool.{cases_lt}
use Rattle.std.proofs.lemmas.List.{get_or_default}
use Rattle.std.proofs.lemmas.List.Elements.{Contains-push_cases}
use Rattle.std.proofs.lemmas.Option.{slice_get_within, get_or_from_slice_get}
use Rattle.common_lemmas.proofs.Choices.{some_is}
use Rattle.chart_model.specs.declared.name.Name.{Name}
use Rattle.plane_bounds.specs.declared.bounds.Bounds.{Bounds}
use Rattle.plane_bounds.specs.Bounds.{Meets}
use Rattle.spatial_grid.specs.declared.entry.Entry.{Entry}
use Rattle.spatial_grid.specs.Buckets.{Keeps}
use Rattle.spatial_grid.specs.Met.{IsMet, Adds, Tells, IsTold, AreTold, AreToldBetween, AreToldIn}
use Rattle.spatial_grid.proofs.Standing.{keeps_itself, keeps_then, keeps_pushed, pushed_there}

module _ (boxes : List (Name × Bounds)) (area : Bounds) where
  pub adds_none : (names : List Name) → Adds boxes area names names
  adds_none names = record { kept = keeps_itself names; sound = λ name h. inl h }

  pub adds_then : (a b c : List Name) → Adds boxes area a b → Adds boxes area b c → Adds boxes area a c
  adds_then a b c h k = record {
    kept = keeps_then a b c h.kept k.kept;
    sound = λ name there. elim (k.sound name there) [ inl q ↦ h.sound name q | inr q ↦ inr q ];
  }

  pub tells_kept : (place : ℕ) (old new : List Name) → Keeps old new → Tells boxes area place old → Tells boxes area place new
  tells_kept place old new kept told boxed e meets = kept boxed.0 (told boxed e meets)

  -- ---- a place

  -- where no box stands
  pub told_nowhere : (place : ℕ) (names : List Name) → length boxes ≤ place → IsTold boxes area place names names
  told_nowhere place names past = record {
    adds = adds_none names;
    told = λ boxed e meets. absurd (omega (arith, past, slice_get_within boxes place boxed e));
  }

  one_box : (place : ℕ) (boxed other : Name × Bounds) → slice_get boxes place ≡ Some boxed → slice_get boxes place ≡ Some other → boxed ≡ other
  one_box place boxed other e f = some_is boxed other (sym e ∙ f)

  -- where one stands that is apart from the area
  pub told_apart : (place : ℕ) (boxed : Name × Bounds) (names : List Name) → slice_get boxes place ≡ Some boxed → (Meets boxed.1 area → ⊥) → IsTold boxes area place names names
  told_apart place boxed names e apart = record {
    adds = adds_none names;
    told = λ other f meets. absurd (apart (subst (λ (b : Name × Bounds). Meets b.1 area) (one_box place other boxed f e) meets));
  }

  -- where one stands that meets it
  pub told_more : (place : ℕ) (boxed : Name × Bounds) (old new : List Name) → slice_get boxes place ≡ Some boxed → Meets boxed.1 area → new ≡ old ++ boxed.0 ∷ []
      → IsTold boxes area place old new
  told_more place boxed old new e meets pushed = record {
    adds = record {
      kept = keeps_pushed old new boxed.0 pushed;
      sound = λ name h.
          elim (Contains-push_cases old boxed.0 name (subst (λ l. Contains l name) pushed h)) [
            | inl q ↦ inl q
            | inr same ↦ inr (subst (IsMet boxes area) same (record { box = boxed.1; there = there; meets = meets }))
          ];
    };
    told = λ other f _. subst (λ (b : Name × Bounds). Contains new b.0) (one_box place boxed other e f) (pushed_there old new boxed.0 pushed);
  }
    where
      there : Contains boxes (boxed.0, boxed.1)
      there = (place, slice_get_within boxes place boxed e, get_or_from_slice_get boxes place boxed boxed e)

  -- ---- entries

  step : (k i : ℕ) → k < i + 1 → (k < i) ⊎ (k ≡ i)
  step k i lt = elim (cases_lt k i) [ inl h ↦ inl h | inr h ↦ inr (omega arith) ]

  -- those before a place are told
  pub record AreToldBefore (entries : List Entry) (end : ℕ) (initial names : List Name) : Type 0 where
    pub adds : Adds boxes area initial names
    pub told : (k : ℕ) (d : Entry) → k < end → Tells boxes area (get_or entries k d).place names

  pub told_none_yet : (entries : List Entry) (names : List Name) → AreToldBefore entries 0 names names
  told_none_yet entries names = record { adds = adds_none names; told = λ k d lt. absurd (omega (arith, lt)) }

  pub told_next : (entries : List Entry) (end : ℕ) (d : Entry) (initial old new : List Name) → end < length entries → AreToldBefore entries end initial old
      → IsTold boxes area (get_or entries end d).place old new → AreToldBefore entries (end + 1) initial new
  told_next entries end d initial old new within before here = record {
    adds = adds_then initial old new before.adds here.adds;
    told = λ k e lt.
        elim (step k end lt) [
          | inl h ↦ tells_kept (get_or entries k e).place old new here.adds.kept (before.told k e h)
          | inr same ↦
              subst (λ (entry : Entry). Tells boxes area entry.place new)
              (get_or_default entries end d e within ∙ ap (λ (i : ℕ). get_or entries i e) (sym same)) here.told
        ];
  }

  pub told_all : (entries : List Entry) (end : ℕ) (initial names : List Name) → length entries ≤ end → AreToldBefore entries end initial names
      → AreTold boxes area entries initial names
  told_all entries end initial names past before = record {
    adds = before.adds;
    told = λ entry there.
        subst (λ (e : Entry). Tells boxes area e.place names) there.2 (before.told there.0 entry (omega (arith, past, there.1)));
  }

  -- ---- rows

  pub record AreToldRows (entries : List Entry) (low end first last : ℕ) (initial names : List Name) : Type 0 where
    pub adds : Adds boxes area initial names
    pub told : (row column place : ℕ) → low ≤ row → row < end → first ≤ column → column ≤ last
        → Contains entries (record { bucket = row * 64 + column; place = place }) → Tells boxes area place names

  pub told_no_row : (entries : List Entry) (low first last : ℕ) (names : List Name) → AreToldRows entries low low first last names names
  told_no_row entries low first last names = record {
    adds = adds_none names;
    told = λ row column place a b c d there. absurd (omega (arith, a, b));
  }

  pub told_row : (entries : List Entry) (low end first last : ℕ) (initial old new : List Name) → AreToldRows entries low end first last initial old
      → AreToldBetween boxes area entries (end * 64 + first) (end * 64 + last) old new → AreToldRows entries low (end + 1) first last initial new
  told_row entries low end first last initial old new before here = record {
    adds = adds_then initial old new before.adds here.adds;
    told = λ row column place a b c d there.
        elim (step row end b) [
          | inl h ↦ tells_kept place old new here.adds.kept (before.told row column place a h c d there)
          | inr same ↦
              here.told (record { bucket = row * 64 + column; place = place }) there (omega (arith, same, c)) (omega (arith, same, d))
        ];
  }

  pub told_rows : (entries : List Entry) (low high end first last : ℕ) (initial names : List Name) → high < end → AreToldRows entries low end first last initial names
      → AreToldIn boxes area entries low high first last initial names
  told_rows entries low high end first last initial names past before = record {
    adds = before.adds;
    told = λ row column place a b c d there. before.told row column place a (omega (arith, past, b)) c d there;
  }

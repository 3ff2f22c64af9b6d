-- The records of all pages as one map: found, put and taken out on their pages.
use Rattle.std.proofs.Common.{◌≡◌, ◌≢◌, ℕ, ◌+◌, ◌-◌, ◌≤◌, Bool, true, false, cond, ◌&&◌, T, List, [], ◌∷◌, ◌++◌, Option, Some, None, IfSome, refl, sym, ap, subst, ◌∙◌, arith, eqb→eq, ◌==◌}
use Rattle.std.proofs.lemmas.Bool.Decides.{nat_tests}
use Rattle.std.specs.Option.{is_some, option_and_then}
use Rattle.std.specs.declared.cmp.Ordering.{Ordering}
use Rattle.std.specs.declared.cmp.Ordering.TheVariants.{Less}
use Rattle.std.specs.Ordering.{is_lt, is_eq, eq_by_cmp}
use Rattle.std.specs.Cmp.{IsTotalOrder, tied_itself}
use Rattle.std.specs.FinMap as map
use Rattle.std.specs.FinMap.{FinMap, IsAntisymmetric, find, is_sorted}
use Rattle.std.specs.FinMap.Entries.{below_all}
use Rattle.chart_model.specs.declared.name.Name.{Name}
use Rattle.chart_model.specs.declared.page_map.PageName.{PageName}
use Rattle.chart_model.specs.Names.{name_cmp, edited_at, edited_in}
use Rattle.chart_model.specs.Pages.{page_cmp, page_of, flatten, names_of, is_alone, AreFull, IsOn, IsPage, ArePages}
use Rattle.chart_model.proofs.Maps.{Each, each-insert, each-remove, each-empty, insert-same, tied}
use Rattle.chart_model.proofs.Names.{name_cmp-total, name_cmp-IsAntisymmetric}
use Rattle.chart_model.proofs.PageNames.{page_cmp-total, page_cmp-IsAntisymmetric, name-below}
use Rattle.chart_model.proofs.Trees.{entries-empty}
use Rattle.chart_model.proofs.SortedEntries.{first, second, less}

both : (a b : Bool) → T a → T b → T (a && b)
both true b p q = q
both false b p q = p

-- the first of two, where it is there
abbrev pub or_else : {X : Type 0} → Option X → Option X → Option X
or_else None y = y
or_else (Some x) y = Some x

pub or_else-None : {X : Type 0} (o : Option X) → or_else o None ≡ o
or_else-None None = refl
or_else-None (Some x) = refl

-- ---- entries in the strictly rising order of their keys

module _ {K X : Type 0} (R : K → K → Ordering) where
  -- each entry has the fact
  abbrev pub EachEntry : (K → X → Type 0) → List (K × X) → Type 0
  EachEntry P [] = Unit {0}
  EachEntry P (e ∷ es) = P e.0 e.1 × EachEntry P es

  pub find-below : (k : K) (es : List (K × X)) → T (below_all R k es) → find R k es ≡ None
  find-below k [] below = refl
  find-below k (e ∷ es) below = ap (λ b. cond b (Some e.1) (find R k es)) (ap is_eq (less _ (first _ _ below))) ∙ find-below k es (second _ _ below)

  below-append : (k : K) (es fs : List (K × X)) → T (below_all R k es) → T (below_all R k fs) → T (below_all R k (es ++ fs))
  below-append k [] fs here more = more
  below-append k (e ∷ es) fs here more = both _ _ (first _ _ here) (below-append k es fs (second _ _ here) more)

  sorted-append : (es fs : List (K × X)) → T (is_sorted R es) → T (is_sorted R fs) → EachEntry (λ k _. T (below_all R k fs)) es → T (is_sorted R (es ++ fs))
  sorted-append [] fs here more below = more
  sorted-append (e ∷ es) fs here more below =
      both _ _ (below-append e.0 es fs (first _ _ here) below.0) (sorted-append es fs (second _ _ here) more below.1)

  find-append : (k : K) (es fs : List (K × X)) → find R k (es ++ fs) ≡ or_else (find R k es) (find R k fs)
  find-append k [] fs = refl
  find-append k (e ∷ es) fs =
      elim (eq_by_cmp R k e.0) as (λ b. cond b (Some e.1) (find R k (es ++ fs)) ≡ or_else (cond b (Some e.1) (find R k es)) (find R k fs)) [
        | true ↦ refl
        | false ↦ find-append k es fs
      ]

  module _ (total : IsTotalOrder R) (same : IsAntisymmetric R) (P : K → X → Type 0) where
    shadowed : (k : K) (e : K × X) (es : List (K × X)) → T (below_all R e.0 es) → IfSome (find R k (e ∷ es)) (P k) → IfSome (find R k es) (P k)
    shadowed k e es below found =
        elim (eq_by_cmp R k e.0) as (λ b. eq_by_cmp R k e.0 ≡ b → IfSome (cond b (Some e.1) (find R k es)) (P k) → IfSome (find R k es) (P k)) [
          | true ↦ λ t _. subst (λ o. IfSome o (P k)) (sym (subst (λ q. find R q es ≡ None) (sym (same k e.0 (tied (R k e.0) t))) (find-below e.0 es below))) tt
          | false ↦ λ _ h. h
        ] refl found

    -- what holds of what is found holds of each entry
    pub each-entry : (es : List (K × X)) → T (is_sorted R es) → ((k : K) → IfSome (find R k es) (P k)) → EachEntry P es
    each-entry [] sorted found = tt
    each-entry (e ∷ es) sorted found = (
      subst (λ r. IfSome (cond (is_eq r) (Some e.1) (find R e.0 es)) (P e.0)) (tied_itself total e.0) (found e.0),
      each-entry es (second _ _ sorted) (λ k. shadowed k e es (first _ _ sorted) (found k)),
    )

    pub each-of-map : (m : FinMap R X) → Each P m → EachEntry P (map.entries m)
    each-of-map m each = each-entry (map.entries m) (map.entries_sorted m) (λ k. subst (λ o. IfSome o (P k)) (map.get-entries m k) (each k))

-- ---- the records of pages

same-page : (q name : Name) → eq_by_cmp page_cmp (page_of q) (page_of name) ≡ false → eq_by_cmp name_cmp q name ≡ false
same-page q name apart =
    elim (eq_by_cmp name_cmp q name) as (λ b. eq_by_cmp name_cmp q name ≡ b → b ≡ false) [
      | true ↦ λ t. absurd (subst T (sym (ap is_eq (ap (λ n. page_cmp (page_of q) (page_of n)) (sym (name_cmp-IsAntisymmetric q name (tied _ t))) ∙ tied_itself page_cmp-total (page_of q))) ∙ apart) tt)
      | false ↦ λ t. refl
    ] refl

-- a name ties with itself
itself : (name : Name) → eq_by_cmp name_cmp name name ≡ true
itself name = ap is_eq (tied_itself name_cmp-total name)

more-left : (n m : ℕ) → (n == 1) ≡ false → n ≢ 0 → m ≡ n - 1 → m ≢ 0
more-left n m more some is none = grind (arith, nat_tests)

module _ {X : Type 0} where
  -- the record on its page, where there is that page
  abbrev pub on_page : Name → Option (FinMap name_cmp X) → Option X
  on_page name records = option_and_then (λ m. map.get m name) records

  abbrev ArePlaced : List (PageName × FinMap name_cmp X) → Type 0
  ArePlaced es = EachEntry page_cmp IsOn es

  elsewhere : (name : Name) (page : PageName) (o : Option X) → eq_by_cmp page_cmp (page_of name) page ≡ false → IfSome o (λ _. page_of name ≡ page) → o ≡ None
  elsewhere name page None apart on = refl
  elsewhere name page (Some x) apart on = absurd (subst T (sym (ap is_eq (ap (page_cmp (page_of name)) (sym on) ∙ tied_itself page_cmp-total (page_of name))) ∙ apart) tt)

  -- the first of the pages, and the others
  here-or-later : (name : Name) (page : PageName) (records : FinMap name_cmp X) (es : List (PageName × FinMap name_cmp X)) → T (below_all page_cmp page es) → IsOn page records
      → (b : Bool) → eq_by_cmp page_cmp (page_of name) page ≡ b
      → or_else (map.get records name) (on_page name (find page_cmp (page_of name) es)) ≡ on_page name (cond b (Some records) (find page_cmp (page_of name) es))
  here-or-later name page records es below on true t =
      ap (λ o. or_else (map.get records name) (on_page name o)) (subst (λ q. find page_cmp q es ≡ None) (sym (page_cmp-IsAntisymmetric (page_of name) page (tied _ t))) (find-below page_cmp page es below))
      ∙ or_else-None (map.get records name)
  here-or-later name page records es below on false t =
      ap (λ o. or_else o (on_page name (find page_cmp (page_of name) es))) (elsewhere name page (map.get records name) t (on name))

  find-flat : (name : Name) (es : List (PageName × FinMap name_cmp X)) → T (is_sorted page_cmp es) → ArePlaced es
      → find name_cmp name (flatten es) ≡ on_page name (find page_cmp (page_of name) es)
  find-flat name [] sorted placed = refl
  find-flat name (e ∷ es) sorted placed =
      find-append name_cmp name (map.entries e.1) (flatten es)
      ∙ (λ i. or_else (sym (map.get-entries e.1 name) i) (find-flat name es (second _ _ sorted) placed.1 i))
      ∙ here-or-later name e.0 e.1 es (first _ _ sorted) placed.0 (eq_by_cmp page_cmp (page_of name) e.0) refl

  -- a record is found on its page
  pub get-names : (pages : FinMap page_cmp (FinMap name_cmp X)) → Each IsOn pages → (name : Name) → map.get (names_of pages) name ≡ on_page name (map.get pages (page_of name))
  get-names pages placed name =
      map.get-from_entries name_cmp-total (flatten (map.entries pages)) name
      ∙ find-flat name (map.entries pages) (map.entries_sorted pages) (each-of-map page_cmp page_cmp-total page_cmp-IsAntisymmetric IsOn pages placed)
      ∙ ap (on_page name) (sym (map.get-entries pages (page_of name)))

  -- ---- the records in the names' order

  below-page : (name : Name) (page : PageName) (es : List (Name × X)) → page_cmp (page_of name) page ≡ Less → EachEntry name_cmp (λ n _. page_of n ≡ page) es → T (below_all name_cmp name es)
  below-page name page [] below on = tt
  below-page name page (e ∷ es) below on =
      both _ _ (subst (λ o. T (is_lt o)) (sym (name-below name e.0 (ap (page_cmp (page_of name)) on.0 ∙ below))) tt) (below-page name page es below on.1)

  page-entries : (page : PageName) (records : FinMap name_cmp X) → IsOn page records → EachEntry name_cmp (λ n _. page_of n ≡ page) (map.entries records)
  page-entries page records on = each-of-map name_cmp name_cmp-total name_cmp-IsAntisymmetric (λ n _. page_of n ≡ page) records on

  below-flat : (name : Name) (page : PageName) (es : List (PageName × FinMap name_cmp X)) → page_of name ≡ page → T (below_all page_cmp page es) → ArePlaced es
      → T (below_all name_cmp name (flatten es))
  below-flat name page [] is below placed = tt
  below-flat name page (e ∷ es) is below placed =
      below-append name_cmp name (map.entries e.1) (flatten es)
      (below-page name e.0 (map.entries e.1) (ap (λ p. page_cmp p e.0) is ∙ less _ (first _ _ below)) (page-entries e.0 e.1 placed.0))
      (below-flat name page es is (second _ _ below) placed.1)

  each-below : (page : PageName) (es : List (Name × X)) (fs : List (PageName × FinMap name_cmp X)) → EachEntry name_cmp (λ n _. page_of n ≡ page) es → T (below_all page_cmp page fs) → ArePlaced fs
      → EachEntry name_cmp (λ n _. T (below_all name_cmp n (flatten fs))) es
  each-below page [] fs on below placed = tt
  each-below page (e ∷ es) fs on below placed = (below-flat e.0 page fs on.0 below placed, each-below page es fs on.1 below placed)

  sorted-flat : (es : List (PageName × FinMap name_cmp X)) → T (is_sorted page_cmp es) → ArePlaced es → T (is_sorted name_cmp (flatten es))
  sorted-flat [] sorted placed = tt
  sorted-flat (e ∷ es) sorted placed =
      sorted-append name_cmp (map.entries e.1) (flatten es) (map.entries_sorted e.1) (sorted-flat es (second _ _ sorted) placed.1)
      (each-below e.0 (map.entries e.1) es (page-entries e.0 e.1 placed.0) (first _ _ sorted) placed.1)

  -- page by page they are the entries of the map
  pub entries-names : (pages : FinMap page_cmp (FinMap name_cmp X)) → Each IsOn pages → map.entries (names_of pages) ≡ flatten (map.entries pages)
  entries-names pages placed =
      let flat = flatten (map.entries pages) in
      let sorted = sorted-flat (map.entries pages) (map.entries_sorted pages) (each-of-map page_cmp page_cmp-total page_cmp-IsAntisymmetric IsOn pages placed) in
      ap map.entries
      (map.same_map name_cmp-total name_cmp-IsAntisymmetric (names_of pages) (map.from_sorted flat)
      (λ q. map.get-from_entries name_cmp-total flat q ∙ sym (map.get-from_sorted name_cmp flat q sorted)))
      ∙ map.entries-from_sorted name_cmp flat sorted

  -- ---- a change of what stands under one name

  -- one page is other than before, and on it what stands under the name
  pub record IsChanged (old new : FinMap page_cmp (FinMap name_cmp X)) (name : Name) (after : Option (FinMap name_cmp X)) (value : Option X) : Type 0 where
    pub pages : (page : PageName) → map.get new page ≡ cond (eq_by_cmp page_cmp page (page_of name)) after (map.get old page)
    pub page : (q : Name) → on_page q after ≡ cond (eq_by_cmp name_cmp q name) value (on_page q (map.get old (page_of name)))

  get-changed : (old new : FinMap page_cmp (FinMap name_cmp X)) (name : Name) (after : Option (FinMap name_cmp X)) (value : Option X)
      → Each IsOn old → Each IsOn new → IsChanged old new name after value
      → (q : Name) → map.get (names_of new) q ≡ cond (eq_by_cmp name_cmp q name) value (map.get (names_of old) q)
  get-changed old new name after value placed placed' changed q =
      get-names new placed' q
      ∙ ap (on_page q) (changed.pages (page_of q))
      ∙ elim (eq_by_cmp page_cmp (page_of q) (page_of name)) as (λ b. eq_by_cmp page_cmp (page_of q) (page_of name) ≡ b → on_page q (cond b after (map.get old (page_of q))) ≡ cond (eq_by_cmp name_cmp q name) value (on_page q (map.get old (page_of q)))) [
        | true ↦ λ t. changed.page q ∙ ap (λ p. cond (eq_by_cmp name_cmp q name) value (on_page q (map.get old p))) (sym (page_cmp-IsAntisymmetric (page_of q) (page_of name) (tied _ t)))
        | false ↦ λ t. ap (λ b. cond b value (on_page q (map.get old (page_of q)))) (sym (same-page q name t))
      ] refl
      ∙ ap (cond (eq_by_cmp name_cmp q name) value) (sym (get-names old placed q))

  pub inserted : (old new : FinMap page_cmp (FinMap name_cmp X)) (name : Name) (after : Option (FinMap name_cmp X)) (value : X)
      → Each IsOn old → Each IsOn new → IsChanged old new name after (Some value) → names_of new ≡ map.insert (names_of old) name value
  inserted old new name after value placed placed' changed =
      map.same_map name_cmp-total name_cmp-IsAntisymmetric _ _ (λ q.
      get-changed old new name after (Some value) placed placed' changed q ∙ sym (map.get-insert name_cmp-total (names_of old) name value q))

  pub removed : (old new : FinMap page_cmp (FinMap name_cmp X)) (name : Name) (after : Option (FinMap name_cmp X))
      → Each IsOn old → Each IsOn new → IsChanged old new name after None → names_of new ≡ map.remove (names_of old) name
  removed old new name after placed placed' changed =
      map.same_map name_cmp-total name_cmp-IsAntisymmetric _ _ (λ q.
      get-changed old new name after None placed placed' changed q ∙ sym (map.get-remove name_cmp-total (names_of old) name q))

  -- ---- the changes of the map

  pub placed : (pages : FinMap page_cmp (FinMap name_cmp X)) → ArePages pages → Each IsOn pages
  placed pages each page =
      elim (map.get pages page) as (λ o. IfSome o (IsPage page) → IfSome o (IsOn page)) [ None ↦ λ h. h | Some records ↦ λ h. h.placed ] (each page)

  no-record : (records : FinMap name_cmp X) (name : Name) (v : X) → map.get records name ≡ Some v → map.len records ≢ 0
  no-record records name v there none =
      absurd (subst (λ (o : Option X). T (is_some o)) (sym there ∙ ap (λ m. map.get m name) (map.empty_of_len records none) ∙ map.get-empty name_cmp name) tt)

  IsPage-insert : (page : PageName) (records : FinMap name_cmp X) (name : Name) (v : X) → IsOn page records → page_of name ≡ page → IsPage page (map.insert records name v)
  IsPage-insert page records name v on is = record {
    placed = each-insert name_cmp-total name_cmp-IsAntisymmetric (λ n _. page_of n ≡ page) records name v on is;
    nonempty = no-record (map.insert records name v) name v (map.get-insert name_cmp-total records name v name ∙ ap (λ b. cond b (Some v) (map.get records name)) (itself name));
  }

  -- the page with a value put on it, which was as `before` or was not there
  put-before : (pages : FinMap page_cmp (FinMap name_cmp X)) → ArePages pages → (name : Name) (v : X) (before : FinMap name_cmp X)
      → ((q : Name) → map.get before q ≡ on_page q (map.get pages (page_of name))) → IsOn (page_of name) before
      → (names_of (map.insert pages (page_of name) (map.insert before name v)) ≡ map.insert (names_of pages) name v)
      × ArePages (map.insert pages (page_of name) (map.insert before name v))
  put-before pages each name v before is on =
      let page = map.insert before name v in
      let new = map.insert pages (page_of name) page in
      let each' : ArePages new = each-insert page_cmp-total page_cmp-IsAntisymmetric IsPage pages (page_of name) page each (IsPage-insert (page_of name) before name v on refl) in (
        inserted pages new name (Some page) v (placed pages each) (placed new each') (record {
          pages = map.get-insert page_cmp-total pages (page_of name) page;
          page = λ q. map.get-insert name_cmp-total before name v q ∙ ap (cond (eq_by_cmp name_cmp q name) (Some v)) (is q);
        }),
        each',
      )

  put-where : (pages : FinMap page_cmp (FinMap name_cmp X)) → ArePages pages → (name : Name) (v : X) (o : Option (FinMap name_cmp X)) → map.get pages (page_of name) ≡ o → is_some o ≡ true
      → (names_of (edited_at (λ records. map.insert records name v) pages (page_of name) o) ≡ map.insert (names_of pages) name v)
      × ArePages (edited_at (λ records. map.insert records name v) pages (page_of name) o)
  put-where pages each name v None is there = absurd (subst T (sym there) tt)
  put-where pages each name v (Some records) is there =
      put-before pages each name v records (λ q. ap (on_page q) (sym is)) (subst (λ o. IfSome o (IsOn (page_of name))) is (placed pages each (page_of name)))

  pub put-here : (pages : FinMap page_cmp (FinMap name_cmp X)) → ArePages pages → (name : Name) (v : X) → is_some (map.get pages (page_of name)) ≡ true
      → (names_of (edited_in (λ records. map.insert records name v) pages (page_of name)) ≡ map.insert (names_of pages) name v)
      × ArePages (edited_in (λ records. map.insert records name v) pages (page_of name))
  put-here pages each name v there = put-where pages each name v (map.get pages (page_of name)) refl there

  pub put-new : (pages : FinMap page_cmp (FinMap name_cmp X)) → ArePages pages → (name : Name) (v : X) → map.get pages (page_of name) ≡ None
      → (names_of (map.insert pages (page_of name) (map.insert map.empty name v)) ≡ map.insert (names_of pages) name v)
      × ArePages (map.insert pages (page_of name) (map.insert map.empty name v))
  put-new pages each name v none =
      put-before pages each name v map.empty (λ q. map.get-empty name_cmp q ∙ ap (on_page q) (sym none)) (each-empty name_cmp (λ n _. page_of n ≡ page_of name))

  -- what is edited on its page is edited in the map
  edit-record : (pages : FinMap page_cmp (FinMap name_cmp X)) → ArePages pages → (name : Name) (f : X → X) (records : FinMap name_cmp X) → map.get pages (page_of name) ≡ Some records
      → (o : Option X) → map.get records name ≡ o
      → (names_of (map.insert pages (page_of name) (edited_at f records name o)) ≡ edited_at f (names_of pages) name o)
      × ArePages (map.insert pages (page_of name) (edited_at f records name o))
  edit-record pages each name f records is None none =
      let stays = insert-same page_cmp-total page_cmp-IsAntisymmetric pages (page_of name) records is in (ap names_of stays, subst ArePages (sym stays) each)
  edit-record pages each name f records is (Some x) there =
      put-before pages each name (f x) records (λ q. ap (on_page q) (sym is)) (subst (λ o. IfSome o (IsOn (page_of name))) is (placed pages each (page_of name)))

  edit-where : (pages : FinMap page_cmp (FinMap name_cmp X)) → ArePages pages → (name : Name) (f : X → X) (o : Option (FinMap name_cmp X)) → map.get pages (page_of name) ≡ o
      → (names_of (edited_at (λ records. edited_in f records name) pages (page_of name) o) ≡ edited_at f (names_of pages) name (on_page name o))
      × ArePages (edited_at (λ records. edited_in f records name) pages (page_of name) o)
  edit-where pages each name f None is = (refl, each)
  edit-where pages each name f (Some records) is = edit-record pages each name f records is (map.get records name) refl

  pub edit-here : (pages : FinMap page_cmp (FinMap name_cmp X)) → ArePages pages → (name : Name) (f : X → X)
      → (names_of (edited_in (λ records. edited_in f records name) pages (page_of name)) ≡ edited_in f (names_of pages) name)
      × ArePages (edited_in (λ records. edited_in f records name) pages (page_of name))
  edit-here pages each name f =
      let edits = edit-where pages each name f (map.get pages (page_of name)) refl in (
        edits.0 ∙ ap (edited_at f (names_of pages) name) (sym (get-names pages (placed pages each) name)),
        edits.1,
      )

  len-where : (f : X → X) (m : FinMap name_cmp X) (name : Name) (o : Option X) → map.get m name ≡ o → map.len (edited_at f m name o) ≡ map.len m
  len-where f m name None none = refl
  len-where f m name (Some x) there =
      map.len-insert name_cmp-total m name (f x) ∙ ap (λ (o : Option X). cond (is_some o) (map.len m) (map.len m + 1)) there

  pub len-edited : (f : X → X) (m : FinMap name_cmp X) (name : Name) → map.len (edited_in f m name) ≡ map.len m
  len-edited f m name = len-where f m name (map.get m name) refl

  pub fits-on-page : (F : X → Type 0) (name : Name) (o : Option (FinMap name_cmp X)) → IfSome (on_page name o) F → IfSome o (λ records. IfSome (map.get records name) F)
  fits-on-page F name None h = tt
  fits-on-page F name (Some records) h = h

  -- without its only record a page has none
  only-record : (records : FinMap name_cmp X) (name : Name) → map.len records ≡ 1 → is_some (map.get records name) ≡ true → map.remove records name ≡ map.empty
  only-record records name one there =
      map.empty_of_len (map.remove records name)
      (map.len-remove name_cmp-total records name ∙ ap (λ b. cond b (map.len records - 1) (map.len records)) there ∙ ap (λ n. n - 1) one)

  pub take-last : (pages : FinMap page_cmp (FinMap name_cmp X)) → ArePages pages → (name : Name) (records : FinMap name_cmp X) → map.get pages (page_of name) ≡ Some records → map.len records ≡ 1
      → is_some (map.get (names_of pages) name) ≡ true
      → (names_of (map.remove pages (page_of name)) ≡ map.remove (names_of pages) name) × ArePages (map.remove pages (page_of name))
  take-last pages each name records is one there =
      let new = map.remove pages (page_of name) in
      let each' : ArePages new = each-remove page_cmp-total IsPage pages (page_of name) each in
      let found = sym (ap is_some (get-names pages (placed pages each) name ∙ ap (on_page name) is)) ∙ there in (
        removed pages new name None (placed pages each) (placed new each') (record {
          pages = map.get-remove page_cmp-total pages (page_of name);
          page = λ q. sym (ap (λ m. map.get m q) (only-record records name one found) ∙ map.get-empty name_cmp q)
              ∙ map.get-remove name_cmp-total records name q ∙ ap (λ o. cond (eq_by_cmp name_cmp q name) None (on_page q o)) (sym is);
        }),
        each',
      )

  take-where : (pages : FinMap page_cmp (FinMap name_cmp X)) → ArePages pages → (name : Name) (o : Option (FinMap name_cmp X)) → map.get pages (page_of name) ≡ o → is_alone o ≡ false
      → is_some (on_page name o) ≡ true
      → (names_of (edited_at (λ records. map.remove records name) pages (page_of name) o) ≡ map.remove (names_of pages) name)
      × ArePages (edited_at (λ records. map.remove records name) pages (page_of name) o)
  take-where pages each name None is more there = absurd (subst T (sym there) tt)
  take-where pages each name (Some records) is more there =
      let left = map.remove records name in
      let new = map.insert pages (page_of name) left in
      let page = subst (λ o. IfSome o (IsPage (page_of name))) is (each (page_of name)) in
      let page' : IsPage (page_of name) left = record {
        placed = each-remove name_cmp-total (λ n _. page_of n ≡ page_of name) records name page.placed;
        nonempty = more-left (map.len records) (map.len left) more page.nonempty
            (map.len-remove name_cmp-total records name ∙ ap (λ b. cond b (map.len records - 1) (map.len records)) there);
      } in
      let each' : ArePages new = each-insert page_cmp-total page_cmp-IsAntisymmetric IsPage pages (page_of name) left each page' in (
        removed pages new name (Some left) (placed pages each) (placed new each') (record {
          pages = map.get-insert page_cmp-total pages (page_of name) left;
          page = λ q. map.get-remove name_cmp-total records name q ∙ ap (λ o. cond (eq_by_cmp name_cmp q name) None (on_page q o)) (sym is);
        }),
        each',
      )

  pub take-one : (pages : FinMap page_cmp (FinMap name_cmp X)) → ArePages pages → (name : Name) → is_alone (map.get pages (page_of name)) ≡ false → is_some (map.get (names_of pages) name) ≡ true
      → (names_of (edited_in (λ records. map.remove records name) pages (page_of name)) ≡ map.remove (names_of pages) name)
      × ArePages (edited_in (λ records. map.remove records name) pages (page_of name))
  take-one pages each name more there =
      take-where pages each name (map.get pages (page_of name)) refl more (sym (ap is_some (get-names pages (placed pages each) name)) ∙ there)

  alone-here : (o : Option (FinMap name_cmp X)) → is_alone o ≡ true → (records : FinMap name_cmp X) × (o ≡ Some records) × (map.len records ≡ 1)
  alone-here None h = absurd (subst T (sym h) tt)
  alone-here (Some records) h = (records, refl, eqb→eq (map.len records) 1 (subst T (sym h) tt))

  pub take-alone : (pages : FinMap page_cmp (FinMap name_cmp X)) → ArePages pages → (name : Name) → is_alone (map.get pages (page_of name)) ≡ true → is_some (map.get (names_of pages) name) ≡ true
      → (names_of (map.remove pages (page_of name)) ≡ map.remove (names_of pages) name) × ArePages (map.remove pages (page_of name))
  take-alone pages each name one there =
      let alone = alone-here (map.get pages (page_of name)) one in take-last pages each name alone.0 alone.1 alone.2 there

  -- ---- how many records there are

  counted : (m : FinMap name_cmp X) (name : Name) (o : Option X) → map.get m name ≡ o → is_some o ≡ true → 1 ≤ map.len m
  counted m name None is there = absurd (subst T (sym there) tt)
  counted m name (Some v) is there = omega (arith, no-record m name v is)

  pub some-counted : (m : FinMap name_cmp X) (name : Name) → is_some (map.get m name) ≡ true → 1 ≤ map.len m
  some-counted m name there = counted m name (map.get m name) refl there

  pub one-less : (m : FinMap name_cmp X) (name : Name) → is_some (map.get m name) ≡ true → map.len (map.remove m name) ≡ map.len m - 1
  one-less m name there = map.len-remove name_cmp-total m name ∙ ap (λ b. cond b (map.len m - 1) (map.len m)) there

  -- ---- no page is empty

  full : (es : List (PageName × FinMap name_cmp X)) → EachEntry page_cmp IsPage es → AreFull es
  full [] each = tt
  full (e ∷ es) each = (each.0.nonempty, full es each.1)

  pub AreFull-pages : (pages : FinMap page_cmp (FinMap name_cmp X)) → ArePages pages → AreFull (map.entries pages)
  AreFull-pages pages each = full (map.entries pages) (each-of-map page_cmp page_cmp-total page_cmp-IsAntisymmetric IsPage pages each)

module _ (X : Type 0) where
  pub ArePages-empty : ArePages (map.empty {X = FinMap name_cmp X})
  ArePages-empty = each-empty page_cmp IsPage

  pub names-empty : names_of (map.empty {X = FinMap name_cmp X}) ≡ map.empty
  names-empty = ap (λ es. map.from_entries (flatten es)) (entries-empty page_cmp (FinMap name_cmp X))

-- What is kept of each chart, in a walk over all cells, and once the chart of one of them has changed.
use Rattle.std.proofs.Common.{◌≡◌, ◌≢◌, ℕ, ◌+◌, ◌≤◌, Bool, true, false, cond, List, [], ◌∷◌, ◌++◌, T, Option, Some, None, Result, Ok, Err, refl, sym, ◌∙◌, ap, subst, arith, append-nil, append_assoc}
use Rattle.std.specs.Prelude.{OnOk, sum_by, map}
use Rattle.std.proofs.lemmas.List.Sums.{sum_by-cons}
use Rattle.std.specs.Cmp.{IsTotalOrder, tied_itself}
use Rattle.std.specs.Ordering.{eq_by_cmp, is_eq, ordering_reverse}
use Rattle.std.specs.declared.cmp.Ordering.{Ordering}
use Rattle.std.specs.declared.cmp.Ordering.TheVariants.{Less}
use Rattle.std.specs.FinMap as finite
use Rattle.std.specs.FinMap.{find, is_sorted}
use Rattle.std.specs.FinMap.Entries.{below_all, find-append}
use Rattle.chart_model.specs.Cell.{CellValue}
use Rattle.chart_model.specs.Keys.{key_cmp}
use Rattle.chart_model.specs.declared.state.Holding.{Holding}
use Rattle.chart_model.proofs.Keys.{key_cmp-IsAntisymmetric, key_cmp-total}
use Rattle.chart_model.proofs.Maps.{tied}
use Rattle.chart_model.proofs.SortedEntries.{first, second, less}
use Rattle.chart_store.specs.Loaded.{HoldingsByKey}
use Rattle.chart_store.specs.Loaded as taken
use Rattle.session_core.specs.Held.{chart_of}
use Rattle.session_core.specs.Kept.{IsKeptOf, IsKeptOfEach, IsRenewed, features_in}

-- ---- keys

same-key : (q key : List ℕ) → eq_by_cmp key_cmp q key ≡ true → q ≡ key
same-key q key e = key_cmp-IsAntisymmetric q key (tied (key_cmp q key) e)

other-key : (q key : List ℕ) → eq_by_cmp key_cmp q key ≡ false → q ≢ key
other-key q key e is =
    let same : eq_by_cmp key_cmp q key ≡ true = subst (λ k. eq_by_cmp key_cmp q k ≡ true) is (ap is_eq (tied_itself key_cmp-total q)) in
    let f : true ≡ false = sym same ∙ e in cc

tied-false : (q key : List ℕ) → q ≢ key → (b : Bool) → eq_by_cmp key_cmp q key ≡ b → b ≡ false
tied-false q key apart true e = absurd (apart (same-key q key e))
tied-false q key apart false e = refl

apart-key : (q key : List ℕ) → q ≢ key → eq_by_cmp key_cmp q key ≡ false
apart-key q key apart = tied-false q key apart (eq_by_cmp key_cmp q key) refl

key-itself : (key : List ℕ) → eq_by_cmp key_cmp key key ≡ true
key-itself key = ap is_eq (tied_itself key_cmp-total key)

-- ---- what is kept of one chart

pub on-ok : {A E : Type 0} (r : Result A E) (P Q : Type 0) → (P → Q) → OnOk r P → OnOk r Q
on-ok (Ok x) P Q more h = more h
on-ok (Err fault) P Q more h = h

module _ {V : Type 0} (IsOf : CellValue → V → Type 0) where
  -- what is kept of a chart is there, and is that of the chart
  pub kept-there : (chart : Option CellValue) (cell : CellValue) (kept : Option V) (value : V) → chart ≡ Some cell → kept ≡ Some value
      → IsKeptOf IsOf chart kept → IsOf cell value
  kept-there chart cell kept value is found h =
      subst (λ (o : Option V). IsKeptOf IsOf (Some cell) o) found (subst (λ (o : Option CellValue). IsKeptOf IsOf o kept) is h)

  pub kept-lost : (chart : Option CellValue) (cell : CellValue) (kept : Option V) → chart ≡ Some cell → kept ≡ None → IsKeptOf IsOf chart kept → ⊥
  kept-lost chart cell kept is lost h =
      subst (λ (o : Option V). IsKeptOf IsOf (Some cell) o) lost (subst (λ (o : Option CellValue). IsKeptOf IsOf o kept) is h)

  -- nothing is there any more
  pub renewed-none : (key : List ℕ) (chart : Option CellValue) (before after : finite.FinMap key_cmp V) → chart ≡ None → after ≡ finite.remove before key
      → IsRenewed IsOf key chart before after
  renewed-none key chart before after none is = record {
    here = subst (λ (o : Option CellValue). IsKeptOf IsOf o (finite.get after key)) (sym none)
        (subst (IsKeptOf IsOf None) (sym (ap (λ (m : finite.FinMap key_cmp V). finite.get m key) is ∙ finite.get-remove key_cmp-total before key key
        ∙ ap (λ (b : Bool). cond b None (finite.get before key)) (key-itself key))) tt);
    others = λ other apart. ap (λ (m : finite.FinMap key_cmp V). finite.get m other) is ∙ finite.get-remove key_cmp-total before key other
        ∙ ap (λ (b : Bool). cond b None (finite.get before other)) (apart-key other key apart);
  }

  -- another value is there
  pub renewed-some : (key : List ℕ) (chart : Option CellValue) (cell : CellValue) (before without after : finite.FinMap key_cmp V) (value : V)
      → chart ≡ Some cell → without ≡ finite.remove before key → after ≡ finite.insert without key value → IsOf cell value
      → IsRenewed IsOf key chart before after
  renewed-some key chart cell before without after value is out in_again h = record {
    here = subst (λ (o : Option CellValue). IsKeptOf IsOf o (finite.get after key)) (sym is)
        (subst (IsKeptOf IsOf (Some cell)) (sym (ap (λ (m : finite.FinMap key_cmp V). finite.get m key) in_again ∙ finite.get-insert key_cmp-total without key value key
        ∙ ap (λ (b : Bool). cond b (Some value) (finite.get without key)) (key-itself key))) h);
    others = λ other apart. ap (λ (m : finite.FinMap key_cmp V). finite.get m other) in_again ∙ finite.get-insert key_cmp-total without key value other
        ∙ ap (λ (b : Bool). cond b (Some value) (finite.get without other)) (apart-key other key apart)
        ∙ (renewed-none key None before without refl out).others other apart;
  }

  -- ---- of all charts

  -- the chart of one cell has changed
  pub kept-renewed : (before after : HoldingsByKey) (key : List ℕ) (kept renewed : finite.FinMap key_cmp V) → IsKeptOfEach IsOf before kept
      → ((other : List ℕ) → other ≢ key → finite.get after other ≡ finite.get before other)
      → IsRenewed IsOf key (chart_of after key) kept renewed → IsKeptOfEach IsOf after renewed
  kept-renewed before after key kept renewed each same now q = by (eq_by_cmp key_cmp q key) refl
    where
      by : (b : Bool) → eq_by_cmp key_cmp q key ≡ b → IsKeptOf IsOf (chart_of after q) (finite.get renewed q)
      by true e = subst (λ (k : List ℕ). IsKeptOf IsOf (chart_of after k) (finite.get renewed k)) (sym (same-key q key e)) now.here
      by false e =
          let apart : q ≢ key = other-key q key e in
          subst (λ (o : Option Holding). IsKeptOf IsOf (taken.chart_of o) (finite.get renewed q)) (sym (same q apart))
          (subst (IsKeptOf IsOf (chart_of before q)) (sym (now.others q apart)) (each q))

-- ---- a walk over the entries

module _ {K X : Type 0} {R : K → K → Ordering} (total : IsTotalOrder R) where
  below_next : (x : K) (seen rest : List (K × X)) (next : K × X) → T (below_all R x (seen ++ next ∷ rest)) → R x next.0 ≡ Less
  below_next x [] rest next h = less _ (first _ _ h)
  below_next x (entry ∷ seen) rest next h = below_next x seen rest next (second _ _ h)

  -- the next entry's key wasn't seen yet
  not_seen : (seen rest : List (K × X)) (next : K × X) → T (is_sorted R (seen ++ next ∷ rest)) → find R next.0 seen ≡ None
  not_seen [] rest next h = refl
  not_seen (entry ∷ seen) rest next h =
      ap (λ (r : Ordering). cond (is_eq r) (Some entry.1) (find R next.0 seen))
      (total.antisymm next.0 entry.0 ∙ ap ordering_reverse (below_next entry.0 seen rest next (first _ _ h)))
      ∙ not_seen seen rest next (second _ _ h)

-- of the cells that were seen, what is kept of each chart is there
pub record Walked {V : Type 0} (IsOf : CellValue → V → Type 0) (cells : HoldingsByKey) (kept : finite.FinMap key_cmp V) (left : List (List ℕ × Holding)) : Type 0 where
  pub seen : List (List ℕ × Holding)
  pub parts : finite.entries cells ≡ seen ++ left
  pub each : (key : List ℕ) → IsKeptOf IsOf (taken.chart_of (find key_cmp key seen)) (finite.get kept key)

module _ {V : Type 0} (IsOf : CellValue → V → Type 0) (cells : HoldingsByKey) where
  pub walk-begins : (kept : finite.FinMap key_cmp V) (all : List (List ℕ × Holding)) → kept ≡ finite.empty → all ≡ finite.entries cells → Walked IsOf cells kept all
  walk-begins kept all none e = record {
    seen = [];
    parts = sym e;
    each = λ key. subst (IsKeptOf IsOf None) (sym (ap (λ (m : finite.FinMap key_cmp V). finite.get m key) none ∙ finite.get-empty key_cmp key)) tt;
  }

  pub walk-goes : (before after : finite.FinMap key_cmp V) (key : List ℕ) (here : Holding) (all left : List (List ℕ × Holding)) → Walked IsOf cells before all
      → all ≡ (key, here) ∷ left → IsRenewed IsOf key here.chart before after → Walked IsOf cells after left
  walk-goes before after key here all left w next now =
      let sorted : T (is_sorted key_cmp (w.seen ++ (key, here) ∷ left)) =
      subst (λ (es : List (List ℕ × Holding)). T (is_sorted key_cmp es)) (w.parts ∙ ap (λ (l : List (List ℕ × Holding)). w.seen ++ l) next) (finite.entries_sorted cells) in
      let new : find key_cmp key w.seen ≡ None = not_seen key_cmp-total w.seen left (key, here) sorted in
      record {
        seen = w.seen ++ (key, here) ∷ [];
        parts = w.parts ∙ ap (λ (l : List (List ℕ × Holding)). w.seen ++ l) next ∙ sym (append_assoc w.seen ((key, here) ∷ []) left);
        each = λ q. subst (λ (o : Option Holding). IsKeptOf IsOf (taken.chart_of o) (finite.get after q))
            (sym (find-append key_cmp key_cmp-total w.seen key here q new)) (step w.seen w.each q (eq_by_cmp key_cmp q key) refl);
      }
    where
      step : (seen : List (List ℕ × Holding)) → ((k : List ℕ) → IsKeptOf IsOf (taken.chart_of (find key_cmp k seen)) (finite.get before k))
          → (q : List ℕ) (b : Bool) → eq_by_cmp key_cmp q key ≡ b
          → IsKeptOf IsOf (taken.chart_of (cond b (Some here) (find key_cmp q seen))) (finite.get after q)
      step seen each q true e = subst (λ (k : List ℕ). IsKeptOf IsOf here.chart (finite.get after k)) (sym (same-key q key e)) now.here
      step seen each q false e = subst (IsKeptOf IsOf (taken.chart_of (find key_cmp q seen))) (sym (now.others q (other-key q key e))) (each q)

  pub walk-ends : (kept : finite.FinMap key_cmp V) (left : List (List ℕ × Holding)) → Walked IsOf cells kept left → left ≡ [] → IsKeptOfEach IsOf cells kept
  walk-ends kept left w none key =
      subst (λ (o : Option Holding). IsKeptOf IsOf (taken.chart_of o) (finite.get kept key))
      (ap (find key_cmp key) (sym (append-nil w.seen) ∙ ap (λ (l : List (List ℕ × Holding)). w.seen ++ l) (sym none) ∙ sym w.parts) ∙ sym (finite.get-entries cells key))
      (w.each key)

-- ---- features

-- what is counted of the charts of entries
abbrev pub charted_by : (Option CellValue → ℕ) → List (List ℕ × Holding) → ℕ
charted_by count entries = sum_by (λ (here : Holding). count here.chart) (map (λ (entry : List ℕ × Holding). entry.1) entries)

-- one entry fewer is left, and its chart was counted
pub counted-goes : (count : Option CellValue → ℕ) (before after most : ℕ) (key : List ℕ) (here : Holding) (chart : Option CellValue) (all left : List (List ℕ × Holding))
    → all ≡ (key, here) ∷ left → chart ≡ here.chart → before + charted_by count all ≤ most → after ≤ before + count chart → after + charted_by count left ≤ most
counted-goes count before after most key here chart all left next same counted more =
    let parts : charted_by count all ≡ count here.chart + charted_by count left = ap (charted_by count) next ∙ sum_by-cons (λ (held : Holding). count held.chart) here (map (λ (entry : List ℕ × Holding). entry.1) left) in
    omega (arith, parts, ap count same, counted, more)

-- the features of the charts of entries
abbrev pub charted : List (List ℕ × Holding) → ℕ
charted = charted_by features_in

pub charted-goes : (before after most : ℕ) (key : List ℕ) (here : Holding) (chart : Option CellValue) (all left : List (List ℕ × Holding))
    → all ≡ (key, here) ∷ left → chart ≡ here.chart → before + charted all ≤ most → after ≤ before + features_in chart → after + charted left ≤ most
charted-goes = counted-goes features_in

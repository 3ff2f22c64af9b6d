-- A cell has one drawing.
use Rattle.std.proofs.Common.{◌≡◌, ℕ, ◌+◌, ◌<◌, ◌≤◌, Bool, true, false, cond, ◌&&◌, T, List, [], ◌∷◌, length, get_or, suc, Option, Some, None, refl, sym, ap, ◌∙◌, subst, arith}
use Rattle.std.specs.Prelude.{IfSome}
use Rattle.std.specs.List.{All, sum_by, flat_map}
use Rattle.std.specs.List.Sorted.{IsSorted}
use Rattle.std.specs.declared.cmp.Ordering.{Ordering}
use Rattle.std.specs.declared.cmp.Ordering.TheVariants.{Less, Equal, Greater}
use Rattle.std.specs.Ordering.{is_lt, is_eq, eq_by_cmp, ordering_then, ordering_reverse}
use Rattle.std.specs.Cmp.{IsTotalOrder, nat_cmp_total}
use Rattle.std.specs.FinMap as map
use Rattle.std.specs.FinMap.{nat_cmp-IsAntisymmetric, find, is_sorted}
use Rattle.std.specs.FinMap.Entries.{below_all}
use Rattle.std.proofs.lemmas.Bool.{true≢false}
use Rattle.std.proofs.lemmas.Cmp.{on_total, then_total}
use Rattle.std.proofs.lemmas.List.Elements.{All-nil, All-cons, All-head, All-tail, All-append}
use Rattle.std.proofs.lemmas.List.Sorted.{ranks_by, sorted_far, All-permutation, sum_by-IsPermutation}
use Rattle.std.proofs.lemmas.List.Sums.{sum_by-cons}
use Rattle.chart_model.specs.Cell.{CellValue, IsCell, IsFeature}
use Rattle.chart_model.specs.Names.{name_cmp}
use Rattle.chart_model.proofs.Names.{name_cmp-total}
use Rattle.chart_model.specs.declared.cell.Feature.{Feature}
use Rattle.chart_model.specs.declared.drawing.Block.{Block}
use Rattle.chart_model.specs.declared.name.Name.{Name}
use Rattle.chart_model.specs.declared.settings.Settings.{Settings}
use Rattle.lookup_table.specs.declared.line.TableLine.{TableLine}
use Rattle.draw_list.specs.declared.drawing.Drawn.{Drawn}
use Rattle.draw_list.specs.Block.{block_in}
use Rattle.draw_list.specs.Drawing.{drawn_with, drawn_of, rank_of, drawn_cmp, IsDrawing}

-- ---- sorted lists of the same elements

module _ {X : Type 0} (cmp : X → X → Ordering) (total : IsTotalOrder cmp) where
  abbrev tie : X → X → ℕ
  tie y v = cond (is_eq (cmp y v)) 1 0

  -- the lists have the same elements, each as often
  abbrev Alike : List X → List X → Type 0
  Alike xs ys = (f : X → ℕ) → sum_by f xs ≡ sum_by f ys

  abbrev HasTied : X → List X → Type 0
  HasTied y zs = (k : ℕ) × ((k < length zs) × ((d : X) → cmp y (get_or zs k d) ≡ Equal))

  more : (y z : X) (zs : List X) → HasTied y zs → HasTied y (z ∷ zs)
  more y z zs h = (suc h.0, (omega (arith, h.1.0), h.1.1))

  tied_in : (y : X) (zs : List X) → 1 ≤ sum_by (tie y) zs → HasTied y zs
  tied_in y [] h = absurd (omega (arith, h))
  tied_in y (z ∷ zs) h = by (cmp y z) refl (λ later. tied_in y zs later)
    where
      by : (o : Ordering) → cmp y z ≡ o → (1 ≤ sum_by (tie y) zs → HasTied y zs) → HasTied y (z ∷ zs)
      by Equal e later = (0, (omega arith, λ d. e))
      by Less e later =
          let none : tie y z ≡ 0 = ap (λ (o : Ordering). cond (is_eq o) 1 0) e in
          more y z zs (later (omega (arith, h, none, sum_by-cons (tie y) z zs)))
      by Greater e later =
          let none : tie y z ≡ 0 = ap (λ (o : Ordering). cond (is_eq o) 1 0) e in
          more y z zs (later (omega (arith, h, none, sum_by-cons (tie y) z zs)))

  itself : (y : X) → cmp y y ≡ Equal
  itself y = by (cmp y y) refl
    where
      by : (o : Ordering) → cmp y y ≡ o → o ≡ Equal
      by Equal e = refl
      by Less e = let f : ◌≡◌ {A = Ordering} Less Greater = sym e ∙ total.antisymm y y ∙ ap ordering_reverse e in absurd cc
      by Greater e = let f : ◌≡◌ {A = Ordering} Greater Less = sym e ∙ total.antisymm y y ∙ ap ordering_reverse e in absurd cc

  self_counted : (y : X) (ys : List X) → 1 ≤ sum_by (tie y) (y ∷ ys)
  self_counted y ys =
      let one : tie y y ≡ 1 = ap (λ (o : Ordering). cond (is_eq o) 1 0) (itself y) in
      omega (arith, one, sum_by-cons (tie y) y ys)

  -- the head isn't above another head that is counted among its list
  not_above : (x y : X) (xs ys : List X) → Alike (x ∷ xs) (y ∷ ys) → IsSorted cmp (x ∷ xs) → is_lt (cmp y x) ≡ false
  not_above x y xs ys alike sorted =
      let tied = tied_in y (x ∷ xs) (subst (λ (n : ℕ). 1 ≤ n) (sym (alike (tie y))) (self_counted y ys)) in
      ap is_lt (total.congr y (get_or (x ∷ xs) tied.0 x) x (tied.1.1 x))
      ∙ sorted_far (λ a b. is_lt (cmp a b)) (ranks_by total (λ a. a)) (x ∷ xs) sorted 0 tied.0 x (omega arith) tied.1.0

  neither_above : (x y : X) → is_lt (cmp x y) ≡ false → is_lt (cmp y x) ≡ false → cmp x y ≡ Equal
  neither_above x y h k = by (cmp x y) refl
    where
      by : (o : Ordering) → cmp x y ≡ o → o ≡ Equal
      by Equal e = refl
      by Less e = absurd (true≢false (sym (ap is_lt e) ∙ h))
      by Greater e = absurd (true≢false (sym (ap is_lt (total.antisymm y x ∙ ap ordering_reverse e)) ∙ k))

  pub sorted_tail : (x : X) (xs : List X) → IsSorted cmp (x ∷ xs) → IsSorted cmp xs
  sorted_tail x xs sorted k d low high =
      let next : suc k + 1 ≡ suc (k + 1) = omega arith in
      subst (λ (n : ℕ). is_lt (cmp (get_or (x ∷ xs) n d) (get_or xs k d)) ≡ false) next (sorted (suc k) d (omega arith) (omega arith))

  module _ (P : X → Type 0) (anti : (u v : X) → P u → P v → cmp u v ≡ Equal → u ≡ v) where
    pub sorted_once : (xs ys : List X) → Alike xs ys → All P xs → All P ys → IsSorted cmp xs → IsSorted cmp ys → xs ≡ ys
    sorted_once [] [] alike p q sorted ordered = refl
    sorted_once [] (y ∷ ys) alike p q sorted ordered = absurd (omega (arith, alike (λ _. 1), sum_by-cons (λ (_ : X). 1) y ys))
    sorted_once (x ∷ xs) [] alike p q sorted ordered = absurd (omega (arith, alike (λ _. 1), sum_by-cons (λ (_ : X). 1) x xs))
    sorted_once (x ∷ xs) (y ∷ ys) alike p q sorted ordered =
        let ties = neither_above x y (not_above y x ys xs (λ f. sym (alike f)) ordered) (not_above x y xs ys alike sorted) in
        let same = anti x y (All-head P x xs p) (All-head P y ys q) ties in
        let rest : Alike xs ys = λ f. omega (arith, alike f, sum_by-cons f x xs, sum_by-cons f y ys, ap f same) in
        λ i. same i ∷ sorted_once xs ys rest (All-tail P x xs p) (All-tail P y ys q) (sorted_tail x xs sorted) (sorted_tail y ys ordered) i

-- ---- the entries of a map

true_of : (b : Bool) → T b → b ≡ true
true_of true h = refl
true_of false h = absurd h

first : (a b : Bool) → T (a && b) → T a
first true b h = tt
first false b h = absurd h

second : (a b : Bool) → T (a && b) → T b
second true b h = h
second false b h = absurd h

abbrev IsFound : List (Name × Feature) → Name × Feature → Type 0
IsFound es e = find name_cmp e.0 es ≡ Some e.1

less : (o : Ordering) → T (is_lt o) → is_eq (ordering_reverse o) ≡ false
less Less h = refl
less Equal h = absurd h
less Greater h = absurd h

module _ (total : IsTotalOrder name_cmp) where
  found_behind : (h : Name × Feature) (xs es : List (Name × Feature)) → T (below_all name_cmp h.0 xs) → All (IsFound es) xs → All (IsFound (h ∷ es)) xs
  found_behind h [] es below found = All-nil (IsFound (h ∷ es))
  found_behind h (x ∷ xs) es below found =
      let other : eq_by_cmp name_cmp x.0 h.0 ≡ false = ap is_eq (total.antisymm x.0 h.0) ∙ less (name_cmp h.0 x.0) (first _ _ below) in
      All-cons (IsFound (h ∷ es)) x xs
      (ap (λ (b : Bool). cond b (Some h.1) (find name_cmp x.0 es)) other ∙ All-head (IsFound es) x xs found)
      (found_behind h xs es (second _ _ below) (All-tail (IsFound es) x xs found))

  found_each : (es : List (Name × Feature)) → T (is_sorted name_cmp es) → All (IsFound es) es
  found_each [] h = All-nil (IsFound [])
  found_each (e ∷ es) h =
      let here : eq_by_cmp name_cmp e.0 e.0 ≡ true = ap is_eq (itself name_cmp total e.0) in
      All-cons (IsFound (e ∷ es)) e es
      (ap (λ (b : Bool). cond b (Some e.1) (find name_cmp e.0 es)) here)
      (found_behind e es es (first _ _ h) (found_each es (second _ _ h)))

-- ---- drawings

module _ (cell : CellValue) (table : List TableLine) (settings : Settings) where
  -- the block of a feature of the cell, under its number
  pub record IsOf (drawn : Drawn) : Type 0 where
    pub name : Name
    pub feature : Feature
    pub there : map.get cell.features name ≡ Some feature
    pub kind : name.rcnm ≡ 100
    pub number : drawn.rcid ≡ name.rcid
    pub block : block_in cell table settings feature ≡ Some drawn.block

  drawn_each : (name : Name) (feature : Feature) → map.get cell.features name ≡ Some feature → name.rcnm ≡ 100
      → (o : Option Block) → block_in cell table settings feature ≡ o → All IsOf (drawn_with name.rcid o)
  drawn_each name feature there kind None e = All-nil IsOf
  drawn_each name feature there kind (Some block) e =
      All-cons IsOf (record { rcid = name.rcid; block = block }) [] (record {
        name = name;
        feature = feature;
        there = there;
        kind = kind;
        number = refl;
        block = e;
      }) (All-nil IsOf)

  named : IsCell cell → (name : Name) (feature : Feature) → map.get cell.features name ≡ Some feature → name.rcnm ≡ 100
  named is name feature there = (subst (λ (o : Option Feature). IfSome o (IsFeature name)) there (is.features name)).named

  all_drawn : IsCell cell → (es : List (Name × Feature)) → All (λ e. map.get cell.features e.0 ≡ Some e.1) es → All IsOf (flat_map (drawn_of cell table settings) es)
  all_drawn is [] h = All-nil IsOf
  all_drawn is (e ∷ es) h =
      let there = All-head (λ e. map.get cell.features e.0 ≡ Some e.1) e es h in
      All-append IsOf (drawn_of cell table settings e) (flat_map (drawn_of cell table settings) es)
      (drawn_each e.0 e.1 there (named is e.0 e.1 there) (block_in cell table settings e.1) refl)
      (all_drawn is es (All-tail (λ e. map.get cell.features e.0 ≡ Some e.1) e es h))

  both_tie : (r s : Ordering) → ordering_then r s ≡ Equal → (r ≡ Equal) × (s ≡ Equal)
  both_tie Less s e = absurd cc
  both_tie Equal s e = (refl, e)
  both_tie Greater s e = absurd cc

  same_drawn : (u v : Drawn) → IsOf u → IsOf v → drawn_cmp u v ≡ Equal → u ≡ v
  same_drawn u v p q e =
      let numbers = nat_cmp-IsAntisymmetric u.rcid v.rcid (both_tie _ _ (both_tie _ _ e).1).1 in
      let kinds : p.name.rcnm ≡ q.name.rcnm = p.kind ∙ sym q.kind in
      let rcids : p.name.rcid ≡ q.name.rcid = sym p.number ∙ numbers ∙ q.number in
      let names : p.name ≡ q.name = λ i. record { rcnm = kinds i; rcid = rcids i } in
      let features : p.feature ≡ q.feature = some_is _ _ (sym p.there ∙ ap (map.get cell.features) names ∙ q.there) in
      let blocks : u.block ≡ v.block = some_is _ _ (sym p.block ∙ ap (block_in cell table settings) features ∙ q.block) in
      λ i. record { rcid = numbers i; block = blocks i }
    where
      some_is : {A : Type 0} (x y : A) → ◌≡◌ {A = Option A} (Some x) (Some y) → x ≡ y
      some_is x y e = cc

pub drawn_total : IsTotalOrder drawn_cmp
drawn_total =
    then_total (on_total (λ (d : Drawn). d.block.priority) nat_cmp_total)
    (then_total (on_total (λ (d : Drawn). rank_of d.block.geom) nat_cmp_total) (on_total (λ (d : Drawn). d.rcid) nat_cmp_total))

-- the entries of a cell's features are those that are found by their names
pub entries_there : (cell : CellValue) → All (λ e. map.get cell.features e.0 ≡ Some e.1) (map.entries cell.features)
entries_there cell = λ k d h. map.get-entries cell.features _ ∙ found_each name_cmp-total (map.entries cell.features) (map.entries_sorted cell.features) k d h

pub one_drawing : (cell : CellValue) (table : List TableLine) (settings : Settings) (a b : List Drawn) → IsCell cell → IsDrawing cell table settings a → IsDrawing cell table settings b → a ≡ b
one_drawing cell table settings a b is x y =
    let each = all_drawn cell table settings is (map.entries cell.features) (entries_there cell) in
    sorted_once drawn_cmp drawn_total (IsOf cell table settings) (same_drawn cell table settings) a b
    (λ f. sum_by-IsPermutation f _ _ x.all ∙ sym (sum_by-IsPermutation f _ _ y.all))
    (All-permutation (IsOf cell table settings) _ _ x.all each) (All-permutation (IsOf cell table settings) _ _ y.all each)
    x.ordered y.ordered

-- Settings in any order of different codes, and attributes that are put among them.
use Rattle.std.proofs.Common.{◌≡◌, ℕ, suc, ◌<◌, ◌≤◌, Bool, true, false, cond, not, ◌&&◌, T, List, [], ◌∷◌, Option, Some, None, refl, sym, ap, subst, ◌∙◌, nat_eq, nat_le, arith}
use Rattle.std.proofs.lemmas.Bool.Decides.{nat_tests}
use Rattle.std.specs.List.{filter}
use Rattle.std.specs.List.Sorted.{ties, IsStableByKey}
use Rattle.std.specs.declared.cmp.Ordering.{Ordering}
use Rattle.std.specs.declared.cmp.Ordering.TheVariants.{Less, Equal, Greater}
use Rattle.std.specs.Ordering.{is_lt, is_eq, eq_by_cmp, nat_cmp, ordering_reverse}
use Rattle.std.specs.Cmp.{nat_cmp_total, nat_cmp_is}
use Rattle.std.specs.Cmp.Lexicographic.{pointwise}
use Rattle.std.specs.FinMap as map
use Rattle.std.specs.FinMap.{find, nat_cmp-IsAntisymmetric}
use Rattle.std.specs.FinMap.Entries.{below_all}
use Rattle.chart_model.specs.declared.record.Attr.{Attr}
use Rattle.chart_model.specs.Attrs.{Attrs, AreRising, attrs_of, put_attrs, attrs_after, set_attr, set_attrs}
use Rattle.chart_model.specs.Attrs.{texts_by_code, keeps_first, are_attributes}
use Rattle.chart_model.proofs.Pages.{or_else, or_else-None, find-below}
use Rattle.chart_model.proofs.AttrMaps.{attrs-empty}
use Rattle.chart_model.proofs.Maps.{tied}
use Rattle.chart_model.proofs.SortedEntries.{first, second, less}

-- ---- what one setting leaves under a code

-- the text that a setting leaves under its code
abbrev text_of : Attr → Option (List ℕ)
text_of setting = cond (pointwise nat_eq setting.value (127 ∷ [])) None (Some setting.value)

get-chosen : (m : Attrs) (s : Attr) (q : ℕ) (b : Bool) → map.get (cond b (map.remove m s.code) (map.insert m s.code s.value)) q ≡ cond (eq_by_cmp nat_cmp q s.code) (cond b None (Some s.value)) (map.get m q)
get-chosen m s q true = map.get-remove nat_cmp_total m s.code q
get-chosen m s q false = map.get-insert nat_cmp_total m s.code s.value q

get-set : (m : Attrs) (s : Attr) (q : ℕ) → map.get (set_attr m s) q ≡ cond (eq_by_cmp nat_cmp q s.code) (text_of s) (map.get m q)
get-set m s q = get-chosen m s q (pointwise nat_eq s.value (127 ∷ []))

-- ---- only the settings of a code count for it, in their order

abbrev is_code : ℕ → Attr → Bool
is_code code attr = eq_by_cmp nat_cmp code attr.code

get-of-code : (q : ℕ) (settings : List Attr) (m n : Attrs) → map.get m q ≡ map.get n q → map.get (set_attrs m settings) q ≡ map.get (set_attrs n (filter (is_code q) settings)) q
get-of-code q [] m n same = same
get-of-code q (s ∷ settings) m n same =
    elim (is_code q s) as (λ b. is_code q s ≡ b → map.get (set_attrs (set_attr m s) settings) q ≡ map.get (set_attrs n (cond b (s ∷ filter (is_code q) settings) (filter (is_code q) settings))) q) [
      | true ↦ λ here. get-of-code q settings (set_attr m s) (set_attr n s)
          (get-set m s q ∙ ap (cond (is_code q s) (text_of s)) same ∙ sym (get-set n s q))
      | false ↦ λ other. get-of-code q settings (set_attr m s) n
          (get-set m s q ∙ ap (λ b. cond b (text_of s) (map.get m q)) other ∙ same)
    ] refl

tied-codes : (o : Ordering) → (not (is_lt o) && not (is_lt (ordering_reverse o))) ≡ is_eq o
tied-codes Less = refl
tied-codes Equal = refl
tied-codes Greater = refl

abbrev lower : Attr → Attr → Bool
lower x y = is_lt (nat_cmp x.code y.code)

ties-codes : (x y : Attr) → ties lower x y ≡ is_code x.code y
ties-codes x y = ap (λ o. not (is_lt (nat_cmp x.code y.code)) && not (is_lt o)) (nat_cmp_total.antisymm y.code x.code) ∙ tied-codes (nat_cmp x.code y.code)

filter-same : (p q : Attr → Bool) → ((x : Attr) → p x ≡ q x) → (xs : List Attr) → filter p xs ≡ filter q xs
filter-same p q same [] = refl
filter-same p q same (x ∷ xs) = λ i. cond (same x i) (x ∷ filter-same p q same xs i) (filter-same p q same xs i)

-- so a stable sort by code leaves the same attributes
pub set-sorted : (m : Attrs) (settings sorted : List Attr) → IsStableByKey (λ attr. attr.code) nat_cmp settings sorted → set_attrs m sorted ≡ set_attrs m settings
set-sorted m settings sorted stable =
    map.same_map nat_cmp_total nat_cmp-IsAntisymmetric _ _ (λ q.
    let one : Attr = record { code = q; value = [] } in
    get-of-code q sorted m m refl
    ∙ ap (λ l. map.get (set_attrs m l) q)
    (sym (filter-same (ties lower one) (is_code q) (ties-codes one) sorted) ∙ stable one ∙ filter-same (ties lower one) (is_code q) (ties-codes one) settings)
    ∙ sym (get-of-code q settings m m refl))

-- ---- attributes that are put

get-put : (q : ℕ) (kept : List Attr) (m : Attrs) → AreRising kept → map.get (put_attrs m kept) q ≡ or_else (find nat_cmp q (texts_by_code kept)) (map.get m q)
get-put q [] m rising = refl
get-put q (a ∷ kept) m rising =
    get-put q kept (map.insert m a.code a.value) (second _ _ rising)
    ∙ ap (or_else (find nat_cmp q (texts_by_code kept))) (map.get-insert nat_cmp_total m a.code a.value q)
    ∙ elim (eq_by_cmp nat_cmp q a.code) as (λ b. eq_by_cmp nat_cmp q a.code ≡ b → or_else (find nat_cmp q (texts_by_code kept)) (cond b (Some a.value) (map.get m q)) ≡ or_else (cond b (Some a.value) (find nat_cmp q (texts_by_code kept))) (map.get m q)) [
      | true ↦ λ t. ap (λ o. or_else o (Some a.value)) (subst (λ c. find nat_cmp c (texts_by_code kept) ≡ None) (sym (nat_cmp-IsAntisymmetric q a.code (tied _ t))) (find-below nat_cmp a.code (texts_by_code kept) (first _ _ rising)))
      | false ↦ λ t. refl
    ] refl

-- put where nothing is, they are the attributes
pub put-alone : (kept : List Attr) → AreRising kept → put_attrs (attrs_of []) kept ≡ attrs_of kept
put-alone kept rising =
    map.same_map nat_cmp_total nat_cmp-IsAntisymmetric _ _ (λ q.
    get-put q kept (attrs_of []) rising
    ∙ ap (or_else (find nat_cmp q (texts_by_code kept))) (map.get-from_sorted nat_cmp [] q tt)
    ∙ or_else-None (find nat_cmp q (texts_by_code kept))
    ∙ sym (map.get-from_sorted nat_cmp (texts_by_code kept) q rising))

-- an attribute of another code may be put after a setting as well as before
swapped : {X : Type 0} (a b : Bool) (x y z : X) → (a ≡ true → b ≡ false) → cond a x (cond b y z) ≡ cond b y (cond a x z)
swapped true true x y z apart = absurd (subst T (apart refl) tt)
swapped true false x y z apart = refl
swapped false b x y z apart = refl

apart : (q c d : ℕ) → is_lt (nat_cmp c d) ≡ true → eq_by_cmp nat_cmp q d ≡ true → eq_by_cmp nat_cmp q c ≡ false
apart q c d low at =
    ap (λ n. eq_by_cmp nat_cmp n c) (nat_cmp-IsAntisymmetric q d (tied _ at))
    ∙ ap is_eq (nat_cmp_total.antisymm d c ∙ ap ordering_reverse (less _ (subst T (sym low) tt)))

put-later : (m : Attrs) (s a : Attr) → is_lt (nat_cmp s.code a.code) ≡ true → map.insert (set_attr m s) a.code a.value ≡ set_attr (map.insert m a.code a.value) s
put-later m s a low =
    map.same_map nat_cmp_total nat_cmp-IsAntisymmetric _ _ (λ q.
    map.get-insert nat_cmp_total (set_attr m s) a.code a.value q
    ∙ ap (cond (eq_by_cmp nat_cmp q a.code) (Some a.value)) (get-set m s q)
    ∙ swapped (eq_by_cmp nat_cmp q a.code) (eq_by_cmp nat_cmp q s.code) (Some a.value) (text_of s) (map.get m q) (apart q s.code a.code low)
    ∙ ap (cond (eq_by_cmp nat_cmp q s.code) (text_of s)) (sym (map.get-insert nat_cmp_total m a.code a.value q))
    ∙ sym (get-set (map.insert m a.code a.value) s q))

true-of : (b : Bool) → T b → b ≡ true
true-of true h = refl
true-of false h = absurd h

put-all-later : (m : Attrs) (s : Attr) (kept : List Attr) → T (below_all nat_cmp s.code (texts_by_code kept)) → put_attrs (set_attr m s) kept ≡ set_attr (put_attrs m kept) s
put-all-later m s [] below = refl
put-all-later m s (a ∷ kept) below =
    ap (λ n. put_attrs n kept) (put-later m s a (true-of _ (first _ _ below))) ∙ put-all-later (map.insert m a.code a.value) s kept (second _ _ below)

both : (a b : Bool) → T a → T b → T (a && b)
both true b p q = q
both false b p q = p

above : (a b : ℕ) → nat_le a b ≡ false → b < a
above a b h = grind (arith, nat_tests)

below-further : (c d : ℕ) (kept : List Attr) → nat_cmp c d ≡ Less → T (below_all nat_cmp d (texts_by_code kept)) → T (below_all nat_cmp c (texts_by_code kept))
below-further c d [] low below = tt
below-further c d (a ∷ kept) low below =
    both _ _ (subst (λ o. T (is_lt o)) (sym (nat_cmp_total.trans c d a.code low (less _ (first _ _ below)))) tt) (below-further c d kept low (second _ _ below))

below-kept : (s : Attr) (settings kept : List Attr) → AreRising kept → keeps_first kept (s ∷ settings) ≡ false → T (below_all nat_cmp s.code (texts_by_code kept))
below-kept s settings [] rising later = tt
below-kept s settings (a ∷ kept) rising later =
    let low = sym (nat_cmp_is s.code a.code Less (above a.code s.code later)) in
    both _ _ (subst (λ o. T (is_lt o)) (sym low) tt) (below-further s.code a.code kept low (first _ _ rising))

-- a setting that comes before the attributes
pub set-first : (m : Attrs) (s : Attr) (settings kept : List Attr) → AreRising kept
    → keeps_first kept (s ∷ settings) ≡ false
    → attrs_after (set_attr m s) kept settings ≡ attrs_after m kept (s ∷ settings)
set-first m s settings kept rising later =
    ap (λ n. set_attrs n settings) (put-all-later m s kept (below-kept s settings kept rising later))

-- ---- settings that are attributes as they stand

at-least : (a b : ℕ) → T (nat_le a b) → a ≤ b
at-least a b h = grind (arith, nat_tests)

abbrev removing : Attr → Bool
removing setting = pointwise nat_eq setting.value (127 ∷ [])

module _ (lowest : ℕ) (s : Attr) (settings : List Attr) (are : T (are_attributes lowest (s ∷ settings))) where
  rest : T (not (removing s) && are_attributes (suc s.code) settings)
  rest = second (nat_le lowest s.code) (not (removing s) && are_attributes (suc s.code) settings) are

  code-from : lowest ≤ s.code
  code-from = at-least lowest s.code (first (nat_le lowest s.code) (not (removing s) && are_attributes (suc s.code) settings) are)

  stays : T (not (removing s))
  stays = first (not (removing s)) (are_attributes (suc s.code) settings) rest

  others : T (are_attributes (suc s.code) settings)
  others = second (not (removing s)) (are_attributes (suc s.code) settings) rest

below-attributes : (c lowest : ℕ) (settings : List Attr) → c < lowest → T (are_attributes lowest settings) → T (below_all nat_cmp c (texts_by_code settings))
below-attributes c lowest [] low are = tt
below-attributes c lowest (s ∷ settings) low are =
    let below : c < s.code = omega (arith, low, code-from lowest s settings are) in
    both _ _ (subst (λ o. T (is_lt o)) (nat_cmp_is c s.code Less below) tt)
    (below-attributes c (suc s.code) settings (omega (arith, below)) (others lowest s settings are))

pub attributes-rise : (lowest : ℕ) (settings : List Attr) → T (are_attributes lowest settings) → AreRising settings
attributes-rise lowest [] are = tt
attributes-rise lowest (s ∷ settings) are =
    let later = others lowest s settings are in
    both _ _ (below-attributes s.code (suc s.code) settings (omega arith) later) (attributes-rise (suc s.code) settings later)

kept-text : (m : Attrs) (s : Attr) (b : Bool) → T (not b) → cond b (map.remove m s.code) (map.insert m s.code s.value) ≡ map.insert m s.code s.value
kept-text m s true is = absurd is
kept-text m s false is = refl

set-each-put : (lowest : ℕ) (settings : List Attr) (m : Attrs) → T (are_attributes lowest settings) → set_attrs m settings ≡ put_attrs m settings
set-each-put lowest [] m are = refl
set-each-put lowest (s ∷ settings) m are =
    ap (λ n. set_attrs n settings) (kept-text m s (removing s) (stays lowest s settings are))
    ∙ set-each-put (suc s.code) settings (map.insert m s.code s.value) (others lowest s settings are)

pub set-attributes : (settings : List Attr) → T (are_attributes 0 settings) → attrs_of settings ≡ set_attrs map.empty settings
set-attributes settings are =
    sym (put-alone settings (attributes-rise 0 settings are))
    ∙ sym (set-each-put 0 settings (attrs_of []) are)
    ∙ ap (λ m. set_attrs m settings) attrs-empty

-- How many entries stand in the buckets that are looked into.
use Rattle.std.proofs.Common.{◌≡◌, inl, inr, Bool, true, false, cond, ◌&&◌, ◌||◌, ℕ, zero, suc, ◌+◌, ◌-◌, ◌*◌, ◌/◌, ◌%◌, ◌<◌, ◌≤◌, min, max, List, [], ◌∷◌, length, take, drop, get_or, refl, sym, ap, ◌∙◌, subst, arith}
use Rattle.std.specs.Prelude.{◌==◌, nat_lt, nat_le}
use Rattle.std.specs.List.{filter, Contains}
use Rattle.std.specs.List.Sorted.{IsPartitionPoint}
use Rattle.std.proofs.lemmas.Bool.{cases_lt, le-leb, lt-leb, leb-true, ltb-true, ltb-false, lt-ltb, le-ltb, eq-eqb, ne_eqb}
use Rattle.std.proofs.lemmas.List.Elements.{filter_agree}
use Rattle.std.proofs.lemmas.Nat.{div-add-mod'}
use Rattle.std.proofs.Math.Nat.{mod-lt}
use Rattle.std.proofs.Math.Seq.{take-nil}
use Rattle.common_lemmas.proofs.Members.{Has, has_in, has_out}
use Rattle.spatial_grid.specs.declared.entry.Entry.{Entry}
use Rattle.spatial_grid.specs.Looked.{is_between, stands_between, stands_within}

-- one where the test is passed
abbrev pub ticks : Bool → ℕ
ticks true = 1
ticks false = 0

same_tests : (p q : Bool) → (p ≡ true → q ≡ true) → (q ≡ true → p ≡ true) → p ≡ q
same_tests true true to from = refl
same_tests true false to from = sym (to refl)
same_tests false true to from = from refl
same_tests false false to from = refl

same_order : (a b c d : ℕ) → (a ≤ b → c ≤ d) → (c ≤ d → a ≤ b) → nat_le a b ≡ nat_le c d
same_order a b c d to from =
    same_tests _ _ (λ e. le-leb c d (to (leb-true a b e))) (λ e. le-leb a b (from (leb-true c d e)))

no_more : (n : ℕ) → n ≡ n + 0
no_more n = omega arith

more_than_none : (n : ℕ) → n ≡ 0 + n
more_than_none n = omega arith

never : (l : Bool) → (l && false) ≡ false
never true = refl
never false = refl

both : (p q : Bool) → p ≡ true → q ≡ true → (p && q) ≡ true
both p q e f = λ i. e i && f i

module _ {X : Type 0} where
  drop-nil : (n : ℕ) → ◌≡◌ {A = List X} (drop n []) []
  drop-nil zero = refl
  drop-nil (suc n) = refl

  length-cons : (b : Bool) (x : X) (l : List X) → length (cond b (x ∷ l) l) ≡ ticks b + length l
  length-cons true x l = omega arith
  length-cons false x l = omega arith

  -- where each element that passes a test passes one of two others, and not both
  pub length-parts : (p q r : X → Bool) → ((x : X) → ticks (r x) ≡ ticks (p x) + ticks (q x)) → (xs : List X)
      → length (filter r xs) ≡ length (filter p xs) + length (filter q xs)
  length-parts p q r parts [] = refl
  length-parts p q r parts (x ∷ xs) =
      omega (arith, length-cons (r x) x (filter r xs), length-cons (p x) x (filter p xs), length-cons (q x) x (filter q xs), parts x, length-parts p q r parts xs)

  kept : (p : X → Bool) (x : X) (xs : List X) → p x ≡ true → filter p (x ∷ xs) ≡ x ∷ filter p xs
  kept p x xs e = ap (λ (b : Bool). cond b (x ∷ filter p xs) (filter p xs)) e

  left_out : (p : X → Bool) (x : X) (xs : List X) → p x ≡ false → filter p (x ∷ xs) ≡ filter p xs
  left_out p x xs e = ap (λ (b : Bool). cond b (x ∷ filter p xs) (filter p xs)) e

  -- what passes stands side by side
  pub filter-slice : (p : X → Bool) (xs : List X) (from to : ℕ)
      → ((k : ℕ) (d : X) → k < length xs → k < from → p (get_or xs k d) ≡ false)
      → ((k : ℕ) (d : X) → k < length xs → from ≤ k → k < to → p (get_or xs k d) ≡ true)
      → ((k : ℕ) (d : X) → k < length xs → to ≤ k → p (get_or xs k d) ≡ false)
      → filter p xs ≡ take (to - from) (drop from xs)
  filter-slice p [] from to front mid back = sym (ap (take (to - from)) (drop-nil from) ∙ take-nil (to - from))
  filter-slice p (x ∷ xs) zero zero front mid back =
      left_out p x xs (back 0 x (omega arith) (omega arith))
      ∙ filter-slice p xs 0 0 (λ k d l m. front (suc k) d (omega (arith, l)) (omega (arith, m)))
      (λ k d l m n. mid (suc k) d (omega (arith, l)) (omega (arith, m)) (omega (arith, n))) (λ k d l m. back (suc k) d (omega (arith, l)) (omega (arith, m)))
  filter-slice p (x ∷ xs) zero (suc to) front mid back =
      let rest : to - 0 ≡ to = omega arith in
      let whole : suc to ≡ suc to - 0 = omega arith in
      kept p x xs (mid 0 x (omega arith) (omega arith) (omega arith))
      ∙ ap (λ l. x ∷ l) (filter-slice p xs 0 to (λ k d l m. absurd (omega (arith, m)))
      (λ k d l m n. mid (suc k) d (omega (arith, l)) (omega (arith, m)) (omega (arith, n))) (λ k d l m. back (suc k) d (omega (arith, l)) (omega (arith, m))))
      ∙ ap (λ (n : ℕ). x ∷ take n xs) rest ∙ ap (λ (n : ℕ). take n (x ∷ xs)) whole
  filter-slice p (x ∷ xs) (suc from) zero front mid back =
      let none : 0 - from ≡ 0 - suc from = omega arith in
      left_out p x xs (front 0 x (omega arith) (omega arith))
      ∙ filter-slice p xs from 0 (λ k d l m. front (suc k) d (omega (arith, l)) (omega (arith, m)))
      (λ k d l m n. absurd (omega (arith, n))) (λ k d l m. back (suc k) d (omega (arith, l)) (omega (arith, m)))
      ∙ ap (λ (n : ℕ). take n (drop from xs)) none
  filter-slice p (x ∷ xs) (suc from) (suc to) front mid back =
      let same : to - from ≡ suc to - suc from = omega arith in
      left_out p x xs (front 0 x (omega arith) (omega arith))
      ∙ filter-slice p xs from to (λ k d l m. front (suc k) d (omega (arith, l)) (omega (arith, m)))
      (λ k d l m n. mid (suc k) d (omega (arith, l)) (omega (arith, m)) (omega (arith, n))) (λ k d l m. back (suc k) d (omega (arith, l)) (omega (arith, m)))
      ∙ ap (λ (n : ℕ). take n (drop from xs)) same

-- ---- the buckets from one up to another

module _ (first last : ℕ) (entries : List Entry) (from to : ℕ)
    (front : IsPartitionPoint (λ entry. nat_lt entry.bucket first ≡ true) (λ entry. nat_lt entry.bucket first ≡ false) entries from)
    (back : IsPartitionPoint (λ entry. nat_le entry.bucket last ≡ true) (λ entry. nat_le entry.bucket last ≡ false) entries to) where
  below : (entry : Entry) → nat_lt entry.bucket first ≡ true → stands_between first last entry ≡ false
  below entry e =
      ap (λ (b : Bool). b && nat_le entry.bucket last) (lt-leb first entry.bucket (ltb-true entry.bucket first e))

  above : (entry : Entry) → nat_le entry.bucket last ≡ false → stands_between first last entry ≡ false
  above entry e = ap (λ (b : Bool). nat_le first entry.bucket && b) e ∙ never (nat_le first entry.bucket)

  pub between_is : filter (stands_between first last) entries ≡ take (to - from) (drop from entries)
  between_is =
      filter-slice (stands_between first last) entries from to
      (λ k d l m. below (get_or entries k d) (front.0 k d (omega arith) m))
      (λ k d l m n. both _ _ (le-leb first _ (ltb-false (get_or entries k d).bucket first (front.1 k d m l))) (back.0 k d (omega arith) n))
      (λ k d l m. above (get_or entries k d) (back.1 k d m l))

  pub none_between : to ≤ from → filter (stands_between first last) entries ≡ []
  none_between le =
      let none : to - from ≡ 0 = omega (arith, le) in
      between_is ∙ ap (λ (n : ℕ). take n (drop from entries)) none

-- ---- columns of rows

-- in some columns of the rows from one up to the one before another
abbrev pub stands_before : ℕ → ℕ → ℕ → ℕ → Entry → Bool
stands_before low end first last entry =
    (nat_le low (entry.bucket / 64) && nat_lt (entry.bucket / 64) end) && is_between first last (entry.bucket % 64)

module _ (l a b f g s t : Bool) where
  in_lower : a ≡ true → b ≡ true → s ≡ false → ticks ((l && a) && (f && g)) ≡ ticks ((l && b) && (f && g)) + ticks (s && t)
  in_lower ea eb es =
      (λ i. ticks ((l && ea i) && (f && g))) ∙ no_more (ticks ((l && true) && (f && g)))
      ∙ (λ i. ticks ((l && sym eb i) && (f && g)) + ticks (sym es i && t))

  in_row : l ≡ true → a ≡ true → b ≡ false → s ≡ f → t ≡ g → ticks ((l && a) && (f && g)) ≡ ticks ((l && b) && (f && g)) + ticks (s && t)
  in_row el ea eb es et =
      (λ i. ticks ((el i && ea i) && (f && g))) ∙ more_than_none (ticks (f && g)) ∙ (λ i. ticks ((sym el i && sym eb i) && (f && g)) + ticks (sym es i && sym et i))

  in_higher : a ≡ false → b ≡ false → t ≡ false → ticks ((l && a) && (f && g)) ≡ ticks ((l && b) && (f && g)) + ticks (s && t)
  in_higher ea eb et =
      (λ i. ticks ((l && ea i) && (f && g))) ∙ (λ i. ticks (never l i && (f && g)))
      ∙ (λ i. ticks (sym (never l) i && (f && g)) + ticks (sym (never s) i))
      ∙ (λ i. ticks ((l && sym eb i) && (f && g)) + ticks (s && sym et i))

module _ (low row first last : ℕ) (from : low ≤ row) (first_in : first < 64) (last_in : last < 64) where
  module _ (bucket q m : ℕ) (is : q * 64 + m ≡ bucket) (small : m < 64) where
    row_cases : ticks ((nat_le low q && nat_lt q (row + 1)) && (nat_le first m && nat_le m last))
        ≡ ticks ((nat_le low q && nat_lt q row) && (nat_le first m && nat_le m last)) + ticks (nat_le (row * 64 + first) bucket && nat_le bucket (row * 64 + last))
    row_cases =
        elim (cases_lt q row) [
          | inl lt ↦
              in_lower (nat_le low q) (nat_lt q (row + 1)) (nat_lt q row) (nat_le first m) (nat_le m last) (nat_le (row * 64 + first) bucket) (nat_le bucket (row * 64 + last)) (lt-ltb q (row + 1) (omega (arith, lt))) (lt-ltb q row lt) (lt-leb (row * 64 + first) bucket (omega (arith, lt, is, small)))
          | inr ge ↦
              elim (cases_lt row q) [
                | inl gt ↦
                    in_higher (nat_le low q) (nat_lt q (row + 1)) (nat_lt q row) (nat_le first m) (nat_le m last) (nat_le (row * 64 + first) bucket) (nat_le bucket (row * 64 + last)) (le-ltb q (row + 1) (omega (arith, gt))) (le-ltb q row ge) (lt-leb bucket (row * 64 + last) (omega (arith, gt, is, last_in)))
                | inr le ↦
                    in_row (nat_le low q) (nat_lt q (row + 1)) (nat_lt q row) (nat_le first m) (nat_le m last) (nat_le (row * 64 + first) bucket) (nat_le bucket (row * 64 + last)) (le-leb low q (omega (arith, from, ge))) (lt-ltb q (row + 1) (omega (arith, le))) (le-ltb q row ge)
                    (same_order (row * 64 + first) bucket first m (λ h. omega (arith, h, is, ge, le)) (λ h. omega (arith, h, is, ge, le)))
                    (same_order bucket (row * 64 + last) m last (λ h. omega (arith, h, is, ge, le)) (λ h. omega (arith, h, is, ge, le)))
              ]
        ]

  pub count_row : (entries : List Entry)
      → length (filter (stands_before low (row + 1) first last) entries) ≡ length (filter (stands_before low row first last) entries) + length (filter (stands_between (row * 64 + first) (row * 64 + last)) entries)
  count_row =
      length-parts _ _ _
      (λ entry. row_cases entry.bucket (entry.bucket / 64) (entry.bucket % 64) (div-add-mod' entry.bucket 64) (mod-lt entry.bucket (omega arith)))

filter-none : {X : Type 0} (xs : List X) → filter (λ _. false) xs ≡ []
filter-none [] = refl
filter-none (x ∷ xs) = filter-none xs

module _ (low first last : ℕ) where
  no_row : (q : ℕ) (c : Bool) → ((nat_le low q && nat_lt q low) && c) ≡ false
  no_row q c =
      elim (cases_lt q low) [
        | inl lt ↦ ap (λ (b : Bool). (b && nat_lt q low) && c) (lt-leb low q lt)
        | inr ge ↦ ap (λ (b : Bool). (nat_le low q && b) && c) (le-ltb q low ge) ∙ ap (λ (b : Bool). b && c) (never (nat_le low q))
      ]

  pub count_no_row : (entries : List Entry) → length (filter (stands_before low low first last) entries) ≡ 0
  count_no_row entries =
      ap length (filter_agree _ _ (λ (entry : Entry). no_row (entry.bucket / 64) (is_between first last (entry.bucket % 64))) entries ∙ filter-none entries)

  rows_done : (high end q : ℕ) → high < end → end ≤ max low (high + 1) → (nat_le low q && nat_lt q end) ≡ (nat_le low q && nat_le q high)
  rows_done high end q past within =
      elim (cases_lt q low) [
        | inl lt ↦ ap (λ (b : Bool). b && nat_lt q end) (lt-leb low q lt) ∙ sym (ap (λ (b : Bool). b && nat_le q high) (lt-leb low q lt))
        | inr ge ↦
            ap (λ (b : Bool). nat_le low q && b)
            (same_tests _ _ (λ e. le-leb q high (omega (arith, ltb-true q end e, past, within, ge))) (λ e. lt-ltb q end (omega (arith, leb-true q high e, past))))
      ]

  pub count_rows : (high end : ℕ) → high < end → end ≤ max low (high + 1) → (entries : List Entry)
      → length (filter (stands_before low end first last) entries) ≡ length (filter (stands_within low high first last) entries)
  count_rows high end past within entries =
      ap length
      (filter_agree _ _ (λ (entry : Entry). ap (λ (b : Bool). b && is_between first last (entry.bucket % 64)) (rows_done high end (entry.bucket / 64) past within)) entries)

-- ---- and beside them

module _ (e p w : Bool) where
  elsewhere : e ≡ false → p ≡ false → ticks (e || w) ≡ ticks p + ticks w
  elsewhere ee ep = (λ i. ticks (ee i || w)) ∙ more_than_none (ticks w) ∙ (λ i. ticks (sym ep i) + ticks w)

  beside : e ≡ true → p ≡ true → w ≡ false → ticks (e || w) ≡ ticks p + ticks w
  beside ee ep ew = (λ i. ticks (ee i || w)) ∙ (λ i. ticks (sym ep i) + ticks (sym ew i))

module _ (low high first last : ℕ) (high_in : high < 64) where
  module _ (bucket q m : ℕ) (is : q * 64 + m ≡ bucket) (small : m < 64) where
    no_row_beside : 4096 ≤ bucket → (is_between low high q && is_between first last m) ≡ false
    no_row_beside ge =
        ap (λ (b : Bool). (nat_le low q && b) && is_between first last m) (lt-leb q high (omega (arith, ge, is, small, high_in)))
        ∙ ap (λ (b : Bool). b && is_between first last m) (never (nat_le low q))

    beside_cases : ticks (bucket == 4096 || (is_between low high q && is_between first last m)) ≡ ticks (is_between 4096 4096 bucket) + ticks (is_between low high q && is_between first last m)
    beside_cases =
        elim (cases_lt bucket 4096) [
          | inl lt ↦
              elsewhere (bucket == 4096) (is_between 4096 4096 bucket) (is_between low high q && is_between first last m) (ne_eqb bucket 4096 (λ same. omega (arith, lt, same))) (ap (λ (b : Bool). b && nat_le bucket 4096) (lt-leb 4096 bucket lt))
          | inr ge ↦
              elim (cases_lt 4096 bucket) [
                | inl gt ↦
                    elsewhere (bucket == 4096) (is_between 4096 4096 bucket) (is_between low high q && is_between first last m) (ne_eqb bucket 4096 (λ same. omega (arith, gt, same)))
                    (ap (λ (b : Bool). nat_le 4096 bucket && b) (lt-leb bucket 4096 gt) ∙ never (nat_le 4096 bucket))
                | inr le ↦
                    beside (bucket == 4096) (is_between 4096 4096 bucket) (is_between low high q && is_between first last m) (eq-eqb bucket 4096 (omega (arith, ge, le))) (both _ _ (le-leb 4096 bucket ge) (le-leb bucket 4096 le)) (no_row_beside ge)
              ]
        ]

  pub count_all : (entries : List Entry)
      → length (filter (λ (entry : Entry). entry.bucket == 4096 || stands_within low high first last entry) entries) ≡ length (filter (stands_between 4096 4096) entries) + length (filter (stands_within low high first last) entries)
  count_all =
      length-parts _ _ _
      (λ entry. beside_cases entry.bucket (entry.bucket / 64) (entry.bucket % 64) (div-add-mod' entry.bucket 64) (mod-lt entry.bucket (omega arith)))

-- ---- the entries that are found

pub found_there : {X : Type 0} (p : X → Bool) (xs : List X) (x : X) → p x ≡ true → Has x xs → Has x (filter p xs)
found_there p [] x e h = absurd h
found_there {X} p (y ∷ ys) x e (inl same) = subst (λ (l : List X). Has x l) (sym (kept p y ys (ap p same ∙ e))) (inl same)
found_there {X} p (y ∷ ys) x e (inr h) = by (p y) refl (found_there p ys x e h)
  where
    by : (b : Bool) → p y ≡ b → Has x (filter p ys) → Has x (filter p (y ∷ ys))
    by true is later = subst (λ (l : List X). Has x l) (sym (kept p y ys is)) (inr later)
    by false is later = subst (λ (l : List X). Has x l) (sym (left_out p y ys is)) later

pub stands_there : (entries : List Entry) (first last : ℕ) (entry : Entry) → Contains entries entry → first ≤ entry.bucket → entry.bucket ≤ last
    → Contains (filter (stands_between first last) entries) entry
stands_there entries first last entry there from to =
    has_in (filter (stands_between first last) entries) entry
    (found_there (stands_between first last) entries entry (both _ _ (le-leb first entry.bucket from) (le-leb entry.bucket last to)) (has_out entries entry there))

-- ---- row by row

-- so many are counted in the rows from one up to the one before another
pub record AreCounted (entries : List Entry) (low high end first last looked_at : ℕ) : Type 0 where
  pub counted : looked_at ≡ min (length (filter (stands_before low end first last) entries)) 18446744073709551615
  pub from : low ≤ end
  pub within : end ≤ max low (high + 1)

module _ (entries : List Entry) (low high first last : ℕ) where
  pub counted_none : AreCounted entries low high low first last 0
  counted_none = record {
    counted = omega (arith, count_no_row low first last entries);
    from = omega arith;
    within = omega arith;
  }

  pub counted_row : (end before here after : ℕ) → first < 64 → last < 64 → end < high + 1 → AreCounted entries low high end first last before
      → here ≡ length (filter (stands_between (end * 64 + first) (end * 64 + last)) entries) → after ≡ min (before + here) 18446744073709551615
      → AreCounted entries low high (end + 1) first last after
  counted_row end before here after first_in last_in lt so_far e f = record {
    counted = omega (arith, so_far.counted, e, f, count_row low end first last so_far.from first_in last_in entries);
    from = omega (arith, so_far.from);
    within = omega (arith, lt);
  }

  pub counted_rows : (end looked_at : ℕ) → high < end → AreCounted entries low high end first last looked_at
      → looked_at ≡ min (length (filter (stands_within low high first last) entries)) 18446744073709551615
  counted_rows end looked_at past so_far =
      omega (arith, so_far.counted, count_rows low first last high end past so_far.within entries)

  pub counted_all : (beside within all : ℕ) → high < 64 → beside ≡ length (filter (stands_between 4096 4096) entries)
      → within ≡ min (length (filter (stands_within low high first last) entries)) 18446744073709551615 → all ≡ min (beside + within) 18446744073709551615
      → all ≡ min (length (filter (λ (entry : Entry). entry.bucket == 4096 || stands_within low high first last entry) entries)) 18446744073709551615
  counted_all beside within all high_in e f g =
      omega (arith, e, f, g, count_all low high first last high_in entries)

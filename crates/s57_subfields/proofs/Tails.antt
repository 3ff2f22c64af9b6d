-- Groups that are read one behind the other.
use Rattle.std.proofs.Common.{◌≡◌, ◌∙◌, ℕ, zero, suc, ◌+◌, ◌<◌, ◌≤◌, List, [], ◌∷◌, ◌++◌, length, get_or, take, drop}
use Rattle.std.proofs.Common.{drop-cons, map, append_assoc, ◌-◌, add-one, filter, Bool, ◌||◌, true, false, Option, Some}
use Rattle.std.proofs.Common.{refl, sym, ap, arith}
use Rattle.std.specs.Prelude.{pos}
use Rattle.std.proofs.Math.ListN.{drop_of_length-le}
use Rattle.std.proofs.lemmas.Grind.{common_steps}
use Rattle.std.proofs.lemmas.List.{drop-drop, map-append}
use Rattle.std.specs.List.{list_any}
use Rattle.std.proofs.lemmas.List.Folds.{list_any-append}
use Rattle.std.specs.Str.{bytes_eq}
use Rattle.iso8211_records.specs.declared.record.RawField.{RawField}
use Rattle.iso8211_records.specs.declared.value.Value.{Value}
use Rattle.iso8211_records.specs.declared.value.Value.TheVariants.{Number}
use Rattle.s57_subfields.specs.Tails.{tails, tails_of}

-- stands for the element of a list that has one
pub any : Value
any = Number (pos 0)

-- ---- from one group to the next

pub tails-none : {A : Type 0} (between n : ℕ) → ◌≡◌ {A = List (List A)} (tails between n []) []
tails-none between zero = refl
tails-none between (suc n) = refl

pub tails-drop : {A : Type 0} (between n : ℕ) (xs : List A) → tails between n xs ≡ tails between 0 (drop n xs)
tails-drop between zero [] = refl
tails-drop between zero (x ∷ xs) = refl
tails-drop between (suc n) [] = refl
tails-drop between (suc n) (x ∷ xs) = tails-drop between n xs

tails-first : {A : Type 0} (between : ℕ) (x : A) (xs : List A) →
    tails between 0 (x ∷ xs) ≡ (x ∷ xs) ∷ tails between between xs
tails-first between x xs = refl

pub tails-step :
    {A : Type 0} (between at : ℕ) (xs : List A) (d : A) → at < length xs →
    tails between 0 (drop at xs) ≡ drop at xs ∷ tails between 0 (drop (at + (between + 1)) xs)
tails-step between at xs d lt =
    let here = drop-cons xs at d lt in
    ap (tails between 0) here
    ∙ tails-first between (get_or xs at d) (drop (suc at) xs)
    ∙ ap (λ front. front ∷ tails between between (drop (suc at) xs)) (sym here)
    ∙ ap (λ rest. drop at xs ∷ rest) (tails-drop between between (drop (suc at) xs)
    ∙ ap (tails between 0) (drop-drop between (suc at) xs ∙ ap (λ k. drop k xs) (omega arith)))

pub tails-end : {A : Type 0} (between at : ℕ) (xs : List A) → length xs ≤ at → tails between 0 (drop at xs) ≡ []
tails-end between at xs done = ap (tails between 0) (drop_of_length-le xs done) ∙ tails-none between 0

-- ---- one field after the other

-- the groups in the fields of the tag
abbrev pub groups_under : List ℕ → ℕ → ℕ → List RawField → List (List Value)
groups_under tag at between fields =
    tails_of at between (map (λ field. field.values) (filter (λ field. bytes_eq field.tag tag) fields))

pub groups_under-same :
    (tag : List ℕ) (at between : ℕ) (fields : List RawField) (i : ℕ) (field : RawField) → i < length fields →
    field ≡ get_or fields i field → bytes_eq field.tag tag ≡ true →
    groups_under tag at between (drop i fields)
    ≡ tails between at field.values ++ groups_under tag at between (drop (i + 1) fields)
groups_under-same tag at between fields i field lt is same =
    ap (groups_under tag at between) (drop-cons fields i field lt ∙ ap (λ f. f ∷ drop (suc i) fields) (sym is))
    ∙ rw (same, add-one i) refl

pub groups_under-other :
    (tag : List ℕ) (at between : ℕ) (fields : List RawField) (i : ℕ) (field : RawField) → i < length fields →
    field ≡ get_or fields i field → bytes_eq field.tag tag ≡ false →
    groups_under tag at between (drop i fields) ≡ groups_under tag at between (drop (i + 1) fields)
groups_under-other tag at between fields i field lt is other =
    ap (groups_under tag at between) (drop-cons fields i field lt ∙ ap (λ f. f ∷ drop (suc i) fields) (sym is))
    ∙ rw (other, add-one i) refl

pub groups_under-end :
    (tag : List ℕ) (at between : ℕ) (fields : List RawField) (i : ℕ) → length fields ≤ i →
    groups_under tag at between (drop i fields) ≡ []
groups_under-end tag at between fields i done = ap (groups_under tag at between) (drop_of_length-le fields done)

-- ---- a group that is read goes to what was read before

pub group-read :
    {B : Type 0} (reads : List Value → Option B) (front : List B) (between at : ℕ) (values : List Value) (item : B)
    (d : Value) → at < length values → reads (drop at values) ≡ Some item →
    map (λ y. Some y) (front ++ item ∷ []) ++ map reads (tails between 0 (drop (at + (between + 1)) values))
    ≡ map (λ y. Some y) front ++ map reads (tails between 0 (drop at values))
group-read {B = B} reads front between at values item d lt good =
    let rest = map reads (tails between 0 (drop (at + (between + 1)) values)) in
    ap (λ (xs : List (Option B)). xs ++ rest) (map-append (λ y. Some y) front (item ∷ []))
    ∙ append_assoc (map (λ y. Some y) front) (Some item ∷ []) rest
    ∙ ap (λ (o : Option B). map (λ y. Some y) front ++ (o ∷ rest)) (sym good)
    ∙ ap (λ groups. map (λ y. Some y) front ++ map reads groups) (sym (tails-step between at values d lt))

-- the slice from a place on
pub rest-is : {A : Type 0} (xs : List A) (at : ℕ) → take (length xs - at) (drop at xs) ≡ drop at xs
rest-is xs at = grind (arith, common_steps)

-- the groups of a field of the tag go to what was read before
pub field-read :
    {B : Type 0} (reads : List Value → Option B) (front all : List B) (tag : List ℕ) (at between : ℕ)
    (fields : List RawField) (i : ℕ) (field : RawField) → i < length fields →
    field ≡ get_or fields i field → bytes_eq field.tag tag ≡ true →
    map (λ y. Some y) all ≡ map (λ y. Some y) front ++ map reads (tails between at field.values) →
    map (λ y. Some y) all ++ map reads (groups_under tag at between (drop (i + 1) fields))
    ≡ map (λ y. Some y) front ++ map reads (groups_under tag at between (drop i fields))
field-read {B = B} reads front all tag at between fields i field lt is same good =
    let here = tails between at field.values in
    let rest = groups_under tag at between (drop (i + 1) fields) in
    ap (λ (items : List (Option B)). items ++ map reads rest) good
    ∙ append_assoc (map (λ y. Some y) front) (map reads here) (map reads rest)
    ∙ ap (λ (items : List (Option B)). map (λ y. Some y) front ++ items)
    (sym (map-append reads here rest)
    ∙ ap (map reads) (sym (groups_under-same tag at between fields i field lt is same)))

-- ---- a group that passes a test

-- the group at a place passes it
pub any-there :
    (test : List Value → Bool) (between at : ℕ) (values : List Value) → at < length values →
    test (drop at values) ≡ true → list_any test (tails between 0 (drop at values)) ≡ true
any-there test between at values lt here =
    ap (list_any test) (tails-step between at values any lt)
    ∙ ap (λ (first : Bool). first || list_any test (tails between 0 (drop (at + (between + 1)) values))) here

-- the group at a place doesn't
pub any-past :
    (test : List Value → Bool) (between at : ℕ) (values : List Value) → at < length values →
    test (drop at values) ≡ false →
    list_any test (tails between 0 (drop (at + (between + 1)) values)) ≡ list_any test (tails between 0 (drop at values))
any-past test between at values lt here =
    sym (ap (list_any test) (tails-step between at values any lt)
    ∙ ap (λ (first : Bool). first || list_any test (tails between 0 (drop (at + (between + 1)) values))) here)

-- no group is left
pub any-end :
    (test : List Value → Bool) (between at : ℕ) (values : List Value) → length values ≤ at →
    list_any test (tails between 0 (drop at values)) ≡ false
any-end test between at values done = ap (list_any test) (tails-end between at values done)

-- of the fields from one of the tag on, that field has such a group
pub field-there :
    (test : List Value → Bool) (tag : List ℕ) (at between : ℕ) (fields : List RawField) (i : ℕ) (field : RawField) →
    i < length fields → field ≡ get_or fields i field → bytes_eq field.tag tag ≡ true →
    list_any test (tails between at field.values) ≡ true →
    list_any test (groups_under tag at between (drop i fields)) ≡ true
field-there test tag at between fields i field lt is same here =
    ap (list_any test) (groups_under-same tag at between fields i field lt is same)
    ∙ list_any-append test (tails between at field.values) (groups_under tag at between (drop (i + 1) fields))
    ∙ ap (λ (first : Bool). first || list_any test (groups_under tag at between (drop (i + 1) fields))) here

-- that field has none
pub field-past :
    (test : List Value → Bool) (tag : List ℕ) (at between : ℕ) (fields : List RawField) (i : ℕ) (field : RawField) →
    i < length fields → field ≡ get_or fields i field → bytes_eq field.tag tag ≡ true →
    list_any test (tails between at field.values) ≡ false →
    list_any test (groups_under tag at between (drop (i + 1) fields))
    ≡ list_any test (groups_under tag at between (drop i fields))
field-past test tag at between fields i field lt is same here =
    sym (ap (list_any test) (groups_under-same tag at between fields i field lt is same)
    ∙ list_any-append test (tails between at field.values) (groups_under tag at between (drop (i + 1) fields))
    ∙ ap (λ (first : Bool). first || list_any test (groups_under tag at between (drop (i + 1) fields))) here)

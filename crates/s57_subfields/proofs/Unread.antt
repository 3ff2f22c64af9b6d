-- A group that isn't read, among those before it and behind it, and the fields of a record one by one.
use Rattle.std.proofs.Common.{◌≡◌, ◌∙◌, ℕ, ◌+◌, ◌<◌, true, List, [], ◌∷◌, ◌++◌, length, get_or, drop, map, Option, Some, None}
use Rattle.std.proofs.Common.{refl, sym, ap, subst}
use Rattle.std.proofs.lemmas.List.{map-append}
use Rattle.std.specs.Str.{bytes_eq}
use Rattle.iso8211_records.specs.declared.record.RawField.{RawField}
use Rattle.iso8211_records.specs.declared.value.Value.{Value}
use Rattle.s57_subfields.specs.Tails.{HasNone, tails}
use Rattle.s57_subfields.proofs.Tails.{field-read, groups_under, groups_under-same, tails-step}

-- what was read before has none
behind-read : {A : Type 0} (xs : List A) (answers : List (Option A)) → HasNone answers
    → HasNone (map (λ x. Some x) xs ++ answers)
behind-read [] answers has = has
behind-read (x ∷ xs) answers has = behind-read xs answers has

past-read : {A : Type 0} (xs : List A) (answers : List (Option A)) → HasNone (map (λ x. Some x) xs ++ answers)
    → HasNone answers
past-read [] answers has = has
past-read (x ∷ xs) answers has = past-read xs answers has

in-front : {A : Type 0} (answers rest : List (Option A)) → HasNone answers → HasNone (answers ++ rest)
in-front [] rest has = absurd cc
in-front (None ∷ answers) rest has = refl
in-front (Some x ∷ answers) rest has = in-front answers rest has

-- of a field's groups one isn't read
pub group-unread : {A : Type 0} (reads : List Value → Option A) (before xs : List A) (between start at : ℕ)
    (values : List Value) (d : Value) → at < length values → reads (drop at values) ≡ None
    → map (λ x. Some x) xs ++ map reads (tails between 0 (drop at values))
    ≡ map (λ x. Some x) before ++ map reads (tails between start values)
    → HasNone (map reads (tails between start values))
group-unread {A = A} reads before xs between start at values d lt unread goes_on =
    let rest = map reads (tails between 0 (drop (at + (between + 1)) values)) in
    let here : map reads (tails between 0 (drop at values)) ≡ None ∷ rest =
    ap (map reads) (tails-step between at values d lt) ∙ ap (λ (answer : Option A). answer ∷ rest) unread in
    let has : HasNone (map reads (tails between 0 (drop at values))) = subst HasNone (sym here) refl in
    past-read before (map reads (tails between start values))
    (subst HasNone goes_on (behind-read xs (map reads (tails between 0 (drop at values))) has))

-- of the groups of a record's fields one isn't read
field-unread : {A : Type 0} (reads : List Value → Option A) (xs : List A) (tag : List ℕ) (at between : ℕ)
    (fields : List RawField) (i : ℕ) (field : RawField) → i < length fields
    → field ≡ get_or fields i field → bytes_eq field.tag tag ≡ true
    → HasNone (map reads (tails between at field.values))
    → map (λ x. Some x) xs ++ map reads (groups_under tag at between (drop i fields))
    ≡ map reads (groups_under tag at between fields)
    → HasNone (map reads (groups_under tag at between fields))
field-unread reads xs tag at between fields i field lt is same has goes_on =
    let here = tails between at field.values in
    let rest = groups_under tag at between (drop (i + 1) fields) in
    let parted : map reads (groups_under tag at between (drop i fields)) ≡ map reads here ++ map reads rest =
    ap (map reads) (groups_under-same tag at between fields i field lt is same) ∙ map-append reads here rest in
    subst HasNone goes_on
    (behind-read xs (map reads (groups_under tag at between (drop i fields)))
    (subst HasNone (sym parted) (in-front (map reads here) (map reads rest) has)))

-- at a field of the tag, behind what was read of the fields before it
module _ {A : Type 0} (reads : List Value → Option A) (front : List A) (tag : List ℕ) (at between : ℕ)
    (fields : List RawField) (i : ℕ) {field : RawField} {values : List Value} (inside : i < length fields)
    (is : field ≡ get_or fields i field) (same : bytes_eq field.tag tag ≡ true) (values_are : values ≡ field.values)
    (goes_on : map (λ x. Some x) front ++ map reads (groups_under tag at between (drop i fields))
    ≡ map reads (groups_under tag at between fields))
  where
    -- its groups are read
    pub groups-go_on : (all : List A)
        → map (λ x. Some x) all ≡ map (λ x. Some x) front ++ map reads (tails between at values)
        → map (λ x. Some x) all ++ map reads (groups_under tag at between (drop (i + 1) fields))
        ≡ map reads (groups_under tag at between fields)
    groups-go_on all found =
        field-read reads front all tag at between fields i field inside is same
        (found ∙ ap (λ (vs : List Value). map (λ x. Some x) front ++ map reads (tails between at vs)) values_are)
        ∙ goes_on

    -- one of them isn't what it has to be
    pub groups-have_none : HasNone (map reads (tails between at values))
        → HasNone (map reads (groups_under tag at between fields))
    groups-have_none none =
        field-unread reads front tag at between fields i field inside is same
        (subst (λ (vs : List Value). HasNone (map reads (tails between at vs))) values_are none) goes_on

-- Parts of a list that grows at its end.
use Rattle.std.proofs.Common.{◌≡◌, ℕ, suc, zero, ◌-◌, ◌≤◌, List, [], ◌∷◌, ◌++◌, length, map, take, drop, get_or, Option, Some, None, Result, Ok, Err, OnOk, refl, sym, ◌∙◌, ap, subst, arith, length-drop}
use Rattle.std.specs.List.{All}
use Rattle.std.proofs.lemmas.List.{append-nil, drop-append-le, length-map, map-append, take-append-le, take_at}
use Rattle.iso8211_records.specs.Draft.{AreFieldExtents, AreExtents, FieldExtent, IsExtent, field_of, fields_in, part}
use Rattle.iso8211_records.specs.declared.draft.Extent.{Extent}
use Rattle.iso8211_records.specs.Values.{Finds, before_all}
use Rattle.iso8211_records.specs.declared.fault.ValuesFault.{ValuesFault}
use Rattle.iso8211_records.specs.declared.fault.ValuesFault.TheVariants.{Unspelled, NoMemory}
use Rattle.iso8211_records.specs.declared.record.RawField.{RawField}
use Rattle.iso8211_records.specs.declared.value.Value.{Value}

-- a part stays where more comes behind it
part-kept : {A : Type 0} (all more : List A) (extent : Extent) → IsExtent (length all) extent → part (all ++ more) extent ≡ part all extent
part-kept all more extent is =
    ap (take (extent.to - extent.from)) (drop-append-le extent.from all more (omega (arith, is.0, is.1)))
    ∙ take-append-le (extent.to - extent.from) (drop extent.from all) more (omega (arith, is.0, is.1, length-drop extent.from all))

-- what is the same of each element is the same of a list
same_of_each : {X Y : Type 0} (f g : X → Y) (xs : List X) → All (λ x. f x ≡ g x) xs → map f xs ≡ map g xs
same_of_each f g [] each = refl
same_of_each f g (x ∷ xs) each =
    let here : f x ≡ g x = each zero x (omega arith) in
    rw (here, same_of_each f g xs (λ k d below. each (suc k) d (omega (arith, below)))) refl

pub fields-kept : (extents : List FieldExtent) (values more : List Value) → AreFieldExtents (length values) extents → fields_in extents (values ++ more) ≡ fields_in extents values
fields-kept extents values more are =
    same_of_each (field_of (values ++ more)) (field_of values) extents
    (λ k d below. ap (λ (part_values : List Value). record { tag = (get_or extents k d).0; values = part_values }) (part-kept values more (get_or extents k d).1 (are k d below)))

records-kept : (extents : List Extent) (fields more : List RawField) → AreExtents (length fields) extents → map (part (fields ++ more)) extents ≡ map (part fields) extents
records-kept extents fields more are =
    same_of_each (part (fields ++ more)) (part fields) extents (λ k d below. part-kept fields more (get_or extents k d) (are k d below))

-- what stands behind a place is the part from there up to the end
pub part-rest : {A : Type 0} (all : List A) (from : ℕ) → part all (record { from = from; to = length all }) ≡ drop from all
part-rest all from =
    (let count : length all - from ≡ length (drop from all) = sym (length-drop from all) in
    rw count (ap (take (length (drop from all))) (sym (append-nil (drop from all))) ∙ take_at (drop from all) [] (length (drop from all)) refl))

-- a field more, of the values behind a place
pub fields-more : (extents new : List FieldExtent) (values : List Value) (tag : List ℕ) (from to : ℕ)
    → new ≡ extents ++ (tag, record { from = from; to = to }) ∷ [] → to ≡ length values
    → fields_in new values ≡ fields_in extents values ++ record { tag = tag; values = drop from values } ∷ []
fields-more extents new values tag from to more end =
    ap (λ (all : List FieldExtent). fields_in all values) (rw end at more)
    ∙ map-append (field_of values) extents ((tag, record { from = from; to = length values }) ∷ [])
    ∙ rw (part-rest values from) refl

-- leaves the records that are ended
pub records-stay : (records : List Extent) (extents : List FieldExtent) (values : List Value) (field : RawField) → AreExtents (length extents) records
    → map (part (fields_in extents values ++ field ∷ [])) records ≡ map (part (fields_in extents values)) records
records-stay records extents values field are =
    records-kept records (fields_in extents values) (field ∷ []) (subst (λ n. AreExtents n records) (sym (length-map extents (field_of values))) are)

-- and is the last of the record that isn't
pub begun-more : (from : ℕ) (extents : List FieldExtent) (values : List Value) (field : RawField) → from ≤ length extents
    → drop from (fields_in extents values ++ field ∷ []) ≡ drop from (fields_in extents values) ++ field ∷ []
begun-more from extents values field inside =
    drop-append-le from (fields_in extents values) (field ∷ []) (omega (arith, inside, length-map extents (field_of values)))

-- values more, of the field that isn't ended yet
pub values-more : {X : Type 0} (result : Result X ValuesFault) (values new : List Value) (from : ℕ) (read : Option (List Value)) → from ≤ length values
    → Finds (λ _. new) result (before_all values read) → Finds (λ _. drop from new) result (before_all (drop from values) read)
values-more (Ok x) values new from None inside h = absurd cc
values-more (Ok x) values new from (Some more) inside h =
    let is : values ++ more ≡ new = grind arith in
    ap (λ (l : List Value). Some l) (sym (drop-append-le from values more inside) ∙ ap (drop from) is)
values-more (Err NoMemory) values new from read inside h = tt
values-more (Err Unspelled) values new from None inside h = refl
values-more (Err Unspelled) values new from (Some more) inside h = absurd cc

-- and the fields before it stay
pub fields-stay : {X : Type 0} (result : Result X ValuesFault) (extents : List FieldExtent) (values new : List Value) (read : Option (List Value)) → AreFieldExtents (length values) extents
    → Finds (λ _. new) result (before_all values read) → OnOk result (fields_in extents new ≡ fields_in extents values)
fields-stay (Ok x) extents values new None are h = absurd cc
fields-stay (Ok x) extents values new (Some more) are h =
    let is : values ++ more ≡ new = grind arith in
    ap (fields_in extents) (sym is) ∙ fields-kept extents values more are
fields-stay (Err fault) extents values new read are h = tt

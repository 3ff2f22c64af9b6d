-- A list of a written record: where each item has a group of its own that reads as the item, the list reads as its items.
use Rattle.std.proofs.Common.{◌≡◌, ◌∙◌, ℕ, Bool, true, false, ◌||◌, List, [], ◌∷◌, ◌++◌, length, map, Option, Some, None, Result, Ok, Err, refl, sym, ap, append-nil}
use Rattle.std.specs.Prelude.{flat_map, is_none, option_and_then}
use Rattle.std.specs.List.{AllByRecursion, list_any}
use Rattle.chart_model.specs.Answers.{when, first_of}
use Rattle.iso8211_formats.specs.Layout.{Layout}
use Rattle.iso8211_records.specs.declared.value.Value.{Value}
use Rattle.s57_subfields.specs.declared.fault.FieldFault.{FieldFault}
use Rattle.s57_subfields.specs.Answers.{missing_field, bad_value}
use Rattle.s57_subfields.specs.Groups.{AreGrouped, FaultIsFirst, GroupedField, ItemsAreGroups, fault_in, fault_under}
use Rattle.s57_subfields.specs.Groups.{group_size, in_group}
use Rattle.s57_subfields.specs.Lists.{column_fault, distance}
use Rattle.s57_subfields.specs.Places.{group_start, subfield_of}
use Rattle.s57_subfields.specs.RowValues.{RowValues}

-- the values of the list's fields: one field with all groups, or none where there is no item
abbrev pub fields_with : {X : Type 0} → (X → List Value) → List X → List (List Value)
fields_with values [] = []
fields_with values (x ∷ xs) = flat_map values (x ∷ xs) ∷ []

-- ---- without a fault

calm : (a b : Bool) (f g : FieldFault) → a ≡ false → b ≡ false → first_of (when a f ∷ when b g ∷ []) ≡ None
calm false false f g p q = refl
calm false true f g p q = absurd cc
calm true b f g p q = absurd cc

there : {B : Type 0} (place : Option ℕ) (then : ℕ → Option B) (value : B) → option_and_then then place ≡ Some value → is_none place ≡ false
there None then value e = absurd cc
there (Some at) then value e = refl

each_there : {X B : Type 0} (read : List Value → Option B) (values : X → List Value) (part : X → B) (P : X → Type 0)
    → ((x : X) → P x → read (values x) ≡ Some (part x)) → (xs : List X) → AllByRecursion P xs
    → list_any (λ group. is_none (read group)) (map values xs) ≡ false
each_there read values part P reads [] all = refl
each_there read values part P reads (x ∷ xs) all =
    ap (λ (first : Option _). is_none first || list_any (λ group. is_none (read group)) (map values xs)) (reads x all.0)
    ∙ each_there read values part P reads xs all.1

-- under a label that each group is read under there is no fault
pub no_fault_under : {X B : Type 0} (read : Value → Option B) (label : List ℕ) (layout : Layout) (row : RowValues)
    (values : X → List Value) (part : X → B) (P : X → Type 0)
    → ((x : X) → P x → in_group read layout label (values x) ≡ Some (part x)) → (x : X) (xs : List X) → AllByRecursion P (x ∷ xs)
    → fault_under read label layout row (map values (x ∷ xs)) ≡ None
unfolding column_fault
no_fault_under read label layout row values part P reads x xs all =
    calm _ _ (missing_field row) (bad_value row label)
    (there (distance (subfield_of (Some layout) label).place) _ (part x) (reads x all.0))
    (each_there (in_group read layout label) values part P reads (x ∷ xs) all)

none_first : (faults : List (Option FieldFault)) → AllByRecursion (λ fault. fault ≡ None) faults → first_of faults ≡ None
none_first [] all = refl
none_first (None ∷ faults) all = none_first faults all.1
none_first (Some fault ∷ faults) all = let none : Some fault ≡ None = all.0 in absurd cc

without_fault : {A : Type 0} (answer : Result (List A) FieldFault) → fault_in answer ≡ None → (items : List A) × (answer ≡ Ok items)
without_fault (Ok items) e = (items, refl)
without_fault (Err fault) e = absurd cc

-- ---- groups

one_field : {X : Type 0} (values : X → List Value) (xs : List X) → flat_map values xs ≡ flat_map (λ group. group) (map values xs)
one_field values [] = refl
one_field values (x ∷ xs) = ap (λ (rest : List Value). values x ++ rest) (one_field values xs)

sizes-each : {X : Type 0} (size : ℕ) (values : X → List Value) (P : X → Type 0) → ((x : X) → P x → length (values x) ≡ size)
    → (xs : List X) → AllByRecursion P xs → AllByRecursion (λ group. length group ≡ size) (map values xs)
sizes-each size values P sized [] all = tt
sizes-each size values P sized (x ∷ xs) all = (sized x all.0, sizes-each size values P sized xs all.1)

items-each : {X A : Type 0} (read : List Value → Option A) (values : X → List Value) (made : X → A) (P : X → Type 0)
    → ((x : X) → P x → read (values x) ≡ Some (made x)) → (xs : List X) → AllByRecursion P xs
    → map read (map values xs) ≡ map (λ item. Some item) (map made xs)
items-each read values made P reads [] all = refl
items-each read values made P reads (x ∷ xs) all =
    let first = reads x all.0 in let rest = items-each read values made P reads xs all.1 in cc (first, rest)

same_items : {A : Type 0} (xs ys : List A) → map (λ x. Some x) xs ≡ map (λ x. Some x) ys → xs ≡ ys
same_items [] [] e = refl
same_items [] (y ∷ ys) e = absurd cc
same_items (x ∷ xs) [] e = absurd cc
same_items (x ∷ xs) (y ∷ ys) e =
    let rest : map (λ x. Some x) xs ≡ map (λ x. Some x) ys = cc in
    let first : x ≡ y = cc in
    cc (first, same_items xs ys rest)

-- ---- the list

-- Each item has a group with all subfields of the layout, and the group is read as what is made of the item.
pub record IsListOf
    {A X : Type 0}
    (item_in : Layout → List Value → Option A)
    (faults : Layout → RowValues → List (List Value) → List (Option FieldFault))
    (list_in : Option Layout → RowValues → Result (List A) FieldFault)
    (layout : Layout)
    (values : X → List Value)
    (made : X → A)
    (P : X → Type 0)
    : Type 0 where
  pub items : ItemsAreGroups item_in list_in
  pub fault : FaultIsFirst faults list_in
  pub start : group_start layout ≡ 0
  pub sized : (x : X) → P x → length (values x) ≡ group_size layout
  pub reads : (x : X) → P x → item_in layout (values x) ≡ Some (made x)
  pub faultless : (row : RowValues) (x : X) (xs : List X) → AllByRecursion P (x ∷ xs)
      → AllByRecursion (λ fault. fault ≡ None) (faults layout row (map values (x ∷ xs)))

abbrev parts_with : {X : Type 0} → (X → List Value) → List X → List GroupedField
parts_with values xs = record { once = []; groups = map values xs } ∷ []

pub list-read :
    {A X : Type 0}
    {item_in : Layout → List Value → Option A}
    {faults : Layout → RowValues → List (List Value) → List (Option FieldFault)}
    {list_in : Option Layout → RowValues → Result (List A) FieldFault}
    {layout : Layout} {values : X → List Value} {made : X → A} {P : X → Type 0}
    → IsListOf item_in faults list_in layout values made P
    → (row : RowValues) (xs : List X) → row.fields ≡ fields_with values xs → AllByRecursion P xs
    → list_in (Some layout) row ≡ Ok (map made xs)
list-read {layout = layout} is row [] fields all = is.fault.absent (Some layout) row fields
list-read {item_in = item_in} {faults = faults} {list_in = list_in} {layout = layout} {values = values} {made = made} {P = P} is row (x ∷ xs) fields all =
    let groups : List (List Value) = map values (x ∷ xs) in
    let grouped : AreGrouped layout (parts_with values (x ∷ xs)) row.fields = record {
      whole = (record { once = sym is.start; groups = sizes-each (group_size layout) values P is.sized (x ∷ xs) all }, tt);
      values = fields ∙ ap (λ (all : List Value). all ∷ []) (one_field values (x ∷ xs));
    } in
    let some : row.fields ≡ [] → ⊥ = λ e. (let none : flat_map values (x ∷ xs) ∷ [] ≡ [] = sym fields ∙ e in cc) in
    let same : groups ++ [] ≡ groups = append-nil groups in
    let faultless : first_of (faults layout row (groups ++ [])) ≡ None =
    ap (λ (gs : List (List Value)). first_of (faults layout row gs)) same ∙ none_first (faults layout row groups) (is.faultless row x xs all) in
    let read = without_fault (list_in (Some layout) row) (is.fault.first layout row (parts_with values (x ∷ xs)) grouped some ∙ faultless) in
    let each : map (λ item. Some item) read.0 ≡ map (λ item. Some item) (map made (x ∷ xs)) =
    sym (is.items layout row (parts_with values (x ∷ xs)) read.0 grouped read.1)
    ∙ ap (map (item_in layout)) same
    ∙ items-each (item_in layout) values made P is.reads (x ∷ xs) all in
    read.1 ∙ ap (λ (items : List _). Ok items) (same_items read.0 (map made (x ∷ xs)) each)

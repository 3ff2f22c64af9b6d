-- A list: each of its groups is read where no subfield has a fault, and else it is the first fault.
use Rattle.std.proofs.Common.{◌≡◌, ◌≢◌, ◌∙◌, ℕ, Bool, true, false, ◌||◌, List, [], ◌∷◌, length, map, Option, Some, None, Result, Ok, Err, refl, sym, ap, arith}
use Rattle.std.specs.Prelude.{◌==◌, filter_map, is_none, option_and_then}
use Rattle.std.specs.List.{AllByRecursion, list_any}
use Rattle.std.proofs.lemmas.Bool.{eqb-true, or_parts, true≢false}
use Rattle.iso8211_records.specs.declared.value.Value.{Value}
use Rattle.chart_model.specs.Answers.{when, first_of, unless}
use Rattle.s57_subfields.specs.declared.fault.FieldFault.{FieldFault}
use Rattle.s57_subfields.specs.declared.group.Groups.{Groups}
use Rattle.s57_subfields.specs.Answers.{Fails, missing_field, bad_value}
use Rattle.s57_subfields.specs.Lists.{Column, column_fault, distance, groups_in_fields, list_fault, list_if_there, list_in}
use Rattle.s57_subfields.specs.RowValues.{RowValues, first_of as first_field}
use Rattle.s57_subfields.specs.Tails.{HasNone}

-- a fault that is told is the answer
pub fails-with : {A : Type 0} (fault : FieldFault) (wanted : Result A FieldFault) → wanted ≡ Err fault → Fails fault wanted
fails-with fault wanted e = λ _. e

-- ---- steps that are taken one after the other

-- where what follows a step fails in the same cases, the whole fails where the step or what follows fails
pub none-then :
    {A B : Type 0} (first : Option A) (next : A → Option B) (rest : Bool) →
    ((x : A) → is_none (next x) ≡ rest) → is_none (option_and_then next first) ≡ (is_none first || rest)
none-then None next rest each = refl
none-then (Some x) next rest each = each x

-- ---- no fault

none-first :
    (fault : Option FieldFault) (more : List (Option FieldFault)) → first_of (fault ∷ more) ≡ None →
    (fault ≡ None) × (first_of more ≡ None)
none-first None more e = (refl, e)
none-first (Some fault) more e = absurd cc

none-when :
    (so : Bool) (fault : FieldFault) (more : List (Option FieldFault)) → first_of (when so fault ∷ more) ≡ None →
    (so ≡ false) × (first_of more ≡ None)
none-when false fault more e = (refl, e)
none-when true fault more e = absurd cc

-- without a fault a subfield is read in the first group, and has no fault in the others
column-first :
    (row : RowValues) (group : List Value) (groups : List (List Value)) (column : Column) →
    column_fault row (group ∷ groups) column ≡ None →
    (column.is_unread group ≡ false) × (column_fault row groups column ≡ None)
unfolding column_fault
column-first row group groups column e =
    let there = none-when (is_none (distance column.subfield.place)) (missing_field row) _ e in
    let unread = column.is_unread group || list_any column.is_unread groups in
    let good = none-when unread (bad_value row column.subfield.label) [] there.1 in
    let parts = or_parts (column.is_unread group) (list_any column.is_unread groups) good.0 in
    (parts.0, rw (there.0, parts.1) refl)

list-first :
    (row : RowValues) (group : List Value) (groups : List (List Value)) (columns : List Column) →
    list_fault row (group ∷ groups) columns ≡ None →
    (list_any (λ (column : Column). column.is_unread group) columns ≡ false) × (list_fault row groups columns ≡ None)
list-first row group groups [] e = (refl, refl)
list-first row group groups (column ∷ columns) e =
    let parts = none-first (column_fault row (group ∷ groups) column) _ e in
    let here = column-first row group groups column parts.0 in
    let others = list-first row group groups columns parts.1 in
    (rw here.0 others.0, rw here.1 others.1)

there-is : {A : Type 0} (option : Option A) → is_none option ≡ false → (x : A) × (option ≡ Some x)
there-is None e = absurd cc
there-is (Some x) e = (x, refl)

-- the subfields are unread in the groups that aren't read
abbrev pub AreSubfields : {A : Type 0} → (List Value → Option A) → List Column → Type 0
AreSubfields reads columns =
    (group : List Value) → is_none (reads group) ≡ list_any (λ (column : Column). column.is_unread group) columns

-- without a fault all groups are read
pub all-read :
    {A : Type 0} (reads : List Value → Option A) (columns : List Column) (row : RowValues) (groups : List (List Value)) →
    AreSubfields reads columns → list_fault row groups columns ≡ None →
    map reads groups ≡ map (λ item. Some item) (filter_map reads groups)
all-read reads columns row [] are e = refl
all-read {A} reads columns row (group ∷ groups) are e =
    let parts = list-first row group groups columns e in
    let item = there-is (reads group) (are group ∙ parts.0) in
    rw item.1 (ap (λ (rest : List (Option A)). Some item.0 ∷ rest) (all-read reads columns row groups are parts.1))

some-has_none : {A : Type 0} (items : List A) → list_any is_none (map (λ item. Some item) items) ≡ false
some-has_none [] = refl
some-has_none (item ∷ items) = some-has_none items

-- where a group isn't read there is a fault
pub unread-fault :
    {A : Type 0} (reads : List Value → Option A) (columns : List Column) (row : RowValues) (groups : List (List Value)) →
    AreSubfields reads columns → HasNone (map reads groups) → list_fault row groups columns ≢ None
unread-fault reads columns row groups are has e =
    true≢false (sym has ∙ ap (list_any is_none) (all-read reads columns row groups are e)
    ∙ some-has_none (filter_map reads groups))

-- ---- all groups are read

-- the items are those of the groups
items-are :
    {A : Type 0} (reads : List Value → Option A) (groups : List (List Value)) (items : List A) →
    map (λ item. Some item) items ≡ map reads groups → filter_map reads groups ≡ items
items-are reads [] [] e = refl
items-are reads [] (item ∷ items) e = absurd cc
items-are reads (group ∷ groups) [] e = absurd cc
items-are {A} reads (group ∷ groups) (item ∷ items) e =
    let first : reads group ≡ Some item = cc in
    let rest : map (λ item. Some item) items ≡ map reads groups = cc in
    rw first (ap (λ (more : List A). item ∷ more) (items-are reads groups items rest))

abbrev AreCalm : List Column → List (List Value) → Type 0
AreCalm columns groups =
    AllByRecursion (λ group. list_any (λ (column : Column). column.is_unread group) columns ≡ false) groups

each-calm :
    {A : Type 0} (reads : List Value → Option A) (columns : List Column) (groups : List (List Value)) (items : List A) →
    AreSubfields reads columns → map (λ item. Some item) items ≡ map reads groups → AreCalm columns groups
each-calm reads columns [] items are e = tt
each-calm reads columns (group ∷ groups) [] are e = absurd cc
each-calm reads columns (group ∷ groups) (item ∷ items) are e =
    let first : reads group ≡ Some item = cc in
    let rest : map (λ item. Some item) items ≡ map reads groups = cc in
    (sym (are group) ∙ ap is_none first, each-calm reads columns groups items are rest)

one-calm :
    (column : Column) (columns : List Column) (groups : List (List Value)) → AreCalm (column ∷ columns) groups →
    (list_any column.is_unread groups ≡ false) × AreCalm columns groups
one-calm column columns [] calm = (refl, tt)
one-calm column columns (group ∷ groups) calm =
    let parts = or_parts (column.is_unread group) _ calm.0 in
    let rest = one-calm column columns groups calm.1 in
    (rw parts.0 rest.0, (parts.1, rest.1))

found-there : {A : Type 0} (option : Option A) → (option ≡ None → true ≡ false) → is_none option ≡ false
found-there None without = without refl
found-there (Some x) without = refl

column-calm :
    (row : RowValues) (column : Column) (group : List Value) (groups : List (List Value)) →
    list_any column.is_unread (group ∷ groups) ≡ false → column_fault row (group ∷ groups) column ≡ None
unfolding column_fault
column-calm row column group groups calm =
    let first = (or_parts (column.is_unread group) (list_any column.is_unread groups) calm).0 in
    let there : is_none (distance column.subfield.place) ≡ false =
    found-there (distance column.subfield.place) (λ none. sym (column.unread_if_missing none group) ∙ first) in
    rw (there, calm) refl

list-calm :
    (row : RowValues) (columns : List Column) (group : List Value) (groups : List (List Value)) →
    AreCalm columns (group ∷ groups) → list_fault row (group ∷ groups) columns ≡ None
list-calm row [] group groups calm = refl
list-calm row (column ∷ columns) group groups calm =
    let parts = one-calm column columns (group ∷ groups) calm in
    let here = column-calm row column group groups parts.0 in
    rw here (list-calm row columns group groups parts.1)

-- where a group is read, and all are, there is no fault
read-calm :
    {A : Type 0} (reads : List Value → Option A) (columns : List Column) (row : RowValues)
    (groups : List (List Value)) (items : List A) → AreSubfields reads columns →
    map (λ item. Some item) items ≡ map reads groups → length items ≢ 0 → list_fault row groups columns ≡ None
read-calm reads columns row groups [] are e some = absurd (some refl)
read-calm reads columns row [] (item ∷ items) are e some = absurd cc
read-calm reads columns row (group ∷ groups) (item ∷ items) are e some =
    list-calm row columns group groups (each-calm reads columns (group ∷ groups) (item ∷ items) are e)

-- ---- the answers

if-absent :
    {A : Type 0} (fields : List (List Value)) (answer : Result (List A) FieldFault) →
    is_none (first_field fields) ≡ true → list_if_there fields answer ≡ Ok []
if-absent [] answer none = refl
if-absent (values ∷ more) answer none = absurd cc

if-there :
    {A : Type 0} (fields : List (List Value)) (answer : Result (List A) FieldFault) →
    is_none (first_field fields) ≡ false → list_if_there fields answer ≡ answer
if-there [] answer some = absurd cc
if-there (values ∷ more) answer some = refl

module _ {A : Type 0} (reads : List Value → Option A) (columns : List Column) (groups : Groups) (row : RowValues) where
  pub list-absent : is_none (first_field row.fields) ≡ true → list_in reads columns groups row ≡ Ok []
  unfolding list_in
  list-absent none = if-absent row.fields _ none

  pub list-there :
      is_none (first_field row.fields) ≡ false →
      list_in reads columns groups row
      ≡ unless (list_fault row (groups_in_fields groups row) columns) (filter_map reads (groups_in_fields groups row))
  unfolding list_in
  list-there some = if-there row.fields _ some

  pub list-faulty :
      (fault : FieldFault) → is_none (first_field row.fields) ≡ false →
      list_fault row (groups_in_fields groups row) columns ≡ Some fault → list_in reads columns groups row ≡ Err fault
  list-faulty fault some e = list-there some ∙ rw e refl

  pub list-whole :
      (items : List A) → AreSubfields reads columns → is_none (first_field row.fields) ≡ false →
      map (λ item. Some item) items ≡ map reads (groups_in_fields groups row) → length items ≢ 0 →
      list_in reads columns groups row ≡ Ok items
  list-whole items are some same there =
      let calm = read-calm reads columns row (groups_in_fields groups row) items are same there in
      list-there some ∙ rw calm (ap (λ (xs : List A). Ok xs) (items-are reads (groups_in_fields groups row) items same))

  pub list-without_groups :
      is_none (first_field row.fields) ≡ false → list_fault row (groups_in_fields groups row) columns ≡ None →
      map reads (groups_in_fields groups row) ≡ [] → list_in reads columns groups row ≡ Ok []
  list-without_groups some calm none =
      list-there some ∙ rw calm (ap (λ (xs : List A). Ok xs) (items-are reads (groups_in_fields groups row) [] (sym none)))

-- what was read as no items has no groups
pub nothing-read :
    {A : Type 0} (items : List A) {answers : List (Option A)} {n : ℕ} → n ≡ length items → (n == 0) ≡ true →
    map (λ item. Some item) items ≡ answers → answers ≡ []
nothing-read [] size none same = sym same
nothing-read (item ∷ items) {n = n} size none same = let zero = eqb-true n 0 none in absurd (omega arith)

-- The entries of records, one after the other.
use Rattle.std.proofs.Common.{◌≡◌, ℕ, ◌+◌, ◌<◌, ◌≤◌, Bool, true, false, cond, List, [], ◌∷◌, ◌++◌, length, get_or, drop}
use Rattle.std.proofs.Common.{drop-cons, add-one, Option, Some, None, Result, Ok, Err, refl, sym, ap, ◌∙◌, append_assoc}
use Rattle.std.specs.Prelude.{filter, map, is_some, is_none}
use Rattle.std.specs.List.{enumerate_from}
use Rattle.chart_model.specs.Answers.{◌>>=◌}
use Rattle.iso8211_records.specs.declared.record.RawField.{RawField}
use Rattle.s57_subfields.specs.RowValues.{RowValues, fields_in, first_of}
use Rattle.s57_subfields.specs.Answers.{Fails}
use Rattle.s57_subfields.specs.declared.fault.FieldFault.{FieldFault}
use Rattle.std.proofs.lemmas.Bool.{true≢false}
use Rattle.exchange_catalogue.specs.Entries.{CATD, catd_row, entry_in, rows_of, all_of, entries_of}
use Rattle.iso8211_formats.specs.Layout.{Layout}
use Rattle.iso8211_records.specs.FileValue.{FileValue}
use Rattle.iso8211_records.specs.Kinds.{layout_at}
use Rattle.std.proofs.Math.ListN.{drop_of_length-le}
use Rattle.std.proofs.lemmas.List.{append-nil}
use Rattle.exchange_catalogue.specs.declared.entry.Entry.{Entry}
use Rattle.exchange_catalogue.specs.declared.row.CatdRow.{CatdRow}

-- what is read, behind what was read before it
abbrev pub behind : List Entry → Result (List Entry) FieldFault → Result (List Entry) FieldFault
behind front read = read >>= λ more. Ok (front ++ more)

-- the entries of records that are counted from this number
abbrev pub entries_from : CatdRow → ℕ → List (List RawField) → Result (List Entry) FieldFault
entries_from row number records = all_of (map (entry_in row) (rows_of (enumerate_from number records)))

pub behind-nothing : (read : Result (List Entry) FieldFault) → behind [] read ≡ read
behind-nothing (Ok entries) = refl
behind-nothing (Err fault) = refl

behind-one : (front : List Entry) (entry : Entry) (read : Result (List Entry) FieldFault)
    → behind front (read >>= λ more. Ok (entry ∷ more)) ≡ behind (front ++ entry ∷ []) read
behind-one front entry (Ok entries) = ap (λ (l : List Entry). Ok l) (sym (append_assoc front (entry ∷ []) entries))
behind-one front entry (Err fault) = refl

all-one : (entry : Entry) (answer : Result Entry FieldFault) (answers : List (Result Entry FieldFault))
    → answer ≡ Ok entry
    → all_of (answer ∷ answers) ≡ (all_of answers >>= λ more. Ok (entry ∷ more))
unfolding all_of
all-one entry answer answers e = rw e refl

all-fault : (fault : FieldFault) (answer : Result Entry FieldFault) (answers : List (Result Entry FieldFault))
    → answer ≡ Err fault
    → all_of (answer ∷ answers) ≡ Err fault
unfolding all_of
all-fault fault answer answers e = rw e refl

module _ (row : CatdRow) (number : ℕ) (fields : List RawField) (rest : List (List RawField)) where
  abbrev values : RowValues
  values = fields_in number CATD fields

  listed : (b : Bool) → is_some (first_of values.fields) ≡ b
      → rows_of (enumerate_from number (fields ∷ rest)) ≡ cond b (values ∷ rows_of (enumerate_from (number + 1) rest))
      (rows_of (enumerate_from (number + 1) rest))
  listed b e = ap (λ (c : Bool). cond c (values ∷ rows_of (enumerate_from (number + 1) rest))
      (rows_of (enumerate_from (number + 1) rest))) e

  -- a record with a field
  pub entry-next : (front : List Entry) (entry : Entry) → is_some (first_of values.fields) ≡ true
      → entry_in row values ≡ Ok entry
      → behind front (entries_from row number (fields ∷ rest)) ≡ behind (front ++ entry ∷ [])
      (entries_from row (number + 1) rest)
  entry-next front entry has e =
      ap (λ (l : List RowValues). behind front (all_of (map (entry_in row) l))) (listed true has)
      ∙ ap (behind front) (all-one entry (entry_in row values)
      (map (entry_in row) (rows_of (enumerate_from (number + 1) rest))) e)
      ∙ behind-one front entry (entries_from row (number + 1) rest)

  -- one without
  pub entry-none : (front : List Entry) → is_some (first_of values.fields) ≡ false
      → behind front (entries_from row number (fields ∷ rest)) ≡ behind front (entries_from row (number + 1) rest)
  entry-none front has =
      ap (λ (l : List RowValues). behind front (all_of (map (entry_in row) l))) (listed false has)

  -- one whose entry is not read
  pub entry-fault : (front : List Entry) (fault : FieldFault) → is_some (first_of values.fields) ≡ true
      → entry_in row values ≡ Err fault
      → behind front (entries_from row number (fields ∷ rest)) ≡ Err fault
  entry-fault front fault has e =
      ap (λ (l : List RowValues). behind front (all_of (map (entry_in row) l))) (listed true has)
      ∙ ap (behind front) (all-fault fault (entry_in row values)
      (map (entry_in row) (rows_of (enumerate_from (number + 1) rest))) e)

-- ---- a record at its place

some_unless : {A : Type 0} (o : Option A) → is_none o ≡ false → is_some o ≡ true
some_unless None e = absurd (true≢false e)
some_unless (Some x) e = refl

none_where : {A : Type 0} (o : Option A) → is_none o ≡ true → is_some o ≡ false
none_where None e = refl
none_where (Some x) e = absurd (true≢false (sym e))

module _ (row : CatdRow) (records : List (List RawField)) (index : ℕ) (fields : List RawField)
    (here : index < length records)
    (at : fields ≡ get_or records index fields) where
  behind_it : drop index records ≡ fields ∷ drop (index + 1) records
  behind_it = drop-cons records index fields here ∙ (λ i. sym at i ∷ drop (sym (add-one index) i) records)

  module _ (front : List Entry) (whole : Result (List Entry) FieldFault)
      (so_far : behind front (entries_from row (index + 1) (drop index records)) ≡ whole)
      (values : RowValues) (is : values ≡ fields_in (index + 1) CATD fields) where
    now_it : behind front (entries_from row (index + 1) (fields ∷ drop (index + 1) records)) ≡ whole
    now_it = ap (λ (l : List (List RawField)). behind front (entries_from row (index + 1) l)) (sym behind_it) ∙ so_far

    has_it : is_none (first_of values.fields) ≡ false
        → is_some (first_of (fields_in (index + 1) CATD fields).fields) ≡ true
    has_it some = ap (λ (v : RowValues). is_some (first_of v.fields)) (sym is)
        ∙ some_unless (first_of values.fields) some

    pub so_far-entry : (entry : Entry) → is_none (first_of values.fields) ≡ false → entry_in row values ≡ Ok entry
        → behind (front ++ entry ∷ []) (entries_from row (index + 1 + 1) (drop (index + 1) records)) ≡ whole
    so_far-entry entry some e =
        sym (entry-next row (index + 1) fields (drop (index + 1) records) front entry (has_it some)
        (ap (entry_in row) (sym is) ∙ e)) ∙ now_it

    pub so_far-none : is_none (first_of values.fields) ≡ true
        → behind front (entries_from row (index + 1 + 1) (drop (index + 1) records)) ≡ whole
    so_far-none none =
        let has = ap (λ (v : RowValues). is_some (first_of v.fields)) (sym is)
        ∙ none_where (first_of values.fields) none in
        sym (entry-none row (index + 1) fields (drop (index + 1) records) front has) ∙ now_it

    fault_of_all : (fault : FieldFault) → is_none (first_of values.fields) ≡ false → entry_in row values ≡ Err fault
        → whole ≡ Err fault
    fault_of_all fault some e =
        sym now_it ∙ entry-fault row (index + 1) fields (drop (index + 1) records) front fault (has_it some)
        (ap (entry_in row) (sym is) ∙ e)

    pub so_far-fault : (fault : FieldFault) → is_none (first_of values.fields) ≡ false
        → Fails fault (entry_in row values) → Fails fault whole
    so_far-fault fault some h = λ differs. fault_of_all fault some (h differs)

-- ---- all records

pub whole-is : (file : FileValue) (row : CatdRow) (layout : Option Layout) (records : List (List RawField))
    → row ≡ catd_row layout
    → layout ≡ layout_at file.descriptors CATD → records ≡ file.records → entries_from row 1 records ≡ entries_of file
whole-is file row layout records found described read =
    (λ i. entries_from (found i) 1 (read i))
    ∙ ap (λ (l : Option Layout). entries_from (catd_row l) 1 file.records) described

nothing-left : (row : CatdRow) (number : ℕ) → entries_from row number [] ≡ Ok []
unfolding all_of
nothing-left row number = refl

pub at_end : (row : CatdRow) (records : List (List RawField)) (index : ℕ) (front : List Entry)
    (whole : Result (List Entry) FieldFault)
    → length records ≤ index → behind front (entries_from row (index + 1) (drop index records)) ≡ whole
    → whole ≡ Ok front
at_end row records index front whole done so_far =
    sym so_far ∙ ap (λ (l : List (List RawField)). behind front (entries_from row (index + 1) l))
    (drop_of_length-le records {i = index} done)
    ∙ ap (behind front) (nothing-left row (index + 1)) ∙ ap (λ (l : List Entry). Ok l) (append-nil front)

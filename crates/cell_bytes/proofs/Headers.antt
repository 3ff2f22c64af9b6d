-- What holds of the header of a chart is enough for its texts to be plain and its records short.
use Rattle.std.proofs.Common.{◌≡◌, ◌≢◌, true, ℕ, pos, ◌+◌, ◌%◌, ◌^◌, ◌<◌, ◌≤◌, List, [], ◌∷◌, ◌++◌, length, refl, sym, subst, arith, append_assoc, length-append, codes, lit≤}
use Rattle.std.proofs.lemmas.Fmt.{decimal_by_steps, length-decimal-le}
use Rattle.std.specs.Prelude.{nat_lt}
use Rattle.std.specs.List.{list_all}
use Rattle.std.proofs.lemmas.Bool.Decides.{nat_tests}
use Rattle.std.proofs.lemmas.List.Elements.{All-append, All-cons, All-nil, All-weaker}
use Rattle.std.proofs.lemmas.List.Sums.{AllPass-from_list_all}
use Rattle.text_scan.specs.Written.{decimal_of}
use Rattle.chart_model.specs.declared.dataset.Header.{Header}
use Rattle.chart_model.specs.Cell.{CellValue, IsChartHeader}
use Rattle.chart_model.specs.Key.{IsVisible}
use Rattle.chart_model.specs.Record.{IsPlainText}
use Rattle.cell_bytes.specs.declared.data_set.Purpose.TheVariants.{NewDataSet}
use Rattle.cell_bytes.specs.Subfields.{b11, b12, b14, open_text}
use Rattle.cell_bytes.specs.Record.{digits, entries, entry, field, field_area, record_bytes, leader_of, of_data, record_of}
use Rattle.cell_bytes.specs.Vector.{record_identifier}
use Rattle.cell_bytes.specs.DataSet.{data_set_identifier, dates_text, datum_text, exchange_text, factor_text, feature_counts}
use Rattle.cell_bytes.specs.DataSet.{general_fields, name_and_numbers, number_text, parameter_fields, parameter_text}
use Rattle.cell_bytes.specs.DataSet.{product_text, structure_text, unit_text, vector_counts}
use Rattle.cell_bytes.proofs.RecordFaults.{length-of_record}

-- neither a field terminator nor a unit terminator
abbrev pub IsPlainByte : ℕ → Type 0
IsPlainByte byte = (byte ≢ 30) × (byte ≢ 31)

plain_above : (byte : ℕ) → 31 < byte → IsPlainByte byte
plain_above byte above = ((λ (e : byte ≡ 30). absurd (omega arith)), (λ (e : byte ≡ 31). absurd (omega arith)))

-- a text that is known is looked at byte by byte
pub plain_text : (text : List ℕ) → list_all (nat_lt 31) text ≡ true → IsPlainText text
plain_text text each =
    All-weaker (λ (byte : ℕ). nat_lt 31 byte ≡ true) IsPlainByte (λ byte test. plain_above byte (grind (arith, nat_tests))) text
    (AllPass-from_list_all (nat_lt 31) text each)

plain_digit : (d : ℕ) → d < 10 → IsPlainText ((48 + d) ∷ [])
plain_digit d small = All-cons IsPlainByte (48 + d) [] (plain_above (48 + d) (omega arith)) (All-nil IsPlainByte)

pub plain_decimal : (n : ℕ) → n < 2 ^ 64 → IsPlainText (decimal_of (pos n))
plain_decimal n small =
    let Q : ℕ → List ℕ → Type 0 = λ _ text. IsPlainText text in
    decimal_by_steps Q (λ d low. plain_digit d low)
    (λ d text high before. All-append IsPlainByte text ((48 + d % 10) ∷ []) before (plain_digit (d % 10) (omega arith))) n small

visible_plain : (byte : ℕ) → IsVisible byte → IsPlainByte byte
visible_plain byte visible = let low : 33 ≤ byte = visible.0 in plain_above byte (omega arith)

pub plain_name : (header : Header) → IsChartHeader header → IsPlainText (header.key ++ codes "." ++ codes "000")
plain_name header chart =
    subst IsPlainText (sym (append_assoc header.key (codes ".") (codes "000")))
    (All-append IsPlainByte header.key (codes ".000")
    (All-weaker IsVisible IsPlainByte visible_plain header.key chart.key.visible) (plain_text (codes ".000") refl))

-- ---- how long the first records are

decimal_short : (n : ℕ) → n ≤ 999999999 → length (decimal_of (pos n)) ≤ 9
decimal_short n small = length-decimal-le 9 n (omega arith) (omega arith) (omega arith)

names_short : (header : Header) → IsChartHeader header → length (name_and_numbers NewDataSet header) ≤ 60
unfolding name_and_numbers number_text open_text
names_short header chart =
    let key : length header.key ≤ 32 = chart.key.short in
    let edition = decimal_short header.edition chart.edition.1 in
    let update = decimal_short header.update chart.update in
    let name : List ℕ = header.key ++ codes "." ++ codes "000" in
    let first : List ℕ = name ++ 31 ∷ [] in
    let second : List ℕ = decimal_of (pos header.edition) ++ 31 ∷ [] in
    let third : List ℕ = decimal_of (pos header.update) ++ 31 ∷ [] in
    omega (
      arith,
      length-append (first ++ second) third,
      length-append first second,
      length-append name (31 ∷ []),
      length-append (header.key ++ codes ".") (codes "000"),
      length-append header.key (codes "."),
      length-append (decimal_of (pos header.edition)) (31 ∷ []),
      length-append (decimal_of (pos header.update)) (31 ∷ []),
    )

length-dates_text : (header : Header) → length header.issued ≡ 8 → length (dates_text header) ≡ 20
unfolding dates_text
length-dates_text header issued =
    omega (arith, length-append (header.issued ++ header.issued) (codes "03.1"), length-append header.issued header.issued, issued)

length-exchange_text : length (exchange_text NewDataSet) ≡ 7
unfolding exchange_text b11 b14
length-exchange_text = refl

length-product_text : (agency : ℕ) → length (product_text NewDataSet agency) ≡ 10
unfolding product_text open_text b11 b12
length-product_text agency = refl

identifier_short : (header : Header) → IsChartHeader header → length header.issued ≡ 8
    → length (data_set_identifier NewDataSet header) ≤ 200
unfolding data_set_identifier
identifier_short header chart issued =
    let exchange : List ℕ = exchange_text NewDataSet in
    let names : List ℕ = name_and_numbers NewDataSet header in
    omega (
      arith,
      length-append (exchange ++ names ++ dates_text header) (product_text NewDataSet header.agency),
      length-append (exchange ++ names) (dates_text header),
      length-append exchange names,
      names_short header chart,
      length-dates_text header issued,
      length-exchange_text,
      length-product_text header.agency,
    )

structure_short : (cell : CellValue) → length (structure_text cell) ≡ 35
unfolding structure_text feature_counts vector_counts b11 b14
structure_short cell = refl

entries_short : (number : ℕ) (cell : CellValue) → length (entries 0 (general_fields number cell)) ≡ 42
unfolding general_fields record_identifier field entries entry digits
entries_short number cell = refl

area_short : (number : ℕ) (cell : CellValue) → IsChartHeader cell.header → length cell.header.issued ≡ 8
    → length (field_area (general_fields number cell)) ≤ 300
unfolding general_fields record_identifier field field_area b12
area_short number cell chart issued =
    let dsid : List ℕ = data_set_identifier NewDataSet cell.header ++ 30 ∷ [] in
    let dssi : List ℕ = structure_text cell ++ 30 ∷ [] in
    omega (
      arith,
      length-append dsid (dssi ++ []),
      length-append dssi [],
      length-append (data_set_identifier NewDataSet cell.header) (30 ∷ []),
      length-append (structure_text cell) (30 ∷ []),
      identifier_short cell.header chart issued,
      structure_short cell,
    )

pub general_short : (number : ℕ) (cell : CellValue) → IsChartHeader cell.header → length cell.header.issued ≡ 8
    → length (record_of of_data (general_fields number cell)) ≤ 99999
general_short number cell chart issued =
    omega (arith, length-of_record (general_fields number cell), entries_short number cell, area_short number cell chart issued)

pub parameters_short : (number scale : ℕ) → length (record_of of_data (parameter_fields number scale)) ≤ 99999
unfolding record_of record_bytes leader_of entries entry field_area field digits parameter_fields record_identifier parameter_text datum_text unit_text factor_text open_text b11 b12 b14
parameters_short number scale = lit≤ tt
